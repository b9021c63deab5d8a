-- What a stream tells, where it is known which records it tells.
use Rattle.std.proofs.Common.{◌≡◌, ◌↔◌, ℕ, zero, suc, ◌+◌, ◌<◌, ◌≤◌, Bool, true, false, List, [], ◌∷◌, ◌++◌, length, map, get_or, Option, Some, None, inl, inr, refl, sym, ap, subst, ◌∙◌, append_assoc, arith}
use Rattle.std.specs.List.{fold, Contains, filter_map, cons_option, slice_get, AllPairs}
use Rattle.std.proofs.lemmas.Bool.{cases_lt, false≢true}
use Rattle.std.proofs.lemmas.List.{map-append, append-nil}
use Rattle.std.proofs.lemmas.List.Elements.{Contains-get_or, Contains-append_left, Contains-push, Contains-push_cases, filter_map-append}
use Rattle.std.proofs.lemmas.List.Quantifiers.{all_pairs_push}
use Rattle.std.proofs.lemmas.Option.{slice_get_within}
use Rattle.tracer_lang.specs.declared.record.Record.{Record}
use Rattle.analysers.specs.declared.row.Row.{Row}
use Rattle.analysers.specs.declared.row.Row.TheVariants.{Of}
use Rattle.analysers.specs.Streams.{told_along, row_where}
use Rattle.analysers.specs.StreamMeanings.{AreRowsOf}

-- ---- lists of numbers

pub empty_has_none : (k : ℕ) → Contains [] k → ⊥
empty_has_none k (i, less, is) = omega (arith, less)

pub none_in_order : AllPairs (λ (i : ℕ) (j : ℕ). i < j) []
none_in_order i j d less within = absurd (omega (arith, within))

pub push_in_order : (ks : List ℕ) (n : ℕ) → AllPairs (λ i j. i < j) ks
    → ((k : ℕ) → Contains ks k → k < n) → AllPairs (λ i j. i < j) (ks ++ n ∷ [])
push_in_order ks n rising below =
    all_pairs_push (λ i j. i < j) ks n rising
    (λ i d less. below (get_or ks i d) (Contains-get_or ks i d less))

pub read_more : (rs : List Record) (ks : List ℕ) (n : ℕ) (r : Record) → slice_get rs n ≡ Some r
    → filter_map (slice_get rs) (ks ++ n ∷ []) ≡ filter_map (slice_get rs) ks ++ r ∷ []
read_more rs ks n r is =
    filter_map-append (slice_get rs) ks (n ∷ [])
    ∙ ap (λ (o : Option Record). filter_map (slice_get rs) ks ++ cons_option o []) is

-- ---- the records before a number that are due

abbrev pub Before : (ℕ → Type 0) → ℕ → ℕ → Type 0
Before IsDue n k = (k < n) × IsDue k

pub none_before : (rs : List Record) (IsDue : ℕ → Type 0) → AreRowsOf (Before IsDue 0) rs []
none_before rs IsDue = record {
  numbers = [];
  in_order = none_in_order;
  exactly = λ k. (λ there. absurd (empty_has_none k there), λ due. absurd (omega (arith, due.0)));
  shown = refl;
}

more : (IsDue : ℕ → Type 0) (n k : ℕ) → Before IsDue n k → Before IsDue (n + 1) k
more IsDue n k (less, due) = (omega (arith, less), due)

-- one more record, which is told where it is due
pub one_more : (rs : List Record) (IsDue : ℕ → Type 0) (n : ℕ) (rows : List Row) (r : Record)
    (b : Bool) → slice_get rs n ≡ Some r → (b ≡ true) ↔ IsDue n
    → AreRowsOf (Before IsDue n) rs rows
    → AreRowsOf (Before IsDue (n + 1)) rs (rows ++ row_where b r)
one_more rs IsDue n rows r false at due so = record {
  numbers = so.numbers;
  in_order = so.in_order;
  exactly = λ k. (
    λ there. more IsDue n k ((so.exactly k).0 there),
    λ h. elim (cases_lt k n) [
      | inl less ↦ (so.exactly k).1 (less, h.1)
      | inr past ↦
          let same : k ≡ n = omega (arith, h.0, past) in
          absurd (false≢true (due.1 (subst IsDue same h.1)))
    ],
  );
  shown = append-nil rows ∙ so.shown;
}
one_more rs IsDue n rows r true at due so = record {
  numbers = so.numbers ++ n ∷ [];
  in_order = push_in_order so.numbers n so.in_order (λ k there. ((so.exactly k).0 there).0);
  exactly = λ k. (
    λ there. elim (Contains-push_cases so.numbers n k there) [
      | inl earlier ↦ more IsDue n k ((so.exactly k).0 earlier)
      | inr same ↦
          subst (Before IsDue (n + 1)) same
          (let here : n < n + 1 = omega arith in (here, due.0 refl))
    ],
    λ h. elim (cases_lt k n) [
      | inl less ↦ Contains-append_left so.numbers (n ∷ []) k ((so.exactly k).1 (less, h.1))
      | inr past ↦
          let same : n ≡ k = omega (arith, h.0, past) in
          subst (Contains (so.numbers ++ n ∷ [])) same (Contains-push so.numbers n)
    ],
  );
  shown =
      ap (λ (front : List Row). front ++ Of r ∷ []) so.shown
      ∙ sym (map-append Of (filter_map (slice_get rs) so.numbers) (r ∷ []))
      ∙ ap (map Of) (sym (read_more rs so.numbers n r at));
}

-- ---- a stream whose state is known at each record

module _ {S : Type 0} (after : S → Record → S) (test : S → Record → Bool) (rs : List Record)
    (IsDue : ℕ → Type 0) (Known : S → ℕ → Type 0)
    (keeps : (s : S) (n : ℕ) (r : Record) → slice_get rs n ≡ Some r → Known s n
    → Known (after s r) (n + 1))
    (decides : (s : S) (n : ℕ) (r : Record) → slice_get rs n ≡ Some r → Known s n
    → (test s r ≡ true) ↔ IsDue n) where
  abbrev pub told_where : S → Record → List Row
  told_where s r = row_where (test s r) r

  along : (back : List Record) (s : S) (n : ℕ) (rows : List Row)
      → ((k : ℕ) → slice_get rs (n + k) ≡ slice_get back k) → n + length back ≡ length rs
      → Known s n → AreRowsOf (Before IsDue n) rs rows
      → Known (fold after s back) (length rs)
      × AreRowsOf (Before IsDue (length rs)) rs (rows ++ told_along after told_where s back)
  along [] s n rows reads total known so =
      let same : n ≡ length rs = omega (arith, total) in (
        subst (Known s) same known,
        subst (λ (m : ℕ). AreRowsOf (Before IsDue m) rs (rows ++ [])) same
            (subst (λ (out : List Row). AreRowsOf (Before IsDue n) rs out) (sym (append-nil rows)) so),
      )
  along (r ∷ back) s n rows reads total known so =
      let first : n + 0 ≡ n = omega arith in
      let at : slice_get rs n ≡ Some r = subst (λ (j : ℕ). slice_get rs j ≡ Some r) first (reads 0) in
      let next = λ (k : ℕ).
      let e : n + suc k ≡ (n + 1) + k = omega arith in
      subst (λ (j : ℕ). slice_get rs j ≡ slice_get back k) e (reads (suc k)) in
      let rest : (n + 1) + length back ≡ length rs = omega (arith, total) in
      let result = along back (after s r) (n + 1) (rows ++ told_where s r) next rest
      (keeps s n r at known) (one_more rs IsDue n rows r (test s r) at (decides s n r at known) so) in (
        result.0,
        subst (λ (out : List Row). AreRowsOf (Before IsDue (length rs)) rs out)
            (append_assoc rows (told_where s r) (told_along after told_where (after s r) back)) result.1,
      )

  -- what is told along is what is due, and the state at the end is known
  pub told_is_due : (s : S) → Known s 0
      → ((k : ℕ) → IsDue k → (r : Record) × (slice_get rs k ≡ Some r))
      → Known (fold after s rs) (length rs) × AreRowsOf IsDue rs (told_along after told_where s rs)
  told_is_due s known stands =
      let reads = λ (k : ℕ).
      let e : k ≡ 0 + k = omega arith in subst (λ (j : ℕ). slice_get rs j ≡ slice_get rs k) e refl in
      let total : 0 + length rs ≡ length rs = omega arith in
      let result = along rs s 0 [] reads total known (none_before rs IsDue) in (
        result.0,
        record {
          numbers = result.1.numbers;
          in_order = result.1.in_order;
          exactly = λ k. (
            λ there. ((result.1.exactly k).0 there).1,
            λ due.
                let r = stands k due in
                (result.1.exactly k).1 (slice_get_within rs k r.0 r.1, due),
          );
          shown = result.1.shown;
        },
      )
