-- The ends of loaded segments by their starts.
use Rattle.std.specs.Prelude.{IsSome, nat_lt, ◌==◌, ◌||◌, nat_eq}
use Rattle.std.specs.List.{AllByRecursion, list_any}
use Rattle.std.specs.Ordering.{nat_cmp, is_lt}
use Rattle.std.specs.BTreeMap.{BTreeMap, get, IsUnchanged, Updates}
use Rattle.std.specs.Cmp.{unsigned_tied, ranked, nat_cmp_is}
use Rattle.std.proofs.lemmas.List.Folds.{list_any-append}
use Rattle.std.specs.declared.cmp.Ordering.TheVariants.{Less}
use Rattle.std.proofs.Common.{◌≡◌, ℕ, ◌+◌, ◌<◌, ◌≤◌, Bool, true, false, cond, List, [], ◌∷◌, ◌++◌, Some, None, refl, sym, ap, subst, ◌∙◌, ◌⊎◌, inl, inr, ⊎_elim, arith, true≢false, lt-ltb, eq-eqb}
use Rattle.std.proofs.lemmas.Bool.{and_parts, and_from, or_cases, ltb-true, eqb-true, cases_Bool, cases_order, cases_lt, or_left, or_right}
use Rattle.elf_image.specs.declared.image.Segment.{Segment}
use Rattle.elf_image.specs.Segments.{has_byte_in}
use Rattle.elf_image.specs.Ranges.{lies_at, AreEnds}

abbrev Ends : Type 0
Ends = BTreeMap ℕ ℕ

-- a map with the same entries serves as well
pub AreEnds-same : (m n : Ends) (segments : List Segment) → IsUnchanged m n → AreEnds m segments → AreEnds n segments
AreEnds-same m n segments same is = record {
  each = rw same is.each;
  only = rw same is.only;
  some = rw same is.some;
  apart = rw same is.apart;
}

-- a segment that passes a test, with what is known of each
pub one_of : (p : Segment → Bool) (P : Segment → Type 0) (segments : List Segment) → AllByRecursion P segments → list_any p segments ≡ true
    → (segment : Segment) × (p segment ≡ true) × P segment
one_of p P [] each is = absurd (true≢false (sym is))
one_of p P (segment ∷ segments) each is = ⊎_elim
    (λ (here : p segment ≡ true). (segment, here, each.0))
    (λ (later : list_any p segments ≡ true). one_of p P segments each.1 later)
    (or_cases (p segment) (list_any p segments) is)

-- a test that passes where another does
pub any_passes : (p q : Segment → Bool) → ((s : Segment) → p s ≡ true → q s ≡ true) → (segments : List Segment) → list_any p segments ≡ true → list_any q segments ≡ true
any_passes p q gives [] is = is
any_passes p q gives (s ∷ ss) is = ⊎_elim
    (λ (here : p s ≡ true). ap (λ b. b || list_any q ss) (gives s here))
    (λ (later : list_any p ss ≡ true). ap (λ b. q s || b) (any_passes p q gives ss later) ∙ or_true (q s))
    (or_cases (p s) (list_any p ss) is)
  where
    or_true : (b : Bool) → (b || true) ≡ true
    or_true true = refl
    or_true false = refl

both : (a b : Bool) → (a ≡ true → b ≡ true) → (b ≡ true → a ≡ true) → a ≡ b
both true b f g = sym (f refl)
both false true f g = g refl
both false false f g = refl

some_same : {x y : ℕ} → Some x ≡ Some y → x ≡ y
some_same e = cc

differ : {x : ℕ} → None ≡ Some x → ⊥
differ e = cc

module _ (ends : Ends) (segments : List Segment) (are : AreEnds ends segments) (start end : ℕ) where
  -- a segment at an entry
  reaches : (a reached : ℕ) → get nat_cmp ends a ≡ Some reached → a < end → start < reached → list_any (has_byte_in start end) segments ≡ true
  reaches a reached got below above = any_passes (lies_at a reached) (has_byte_in start end) gives segments (are.only a reached got)
    where
      gives : (s : Segment) → lies_at a reached s ≡ true → has_byte_in start end s ≡ true
      gives s is =
          let parts = and_parts (s.vaddr == a) (s.vaddr + s.memsz == reached) is in
          let first : s.vaddr ≡ a = eqb-true s.vaddr a parts.0 in
          let last : s.vaddr + s.memsz ≡ reached = eqb-true (s.vaddr + s.memsz) reached parts.1 in
          and_from (nat_lt start (s.vaddr + s.memsz)) (nat_lt s.vaddr end) (lt-ltb start (s.vaddr + s.memsz) (omega arith)) (lt-ltb s.vaddr end (omega arith))

  -- an entry at a segment
  found : list_any (has_byte_in start end) segments ≡ true → (a : ℕ) × (reached : ℕ) × (get nat_cmp ends a ≡ Some reached) × (a < end) × (start < reached)
  found is =
      let one = one_of (has_byte_in start end) (λ s. get nat_cmp ends s.vaddr ≡ Some (s.vaddr + s.memsz)) segments are.each is in
      let s = one.0 in
      let parts = and_parts (nat_lt start (s.vaddr + s.memsz)) (nat_lt s.vaddr end) one.1 in
      (s.vaddr, s.vaddr + s.memsz, one.2, ltb-true s.vaddr end parts.1, ltb-true start (s.vaddr + s.memsz) parts.0)

  -- the last entry that starts before the end decides
  pub last_decides : (a reached : ℕ) → get nat_cmp ends a ≡ Some reached → a < end → ((q : ℕ) → q < end → IsSome (get nat_cmp ends q) → q ≤ a)
      → nat_lt start reached ≡ list_any (has_byte_in start end) segments
  last_decides a reached got below last = both (nat_lt start reached) (list_any (has_byte_in start end) segments)
      (λ above. reaches a reached got below (ltb-true start reached above))
      (λ is. lt-ltb start reached (further (found is)))
    where
      further : (b : ℕ) × (b_end : ℕ) × (get nat_cmp ends b ≡ Some b_end) × (b < end) × (start < b_end) → start < reached
      further (b, b_end, b_got, b_below, above) = ⊎_elim
          (λ (same : b ≡ a). subst (λ n. start < n) (some_same (sym b_got ∙ ap (get nat_cmp ends) same ∙ got)) above)
          (λ (apart : (b < a) ⊎ (a < b)). ⊎_elim
          (λ (before : b < a).
          let upto = are.apart b b_end a reached b_got got before in
          let longer = are.some a reached got in
          omega arith)
          (λ (after : a < b).
          let most : b ≤ a = last b b_below (rw b_got refl) in
          absurd (omega arith))
          apart)
          (cases_order b a)

  pub none_decides : ((q : ℕ) → q < end → get nat_cmp ends q ≡ None) → false ≡ list_any (has_byte_in start end) segments
  none_decides none = ⊎_elim
      (λ (is : list_any (has_byte_in start end) segments ≡ true).
      let one = found is in
      absurd (differ (sym (none one.0 one.3) ∙ one.2)))
      (λ (is : list_any (has_byte_in start end) segments ≡ false). sym is)
      (cases_Bool (list_any (has_byte_in start end) segments))

-- ---- one more segment

pub each_kept : (P Q : Segment → Type 0) → ((s : Segment) → P s → Q s) → (segments : List Segment) (segment : Segment) → AllByRecursion P segments → Q segment → AllByRecursion Q (segments ++ segment ∷ [])
each_kept P Q gives [] segment each new = (new, tt)
each_kept P Q gives (s ∷ ss) segment each new = (gives s each.0, each_kept P Q gives ss segment each.1 new)

or_false : (b : Bool) → (b || false) ≡ b
or_false true = refl
or_false false = refl

pub AreEnds-push : (m n : Ends) (segments : List Segment) (segment : Segment) → AreEnds m segments → 0 < segment.memsz
    → list_any (has_byte_in segment.vaddr (segment.vaddr + segment.memsz)) segments ≡ false
    → Updates nat_cmp m n segment.vaddr (Some (segment.vaddr + segment.memsz)) → AreEnds n (segments ++ segment ∷ [])
AreEnds-push m n segments segment are takes free updates = record {
  each = each_kept (λ s. get nat_cmp m s.vaddr ≡ Some (s.vaddr + s.memsz)) (λ s. get nat_cmp n s.vaddr ≡ Some (s.vaddr + s.memsz)) kept segments segment are.each (got segment.vaddr ∙ ap (λ b. cond b (Some (segment.vaddr + segment.memsz)) (get nat_cmp m segment.vaddr)) (eq-eqb segment.vaddr segment.vaddr refl));
  only = only;
  some = some;
  apart = apart;
}
  where
    got : (q : ℕ) → get nat_cmp n q ≡ cond (nat_eq segment.vaddr q) (Some (segment.vaddr + segment.memsz)) (get nat_cmp m q)
    got q = updates.0 q ∙ ap (λ b. cond b (Some (segment.vaddr + segment.memsz)) (get nat_cmp m q)) (unsigned_tied segment.vaddr q)

    -- an entry of the new map is the new one or an old one
    cases : (q q_end : ℕ) → get nat_cmp n q ≡ Some q_end → ((q ≡ segment.vaddr) × (q_end ≡ segment.vaddr + segment.memsz)) ⊎ (get nat_cmp m q ≡ Some q_end)
    cases q q_end is = chosen (nat_eq segment.vaddr q) refl (sym (got q) ∙ is)
      where
        chosen : (b : Bool) → nat_eq segment.vaddr q ≡ b → cond b (Some (segment.vaddr + segment.memsz)) (get nat_cmp m q) ≡ Some q_end → ((q ≡ segment.vaddr) × (q_end ≡ segment.vaddr + segment.memsz)) ⊎ (get nat_cmp m q ≡ Some q_end)
        chosen true same is = inl (sym (eqb-true segment.vaddr q same), sym (some_same is))
        chosen false same is = inr is

    -- no old entry shares a byte
    clear : (q q_end : ℕ) → get nat_cmp m q ≡ Some q_end → q < segment.vaddr + segment.memsz → segment.vaddr < q_end → ⊥
    clear q q_end is below above = true≢false (sym (reaches m segments are segment.vaddr (segment.vaddr + segment.memsz) q q_end is below above) ∙ free)

    kept : (s : Segment) → get nat_cmp m s.vaddr ≡ Some (s.vaddr + s.memsz) → get nat_cmp n s.vaddr ≡ Some (s.vaddr + s.memsz)
    kept s is = chosen (nat_eq segment.vaddr s.vaddr) refl (got s.vaddr)
      where
        chosen : (b : Bool) → nat_eq segment.vaddr s.vaddr ≡ b → get nat_cmp n s.vaddr ≡ cond b (Some (segment.vaddr + segment.memsz)) (get nat_cmp m s.vaddr) → get nat_cmp n s.vaddr ≡ Some (s.vaddr + s.memsz)
        chosen true same value =
            let longer = are.some s.vaddr (s.vaddr + s.memsz) is in
            let here : segment.vaddr ≡ s.vaddr = eqb-true segment.vaddr s.vaddr same in
            absurd (clear s.vaddr (s.vaddr + s.memsz) is (omega arith) (omega arith))
        chosen false same value = value ∙ is

    only : (q q_end : ℕ) → get nat_cmp n q ≡ Some q_end → list_any (lies_at q q_end) (segments ++ segment ∷ []) ≡ true
    only q q_end is = list_any-append (lies_at q q_end) segments (segment ∷ []) ∙ ⊎_elim
        (λ (new : (q ≡ segment.vaddr) × (q_end ≡ segment.vaddr + segment.memsz)).
        let passes : lies_at q q_end segment ≡ true = and_from (segment.vaddr == q) (segment.vaddr + segment.memsz == q_end) (eq-eqb segment.vaddr q (sym new.0)) (eq-eqb (segment.vaddr + segment.memsz) q_end (sym new.1)) in
        or_right (list_any (lies_at q q_end) segments) (lies_at q q_end segment || false) (or_false (lies_at q q_end segment) ∙ passes))
        (λ (old : get nat_cmp m q ≡ Some q_end). or_left (list_any (lies_at q q_end) segments) (lies_at q q_end segment || false) (are.only q q_end old))
        (cases q q_end is)

    some : (q q_end : ℕ) → get nat_cmp n q ≡ Some q_end → q < q_end
    some q q_end is = ⊎_elim
        (λ (new : (q ≡ segment.vaddr) × (q_end ≡ segment.vaddr + segment.memsz)).
        let first = new.0 in
        let last = new.1 in
        omega arith)
        (λ (old : get nat_cmp m q ≡ Some q_end). are.some q q_end old)
        (cases q q_end is)

    apart : (a a_end b b_end : ℕ) → get nat_cmp n a ≡ Some a_end → get nat_cmp n b ≡ Some b_end → a < b → a_end ≤ b
    apart a a_end b b_end a_is b_is before = ⊎_elim
        (λ (a_new : (a ≡ segment.vaddr) × (a_end ≡ segment.vaddr + segment.memsz)).
        let a_first = a_new.0 in
        let a_last = a_new.1 in
        ⊎_elim
        (λ (b_new : (b ≡ segment.vaddr) × (b_end ≡ segment.vaddr + segment.memsz)).
        let b_first = b_new.0 in
        absurd (omega arith))
        (λ (b_old : get nat_cmp m b ≡ Some b_end).
        let longer = are.some b b_end b_old in
        at_most a_end b (λ below. clear b b_end b_old (omega arith) (omega arith)))
        (cases b b_end b_is))
        (λ (a_old : get nat_cmp m a ≡ Some a_end). ⊎_elim
        (λ (b_new : (b ≡ segment.vaddr) × (b_end ≡ segment.vaddr + segment.memsz)).
        let b_first = b_new.0 in
        at_most a_end b (λ below. clear a a_end a_old (omega arith) (omega arith)))
        (λ (b_old : get nat_cmp m b ≡ Some b_end). are.apart a a_end b b_end a_old b_old before)
        (cases b b_end b_is))
        (cases a a_end a_is)
      where
        at_most : (x y : ℕ) → (y < x → ⊥) → x ≤ y
        at_most x y never = ⊎_elim (λ (lt : y < x). absurd (never lt)) (λ (le : x ≤ y). le) (cases_lt y x)

-- ---- what a look-up in the map answers

pub below : (a b : ℕ) → nat_cmp a b ≡ Less → a < b
below a b is = ranked a b Less (sym is)

pub is_less : (a b : ℕ) → a < b → nat_cmp a b ≡ Less
is_less a b less = sym (nat_cmp_is a b Less less)

pub up_to : (a q : ℕ) → is_lt (nat_cmp a q) ≡ false → q ≤ a
up_to a q is = ⊎_elim (λ (less : a < q). absurd (true≢false (sym (ap is_lt (is_less a q less)) ∙ is))) (λ (le : q ≤ a). le) (cases_lt a q)
