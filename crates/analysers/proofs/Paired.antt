-- The records that open and close, as brackets.
use Rattle.std.proofs.Common.{◌≡◌, ◌↔◌, ℕ, zero, suc, ◌+◌, ◌-◌, ◌<◌, ◌≤◌, Bool, true, false, cond, List, [], ◌∷◌, ◌++◌, length, map, get_or, take, drop, Option, Some, None, ◌⊎◌, inl, inr, refl, sym, ap, subst, ◌∙◌, length-append, arith}
use Rattle.std.specs.Prelude.{not, ◌&&◌, ◌==◌, nat_lt}
use Rattle.std.specs.List.{fold, count_by, Contains, filter_map, cons_option, slice_get, AllPairs}
use Rattle.std.proofs.lemmas.Bool.{cases_lt, false≢true, and_parts, lt-ltb}
use Rattle.std.proofs.lemmas.List.{take-append-drop, take-take, get_or_append_left}
use Rattle.std.proofs.Math.Seq.{take-append_seam}
use Rattle.std.proofs.lemmas.List.Elements.{Contains-append_left, Contains-push, Contains-push_cases, filter_map-append}
use Rattle.std.proofs.lemmas.List.Sums.{sum_by-append, count_by_more_yes, count_by_more_no}
use Rattle.std.proofs.lemmas.Option.{slice_get_within, get_or_from_slice_get}
use Rattle.tracer_lang.specs.declared.record.Record.{Record}
use Rattle.analysers.specs.declared.row.Row.{Row}
use Rattle.analysers.specs.declared.row.Row.TheVariants.{Of}
use Rattle.analysers.specs.declared.kind.KindOf.TheVariants.{Open}
use Rattle.analysers.specs.Analyses.{analyse}
use Rattle.analysers.specs.Streams.{told_along, without_last, open_after, is_unopened, unopened}
use Rattle.analysers.specs.StreamMeanings.{AreRowsOf, Passes, is_opener, is_closer, number_between, IsPair, IsUnopened, IsUnclosed}
use Rattle.analysers.proofs.Due.{empty_has_none, none_in_order, push_in_order, read_more, told_is_due}
use Rattle.analysers.proofs.Risen.{one_record}

-- ---- how many pass before a number

abbrev passing : (Record → Bool) → List Record → ℕ → ℕ
passing test rs n = count_by test (take n rs)

yes : (test : Record → Bool) (rs : List Record) (n : ℕ) (r : Record) → slice_get rs n ≡ Some r
    → test r ≡ true → passing test rs (n + 1) ≡ passing test rs n + 1
yes test rs n r at is =
    count_by_more_yes test rs n r (slice_get_within rs n r at)
    (ap test (get_or_from_slice_get rs n r r at) ∙ is)

no : (test : Record → Bool) (rs : List Record) (n : ℕ) (r : Record) → slice_get rs n ≡ Some r
    → test r ≡ false → passing test rs (n + 1) ≡ passing test rs n
no test rs n r at is =
    count_by_more_no test rs n r (slice_get_within rs n r at)
    (ap test (get_or_from_slice_get rs n r r at) ∙ is)

counted_between : (test : Record → Bool) (rs : List Record) (i k : ℕ) → i < k
    → passing test rs (i + 1) + number_between test rs i k ≡ passing test rs k
counted_between test rs i k less =
    let within : i + 1 ≤ k = omega (arith, less) in
    ap (λ (front : List Record). count_by test front + number_between test rs i k)
    (sym (take-take (i + 1) k rs within))
    ∙ sym (sum_by-append (λ (r : Record). cond (test r) 1 0) (take (i + 1) (take k rs))
    (drop (i + 1) (take k rs)))
    ∙ ap (count_by test) (take-append-drop (i + 1) (take k rs))

-- ---- sums of such numbers

later_le : (cn on co oo d e c o cm om : ℕ) → cn + oo + d ≡ on + co → cm ≡ cn + c → om ≡ on + o
    → o + d ≡ c + e → cm + oo ≤ om + co
later_le cn on co oo d e c o cm om now more less step = omega (arith, now, more, less, step)

later_eq : (cn on co oo d e c o cm om : ℕ) → cn + oo + d ≡ on + co → cm ≡ cn + c → om ≡ on + o
    → o + d ≡ c + e → cm + oo + e ≡ om + co
later_eq cn on co oo d e c o cm om now more less step = omega (arith, now, more, less, step)

between_le : (c o ci oi nc no : ℕ) → ci + nc ≡ c → oi + no ≡ o → c + oi ≤ o + ci → nc ≤ no
between_le c o ci oi nc no first second le = omega (arith, first, second, le)

whole_le : (c o ci oi nc no : ℕ) → ci + nc ≡ c → oi + no ≡ o → nc ≤ no → c + oi ≤ o + ci
whole_le c o ci oi nc no first second le = omega (arith, first, second, le)

between_eq : (c o ci oi nc no : ℕ) → ci + nc ≡ c → oi + no ≡ o → c + oi + 0 ≡ o + ci → nc ≡ no
between_eq c o ci oi nc no first second same = omega (arith, first, second, same)

whole_eq : (c o ci oi nc no : ℕ) → ci + nc ≡ c → oi + no ≡ o → nc ≡ no → c + oi ≡ o + ci
whole_eq c o ci oi nc no first second same = omega (arith, first, second, same)

too_many : (c o ci oi d e : ℕ) → c + oi ≡ o + ci → d ≡ c + 1 → e ≡ o → d + oi ≤ e + ci → ⊥
too_many c o ci oi d e same more kept le = omega (arith, same, more, kept, le)

plus_none : (a b : ℕ) → a ≡ b → a ≡ b + 0
plus_none a b same = omega (arith, same)

is_some_open : (s front : List Record) (q : Record) → s ≡ front ++ q ∷ []
    → nat_lt 0 (length s) ≡ true
is_some_open s front q kept =
    let len = ap length kept ∙ length-append front (q ∷ []) in lt-ltb 0 (length s) (omega (arith, len))

-- ---- lists, taken apart at their ends

snoc_cases : {X : Type 0} (xs : List X)
    → (xs ≡ []) ⊎ ((init : List X) × (last : X) × (xs ≡ init ++ last ∷ []))
snoc_cases [] = inl refl
snoc_cases (x ∷ xs) = elim (snoc_cases xs) [
  | inl none ↦ inr ([], x, ap (λ ys. x ∷ ys) none)
  | inr some ↦ inr (x ∷ some.0, some.1, ap (λ ys. x ∷ ys) some.2)
]

front_in_order : (is : List ℕ) (top : ℕ) → AllPairs (λ i j. i < j) (is ++ top ∷ [])
    → AllPairs (λ i j. i < j) is
front_in_order is top rising i j d less within =
    let more : j < length (is ++ top ∷ []) = subst (λ (n : ℕ). j < n)
    (sym (length-append is (top ∷ []))) (let up : j < length is + 1 = omega (arith, within) in up) in
    let first : i < length is = omega (arith, less, within) in
    let pair = rising i j d less more in
    subst (λ (n : ℕ). n < get_or is j d) (get_or_append_left is (top ∷ []) d i first)
    (subst (λ (n : ℕ). get_or (is ++ top ∷ []) i d < n)
    (get_or_append_left is (top ∷ []) d j within) pair)

-- ---- pairs

module _ (opens closes : ℕ) (rs : List Record) where
  abbrev opened : ℕ → ℕ
  opened n = passing (is_opener opens) rs n

  abbrev closed : ℕ → ℕ
  closed n = passing (is_closer opens closes) rs n

  abbrev Opening : ℕ → Type 0
  Opening i = Passes (is_opener opens) rs i

  abbrev Closing : ℕ → Type 0
  Closing j = Passes (is_closer opens closes) rs j

  abbrev Pair : ℕ → ℕ → Type 0
  Pair i j = IsPair opens closes rs i j

  no_opener : (r : Record) → is_closer opens closes r ≡ true → is_opener opens r ≡ false
  no_opener r is = not_true (r.point == opens) (and_parts (not (r.point == opens))
      (r.point == closes) is).0
    where
      not_true : (b : Bool) → not b ≡ true → b ≡ false
      not_true false h = refl
      not_true true h = absurd (false≢true h)

  pair_eq : (i j : ℕ) → Pair i j → closed j + opened (i + 1) ≡ opened j + closed (i + 1)
  pair_eq i j pair = whole_eq (closed j) (opened j) (closed (i + 1)) (opened (i + 1))
      (number_between (is_closer opens closes) rs i j) (number_between (is_opener opens) rs i j)
      (counted_between (is_closer opens closes) rs i j pair.before)
      (counted_between (is_opener opens) rs i j pair.before) pair.as_many

  pair_le : (i j k : ℕ) → Pair i j → i < k → k < j
      → closed k + opened (i + 1) ≤ opened k + closed (i + 1)
  pair_le i j k pair after before =
      whole_le (closed k) (opened k) (closed (i + 1)) (opened (i + 1))
      (number_between (is_closer opens closes) rs i k) (number_between (is_opener opens) rs i k)
      (counted_between (is_closer opens closes) rs i k after)
      (counted_between (is_opener opens) rs i k after) (pair.never_more k after before)

  -- behind its pair, more close than open
  not_past : (i j : ℕ) → Pair i j
      → closed (j + 1) + opened (i + 1) ≤ opened (j + 1) + closed (i + 1) → ⊥
  not_past i j pair le =
      let (r, at, is) = pair.closing in
      too_many (closed j) (opened j) (closed (i + 1)) (opened (i + 1)) (closed (j + 1))
      (opened (j + 1)) (pair_eq i j pair) (yes (is_closer opens closes) rs j r at is)
      (no (is_opener opens) rs j r at (no_opener r is)) le

  one_closer : (i j n : ℕ) → Pair i j → Pair i n → j < n → ⊥
  one_closer i j n pair other less = elim (cases_lt (j + 1) n) [
    | inl before ↦
        not_past i j pair (pair_le i n (j + 1) other
        (let after = pair.before in omega (arith, after)) before)
    | inr past ↦
        let here : n ≡ j + 1 = omega (arith, less, past) in
        let same = pair_eq i n other in
        not_past i j pair (subst (λ (k : ℕ). closed k + opened (i + 1) ≤ opened k + closed (i + 1))
        here (at_most (closed n + opened (i + 1)) (opened n + closed (i + 1)) same))
  ]
    where
      at_most : (a b : ℕ) → a ≡ b → a ≤ b
      at_most a b same = omega (arith, same)

  -- ---- records that are open before a number, with so many above them

  record Held (i above n : ℕ) : Type 0 where
    before : i < n
    opening : Opening i
    never_more : (k : ℕ) → i < k → k < n + 1
        → closed k + opened (i + 1) ≤ opened k + closed (i + 1)
    more : closed n + opened (i + 1) + above ≡ opened n + closed (i + 1)

  abbrev AllHeld : List ℕ → ℕ → Type 0
  AllHeld [] n = Unit {0}
  AllHeld (i ∷ is) n = Held i (length is) n × AllHeld is n

  held_more : (i d e n o c : ℕ) → opened (n + 1) ≡ opened n + o → closed (n + 1) ≡ closed n + c
      → o + d ≡ c + e → Held i d n → Held i e (n + 1)
  held_more i d e n o c up down step held = record {
    before = let less = held.before in omega (arith, less);
    opening = held.opening;
    never_more = λ k after within. elim (cases_lt k (n + 1)) [
      | inl less ↦ held.never_more k after less
      | inr past ↦
          let here : n + 1 ≡ k = omega (arith, within, past) in
          subst (λ (m : ℕ). closed m + opened (i + 1) ≤ opened m + closed (i + 1)) here
          (later_le (closed n) (opened n) (closed (i + 1)) (opened (i + 1)) d e c o
          (closed (n + 1)) (opened (n + 1)) held.more down up step)
    ];
    more = later_eq (closed n) (opened n) (closed (i + 1)) (opened (i + 1)) d e c o
        (closed (n + 1)) (opened (n + 1)) held.more down up step;
  }

  opens_now : (n : ℕ) → Opening n → Held n 0 (n + 1)
  opens_now n opening = record {
    before = omega arith;
    opening = opening;
    never_more = λ k after within.
        let here : n + 1 ≡ k = omega (arith, after, within) in
        subst (λ (m : ℕ). closed m + opened (n + 1) ≤ opened m + closed (n + 1)) here
        (swapped_le (closed (n + 1)) (opened (n + 1)));
    more = swapped_eq (closed (n + 1)) (opened (n + 1));
  }
    where
      swapped_le : (a b : ℕ) → a + b ≤ b + a
      swapped_le a b = omega arith

      swapped_eq : (a b : ℕ) → a + b + 0 ≡ b + a
      swapped_eq a b = omega arith

  pushed : (is : List ℕ) (n : ℕ) → opened (n + 1) ≡ opened n + 1 → closed (n + 1) ≡ closed n + 0
      → Opening n → AllHeld is n → AllHeld (is ++ n ∷ []) (n + 1)
  pushed [] n up down opening held = (opens_now n opening, tt)
  pushed (i ∷ is) n up down opening held =
      let len = length-append is (n ∷ []) in
      let step : 1 + length is ≡ 0 + length (is ++ n ∷ []) = omega (arith, len) in (
        held_more i (length is) (length (is ++ n ∷ [])) n 1 0 up down step held.0,
        pushed is n up down opening held.1,
      )

  popped : (is : List ℕ) (top n : ℕ) → opened (n + 1) ≡ opened n + 0
      → closed (n + 1) ≡ closed n + 1 → AllHeld (is ++ top ∷ []) n → AllHeld is (n + 1)
  popped [] top n up down held = tt
  popped (i ∷ is) top n up down held =
      let len = length-append is (top ∷ []) in
      let step : 0 + length (is ++ top ∷ []) ≡ 1 + length is = omega (arith, len) in (
        held_more i (length (is ++ top ∷ [])) (length is) n 0 1 up down step held.0,
        popped is top n up down held.1,
      )

  passed : (is : List ℕ) (n : ℕ) → opened (n + 1) ≡ opened n + 0 → closed (n + 1) ≡ closed n + 0
      → AllHeld is n → AllHeld is (n + 1)
  passed [] n up down held = tt
  passed (i ∷ is) n up down held =
      (held_more i (length is) (length is) n 0 0 up down refl held.0, passed is n up down held.1)

  top_held : (is : List ℕ) (top n : ℕ) → AllHeld (is ++ top ∷ []) n → Held top 0 n
  top_held [] top n held = held.0
  top_held (i ∷ is) top n held = top_held is top n held.1

  each_held : (is : List ℕ) (k n : ℕ) → AllHeld is n → Contains is k → (d : ℕ) × Held k d n
  each_held [] k n held there = absurd (empty_has_none k there)
  each_held (i ∷ is) k n held (zero, less, same) =
      (length is, subst (λ (m : ℕ). Held m (length is) n) same held.0)
  each_held (i ∷ is) k n held (suc m, less, same) =
      each_held is k n held.1 (m, omega (arith, less), same)

  held_apart : (i d n j : ℕ) → Held i d n → Pair i j → j < n → ⊥
  held_apart i d n j held pair less =
      not_past i j pair (held.never_more (j + 1)
      (let after = pair.before in omega (arith, after)) (omega (arith, less)))

  closes_top : (i n : ℕ) → Held i 0 n → Closing n → Pair i n
  closes_top i n held closing = record {
    before = held.before;
    opening = held.opening;
    closing = closing;
    as_many =
        between_eq (closed n) (opened n) (closed (i + 1)) (opened (i + 1))
        (number_between (is_closer opens closes) rs i n) (number_between (is_opener opens) rs i n)
        (counted_between (is_closer opens closes) rs i n held.before)
        (counted_between (is_opener opens) rs i n held.before) held.more;
    never_more = λ k after less.
        between_le (closed k) (opened k) (closed (i + 1)) (opened (i + 1))
        (number_between (is_closer opens closes) rs i k) (number_between (is_opener opens) rs i k)
        (counted_between (is_closer opens closes) rs i k after)
        (counted_between (is_opener opens) rs i k after)
        (held.never_more k after (omega (arith, less)));
  }

  -- ---- what is known of the open records before a number

  record Stack (s : List Record) (n : ℕ) : Type 0 where
    places : List ℕ
    in_order : AllPairs (λ i j. i < j) places
    kept : s ≡ filter_map (slice_get rs) places
    held : AllHeld places n
    rest : (k : ℕ) → k < n → Opening k
        → Contains places k ⊎ ((j : ℕ) × (j < n) × Pair k j)

  later_pair : (k n : ℕ) → ((j : ℕ) × (j < n) × Pair k j) → (j : ℕ) × (j < n + 1) × Pair k j
  later_pair k n (j, less, pair) = (j, omega (arith, less), pair)

  -- a record that opens none
  same_rest : (n : ℕ) (r : Record) → slice_get rs n ≡ Some r → is_opener opens r ≡ false
      → (k : ℕ) → k < n + 1 → Opening k → k < n
  same_rest n r at other k less (q, here, is) = elim (cases_lt k n) [
    | inl before ↦ before
    | inr past ↦
        let same : k ≡ n = omega (arith, less, past) in
        let one = one_record rs n r q at
        (subst (λ (m : ℕ). slice_get rs m ≡ Some q) same here) in
        absurd (false≢true (sym other ∙ ap (is_opener opens) one ∙ is))
  ]

  opener_kept : (s : List Record) (n : ℕ) (r : Record) → slice_get rs n ≡ Some r
      → is_opener opens r ≡ true → is_closer opens closes r ≡ false → Stack s n
      → Stack (s ++ r ∷ []) (n + 1)
  opener_kept s n r at is other stack = record {
    places = stack.places ++ n ∷ [];
    in_order = push_in_order stack.places n stack.in_order
        (λ k there. (each_held stack.places k n stack.held there).1.before);
    kept =
        ap (λ (front : List Record). front ++ r ∷ []) stack.kept
        ∙ sym (read_more rs stack.places n r at);
    held = pushed stack.places n (yes (is_opener opens) rs n r at is)
        (plus_none (closed (n + 1)) (closed n) (no (is_closer opens closes) rs n r at other))
        (r, at, is) stack.held;
    rest = λ k less opening. elim (cases_lt k n) [
      | inl before ↦ elim (stack.rest k before opening) [
        | inl there ↦ inl (Contains-append_left stack.places (n ∷ []) k there)
        | inr pair ↦ inr (later_pair k n pair)
      ]
      | inr past ↦
          let same : n ≡ k = omega (arith, less, past) in
          inl (subst (Contains (stack.places ++ n ∷ [])) same (Contains-push stack.places n))
    ];
  }

  without_top : (front : List Record) (q : Record) → without_last (front ++ q ∷ []) ≡ front
  without_top front q =
      let len = length-append front (q ∷ []) in
      let e : length (front ++ q ∷ []) - 1 ≡ length front = omega (arith, len) in
      ap (λ (m : ℕ). take m (front ++ q ∷ [])) e ∙ take-append_seam front (q ∷ [])

  top_kept : (s : List Record) (is : List ℕ) (top : ℕ) (q : Record) → slice_get rs top ≡ Some q
      → s ≡ filter_map (slice_get rs) (is ++ top ∷ [])
      → s ≡ filter_map (slice_get rs) is ++ q ∷ []
  top_kept s is top q at kept = kept ∙ read_more rs is top q at

  closer_kept : (s : List Record) (n : ℕ) (r : Record) → slice_get rs n ≡ Some r
      → is_opener opens r ≡ false → is_closer opens closes r ≡ true → Stack s n
      → Stack (without_last s) (n + 1)
  closer_kept s n r at other is stack =
      let up = plus_none (opened (n + 1)) (opened n) (no (is_opener opens) rs n r at other) in
      let down = yes (is_closer opens closes) rs n r at is in
      elim (snoc_cases stack.places) [
        | inl none ↦ record {
          places = [];
          in_order = none_in_order;
          kept = ap without_last (stack.kept ∙ ap (filter_map (slice_get rs)) none);
          held = tt;
          rest = λ k less opening.
              elim (stack.rest k (same_rest n r at other k less opening) opening) [
                | inl there ↦ absurd (empty_has_none k (subst (λ (ks : List ℕ). Contains ks k) none there))
                | inr pair ↦ inr (later_pair k n pair)
              ];
        }
        | inr (init, top, split) ↦
            let held = subst (λ (ks : List ℕ). AllHeld ks n) split stack.held in
            let last = top_held init top n held in
            let kept = top_kept s init top last.opening.0 last.opening.1
            (stack.kept ∙ ap (filter_map (slice_get rs)) split) in
            record {
              places = init;
              in_order = front_in_order init top
                  (subst (AllPairs (λ i j. i < j)) split stack.in_order);
              kept = ap without_last kept
                  ∙ without_top (filter_map (slice_get rs) init) last.opening.0;
              held = popped init top n up down held;
              rest = λ k less opening.
                  elim (stack.rest k (same_rest n r at other k less opening) opening) [
                    | inl there ↦
                        elim (Contains-push_cases init top k
                        (subst (λ (ks : List ℕ). Contains ks k) split there)) [
                          | inl under ↦ inl under
                          | inr same ↦
                              inr (
                                n,
                                omega arith,
                                subst (λ (m : ℕ). Pair m n) same
                                    (closes_top top n last (r, at, is)),
                              )
                        ]
                    | inr pair ↦ inr (later_pair k n pair)
                  ];
            }
      ]

  other_kept : (s : List Record) (n : ℕ) (r : Record) → slice_get rs n ≡ Some r
      → is_opener opens r ≡ false → is_closer opens closes r ≡ false → Stack s n → Stack s (n + 1)
  other_kept s n r at first second stack = record {
    places = stack.places;
    in_order = stack.in_order;
    kept = stack.kept;
    held = passed stack.places n
        (plus_none (opened (n + 1)) (opened n) (no (is_opener opens) rs n r at first))
        (plus_none (closed (n + 1)) (closed n) (no (is_closer opens closes) rs n r at second))
        stack.held;
    rest = λ k less opening.
        elim (stack.rest k (same_rest n r at first k less opening) opening) [
          | inl there ↦ inl there
          | inr pair ↦ inr (later_pair k n pair)
        ];
  }

  closer_by : (r : Record) (b c : Bool) → (r.point == opens) ≡ b → (r.point == closes) ≡ c
      → is_closer opens closes r ≡ (not b && c)
  closer_by r b c first second =
      ap (λ (u : Bool). not u && (r.point == closes)) first ∙ ap (λ (u : Bool). not b && u) second

  kept_by : (s : List Record) (n : ℕ) (r : Record) (b c : Bool) → slice_get rs n ≡ Some r
      → (r.point == opens) ≡ b → (r.point == closes) ≡ c → Stack s n
      → Stack (cond b (s ++ r ∷ []) (cond c (without_last s) s)) (n + 1)
  kept_by s n r true c at first second stack =
      opener_kept s n r at first (closer_by r true c first second) stack
  kept_by s n r false true at first second stack =
      closer_kept s n r at first (closer_by r false true first second) stack
  kept_by s n r false false at first second stack =
      other_kept s n r at first (closer_by r false false first second) stack

  -- no record of a number closes where the test says so
  no_closing : (n : ℕ) (r : Record) → slice_get rs n ≡ Some r → is_closer opens closes r ≡ false
      → Closing n → ⊥
  no_closing n r at other (q, here, is) =
      false≢true (sym other ∙ ap (is_closer opens closes) (one_record rs n r q at here) ∙ is)

  none_open : (s : List Record) (n : ℕ) (r : Record) → slice_get rs n ≡ Some r
      → is_closer opens closes r ≡ true → Stack s n
      → (not (nat_lt 0 (length s)) ≡ true) ↔ IsUnopened opens closes rs n
  none_open s n r at is stack = elim (snoc_cases stack.places) [
    | inl none ↦
        let empty = stack.kept ∙ ap (filter_map (slice_get rs)) none in (
          λ told. (
            (r, at, is),
            λ i pair. elim (stack.rest i pair.before pair.opening) [
              | inl there ↦ empty_has_none i (subst (λ (ks : List ℕ). Contains ks i) none there)
              | inr (j, less, other) ↦ one_closer i j n other pair less
            ],
          ),
          λ due. ap (λ (xs : List Record). not (nat_lt 0 (length xs))) empty,
        )
    | inr (init, top, split) ↦
        let last = top_held init top n (subst (λ (ks : List ℕ). AllHeld ks n) split stack.held) in
        let kept = top_kept s init top last.opening.0 last.opening.1
        (stack.kept ∙ ap (filter_map (slice_get rs)) split) in (
          λ told.
              absurd (false≢true (sym (ap not (is_some_open s
              (filter_map (slice_get rs) init) last.opening.0 kept)) ∙ told)),
          λ due. absurd (due.1 top (closes_top top n last (r, at, is))),
        )
  ]

  told_by : (s : List Record) (n : ℕ) (r : Record) (b c : Bool) → slice_get rs n ≡ Some r
      → (r.point == opens) ≡ b → (r.point == closes) ≡ c → Stack s n
      → ((not b && (c && not (nat_lt 0 (length s)))) ≡ true) ↔ IsUnopened opens closes rs n
  told_by s n r true c at first second stack = (
    λ told. absurd (false≢true told),
    λ due. absurd (no_closing n r at (closer_by r true c first second) due.0),
  )
  told_by s n r false false at first second stack = (
    λ told. absurd (false≢true told),
    λ due. absurd (no_closing n r at (closer_by r false false first second) due.0),
  )
  told_by s n r false true at first second stack =
      none_open s n r at (closer_by r false true first second) stack

  empty_stack : Stack [] 0
  empty_stack = record {
    places = [];
    in_order = none_in_order;
    kept = refl;
    held = tt;
    rest = λ k less opening. absurd (omega (arith, less));
  }

  open_told : Stack (fold (open_after opens closes) [] rs) (length rs)
      × AreRowsOf (IsUnopened opens closes rs) rs
      (told_along (open_after opens closes) (unopened opens closes) [] rs)
  open_told =
      told_is_due (open_after opens closes) (is_unopened opens closes) rs
      (IsUnopened opens closes rs) Stack
      (λ s n r at stack. kept_by s n r (r.point == opens) (r.point == closes) at refl refl stack)
      (λ s n r at stack. told_by s n r (r.point == opens) (r.point == closes) at refl refl stack) []
      empty_stack (λ k due. (due.0.0, due.0.1))

  unclosed_rows : (s : List Record) → Stack s (length rs)
      → AreRowsOf (IsUnclosed opens closes rs) rs (map Of s)
  unclosed_rows s stack = record {
    numbers = stack.places;
    in_order = stack.in_order;
    exactly = λ k. (
      λ there.
          let held = each_held stack.places k (length rs) stack.held there in (
            held.1.opening,
            λ j pair. held_apart k held.0 (length rs) j held.1 pair
                (slice_get_within rs j pair.closing.0 pair.closing.1),
          ),
      λ due. elim (stack.rest k (slice_get_within rs k due.0.0 due.0.1) due.0) [
        | inl there ↦ there
        | inr (j, less, pair) ↦ absurd (due.1 j pair)
      ],
    );
    shown = ap (map Of) stack.kept;
  }

pub open_at_once : (opens closes : ℕ) (rs : List Record)
    → AreRowsOf (IsUnopened opens closes rs) rs
    (told_along (open_after opens closes) (unopened opens closes) [] rs)
open_at_once opens closes rs = (open_told opens closes rs).1

pub open_means : (opens closes : ℕ) (rs : List Record)
    → (first : List Row) × (last : List Row)
    × (analyse (Open opens closes) rs ≡ first ++ last)
    × AreRowsOf (IsUnopened opens closes rs) rs first
    × AreRowsOf (IsUnclosed opens closes rs) rs last
unfolding analyse
open_means opens closes rs = (
  told_along (open_after opens closes) (unopened opens closes) [] rs,
  map Of (fold (open_after opens closes) [] rs),
  refl,
  (open_told opens closes rs).1,
  unclosed_rows opens closes rs (fold (open_after opens closes) [] rs) (open_told opens closes rs).0,
)
