-- Rising numbers in place of all numbers of a range.
use Rattle.std.specs.Prelude.{◌||◌, nat_eq}
use Rattle.std.specs.List.{flat_map, range_with_len, list_any, AllByRecursion}
use Rattle.std.proofs.Common.{◌≡◌, ℕ, zero, suc, ◌+◌, ◌<◌, ◌≤◌, ◌⊎◌, inl, inr, ⊎_elim, Bool, true, false, List, [], ◌∷◌, ◌++◌, refl, sym, ap, subst, ◌∙◌, arith, le_refl, ne_eqb}
use Rattle.std.proofs.lemmas.Bool.{cases_eq}

-- each number is above the one before, and the first is not below a
abbrev pub RiseFrom : ℕ → List ℕ → Type 0
RiseFrom a [] = Unit {0}
RiseFrom a (n ∷ ns) = (a ≤ n) × RiseFrom (n + 1) ns

not_below : (a q : ℕ) (ns : List ℕ) → RiseFrom a ns → q < a → list_any (nat_eq q) ns ≡ false
not_below a q [] rise lt = refl
not_below a q (n ∷ ns) rise lt =
    let low = rise.0 in
    let other : nat_eq q n ≡ false = ne_eqb q n (λ same. absurd (omega arith)) in
    ap (λ b. b || list_any (nat_eq q) ns) other ∙ not_below (n + 1) q ns rise.1 (omega arith)

in_tail : (q n : ℕ) (ns : List ℕ) → (q ≡ n → ⊥) → list_any (nat_eq q) (n ∷ ns) ≡ true → list_any (nat_eq q) ns ≡ true
in_tail q n ns apart is = sym (ap (λ b. b || list_any (nat_eq q) ns) (ne_eqb q n apart)) ∙ is

module _ {X : Type 0} (f : ℕ → List X) (stop : ℕ) where
  -- among the numbers from a on, all that give something are in the list
  abbrev pub AreAll : ℕ → List ℕ → Type 0
  AreAll a ns = (q : ℕ) → a ≤ q → q < stop → (f q ≡ []) ⊎ (list_any (nat_eq q) ns ≡ true)

  gives_none : (a : ℕ) (ns : List ℕ) → RiseFrom (a + 1) ns → a < stop → AreAll a ns → f a ≡ []
  gives_none a ns rise below all = ⊎_elim
      (λ (none : f a ≡ []). none)
      (λ (is : list_any (nat_eq a) ns ≡ true).
      let other : list_any (nat_eq a) ns ≡ false = not_below (a + 1) a ns rise (omega arith) in
      absurd cc)
      (all a (le_refl a) below)

  pub over_range : (a count : ℕ) (ns : List ℕ) → a + count ≡ stop → RiseFrom a ns → AllByRecursion (λ n. n < stop) ns → AreAll a ns → flat_map f ns ≡ flat_map f (range_with_len a count)
  over_range a zero [] is rise below all = refl
  over_range a zero (n ∷ ns) is rise below all =
      let low = rise.0 in
      let high = below.0 in
      absurd (omega arith)
  over_range a (suc count) [] is rise below all =
      over_range (a + 1) count [] (omega arith) tt tt (λ q low high. all q (omega arith) high)
      ∙ sym (ap (λ (l : List X). l ++ flat_map f (range_with_len (a + 1) count)) (gives_none a [] tt (omega arith) all))
  over_range a (suc count) (n ∷ ns) is rise below all = ⊎_elim
      (λ (same : n ≡ a).
      ap (λ k. f k ++ flat_map f ns) same
      ∙ ap (λ (l : List X). f a ++ l) (over_range (a + 1) count ns (omega arith) (subst (λ k. RiseFrom (k + 1) ns) same rise.1) below.1 (λ q low high. ⊎_elim
      (λ (none : f q ≡ []). inl none)
      (λ (there : list_any (nat_eq q) (n ∷ ns) ≡ true). inr (in_tail q n ns (λ e. absurd (omega arith)) there))
      (all q (omega arith) high))))
      (λ (apart : n ≡ a → ⊥).
      let low = rise.0 in
      let rises : RiseFrom (a + 1) (n ∷ ns) = (omega arith, rise.1) in
      over_range (a + 1) count (n ∷ ns) (omega arith) rises below (λ q low high. all q (omega arith) high)
      ∙ sym (ap (λ (l : List X). l ++ flat_map f (range_with_len (a + 1) count)) (gives_none a (n ∷ ns) rises (omega arith) all)))
      (cases_eq n a)
