-- Sums over a list of which one element changes, and counts of what a list contains.
use Rattle.std.proofs.Common.{◌≡◌, ◌≢◌, ℕ, zero, suc, ◌+◌, ◌<◌, ◌≤◌, Bool, true, false, cond, List, [], ◌∷◌, ◌++◌, length, get_or, set, All, Contains, refl, sym, ap, ◌∙◌, subst, ⊎_elim, arith}
use Rattle.std.specs.Prelude.{sum_by, count_by, ◌==◌}
use Rattle.epoch_board.specs.Rule.{times}
use Rattle.std.proofs.lemmas.Bool.{cases_lt, cases_Bool, cond-true, cond-false, eq-eqb, ne_eqb, eqb-true}
use Rattle.std.proofs.lemmas.List.Sums.{sum_by-cons, sum_by-set, sum_by_push, get_or-le-sum_by}
use Rattle.std.proofs.lemmas.List.Elements.{All-head, All-tail}
use mathlib.Core.Option.{some, some-injective, some-ne-none}
use lib.ListN.{get_elem?}

module _ {A : Type 0} where
  pub at_length : (l : List A) (i : ℕ) (v : A) → get_elem? l i ≡ some v → i < length l
  at_length [] i v at = absurd (some-ne-none v (sym at))
  at_length (x ∷ xs) zero v at = omega arith
  at_length (x ∷ xs) (suc i) v at = omega (arith, at_length xs i v at)

  pub at_value : (l : List A) (i : ℕ) (v d : A) → get_elem? l i ≡ some v → get_or l i d ≡ v
  at_value [] i v d at = absurd (some-ne-none v (sym at))
  at_value (x ∷ xs) zero v d at = some-injective x v at
  at_value (x ∷ xs) (suc i) v d at = at_value xs i v d at

  pub All-at : (P : A → Type 0) (l : List A) (i : ℕ) (v : A) → All P l → get_elem? l i ≡ some v → P v
  All-at P l i v all at = subst P (at_value l i v v at) (all i v (at_length l i v at))

  -- the sum once the element at i, which was v, is w
  pub changed : (f : A → ℕ) (l : List A) (i : ℕ) (v w : A) → get_elem? l i ≡ some v → sum_by f (set l i w) + f v ≡ sum_by f l + f w
  changed f l i v w at = subst (λ x. sum_by f (set l i w) + f x ≡ sum_by f l + f w) (at_value l i v v at) (sum_by-set f l i w v (at_length l i v at))

  pub part_le : (f : A → ℕ) (l : List A) (i : ℕ) (v : A) → get_elem? l i ≡ some v → f v ≤ sum_by f l
  part_le f l i v at = subst (λ x. f x ≤ sum_by f l) (at_value l i v v at) (get_or-le-sum_by f l i v (at_length l i v at))

  -- where g is above 0 for each element for which f is, so are the sums
  pub some_also : (f g : A → ℕ) (l : List A) → All (λ v. 0 < f v → 0 < g v) l → 0 < sum_by f l → 0 < sum_by g l
  some_also f g [] all some_f = absurd (omega arith)
  some_also f g (x ∷ xs) all some_f =
      let both : A → Type 0 = λ v. 0 < f v → 0 < g v in
      ⊎_elim
      (λ (here : 0 < f x). let gx : 0 < g x = All-head both x xs all here in omega (arith, sum_by-cons g x xs))
      (λ (none : f x ≤ 0). let rest : 0 < sum_by g xs = some_also f g xs (All-tail both x xs all) (omega (arith, sum_by-cons f x xs)) in omega (arith, sum_by-cons g x xs))
      (cases_lt 0 (f x))

  -- a list counts each element that it contains
  pub counted : (p : A → Bool) (xs : List A) (x : A) → Contains xs x → p x ≡ true → 0 < count_by p xs
  counted p xs x there passes =
      let one : A → ℕ = λ y. cond (p y) 1 0 in
      let le : one (get_or xs there.0 x) ≤ count_by p xs = get_or-le-sum_by one xs there.0 x there.1 in
      let is : one (get_or xs there.0 x) ≡ 1 = ap one there.2 ∙ cond-true (p x) 1 0 passes in
      omega arith

  -- where something is counted, the list contains it
  pub found : (p : A → Bool) (xs : List A) → 0 < count_by p xs → (x : A) × Contains xs x × (p x ≡ true)
  found p [] some_p = absurd (omega arith)
  found p (x ∷ xs) some_p = ⊎_elim
      (λ (here : p x ≡ true). (x, (zero, omega arith, refl), here))
      (λ (not_here : p x ≡ false).
      let one : A → ℕ = λ y. cond (p y) 1 0 in
      let none : one x ≡ 0 = cond-false (p x) 1 0 not_here in
      let some_left : 0 < sum_by one xs = omega (arith, sum_by-cons one x xs) in
      let rest = found p xs some_left in
      (rest.0, (suc rest.1.0, omega (arith, rest.1.1), rest.1.2), rest.2))
      (cases_Bool (p x))

-- how often k stands in a list with one more element
pub times_same : (k j : ℕ) (xs : List ℕ) → j ≡ k → times k (xs ++ j ∷ []) ≡ times k xs + 1
times_same k j xs same = sum_by_push (λ x. cond (x == k) 1 0) xs j ∙ ap (λ n. times k xs + n) (cond-true (j == k) 1 0 (eq-eqb j k same))

pub times_other : (k j : ℕ) (xs : List ℕ) → j ≢ k → times k (xs ++ j ∷ []) ≡ times k xs
times_other k j xs other = sum_by_push (λ x. cond (x == k) 1 0) xs j ∙ ap (λ n. times k xs + n) (cond-false (j == k) 1 0 (ne_eqb j k other)) ∙ omega arith

pub times_from : (k : ℕ) (xs : List ℕ) → Contains xs k → 0 < times k xs
times_from k xs there = counted (λ x. x == k) xs k there (eq-eqb k k refl)

pub Contains-from_times : (k : ℕ) (xs : List ℕ) → 0 < times k xs → Contains xs k
Contains-from_times k xs some_k =
    let it = found (λ x. x == k) xs some_k in subst (Contains xs) (eqb-true it.0 k it.2) it.1
