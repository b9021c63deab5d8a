-- A walk over the dirty pages, one after the other.
use Rattle.std.specs.Prelude.{slice_get, MatchOption, IfSome, IfNone}
use Rattle.std.proofs.Common.{◌≡◌, ℕ, zero, suc, ◌+◌, ◌-◌, ◌<◌, ◌≤◌, List, [], ◌∷◌, ◌++◌, length, take, Option, Some, None, refl, sym, ap, subst, ◌∙◌, arith}
use Rattle.std.proofs.lemmas.List.{length_push, take_all}

taken_at : (n : ℕ) (xs : List ℕ) (x : ℕ) → slice_get xs n ≡ Some x → (n < length xs) × (take (n + 1) xs ≡ take n xs ++ x ∷ [])
taken_at n [] x is = absurd cc
taken_at zero (y ∷ xs) x is =
    let same : y ≡ x = cc in
    (omega arith, ap (λ (z : ℕ). z ∷ []) same)
taken_at (suc n) (y ∷ xs) x is =
    let rest = taken_at n xs x is in
    let next : suc n + 1 ≡ suc (n + 1) = omega arith in
    (omega (arith, rest.0), ap (λ k. take k (y ∷ xs)) next ∙ ap (λ (l : List ℕ). y ∷ l) rest.1)

past : (n : ℕ) (xs : List ℕ) → slice_get xs n ≡ None → length xs ≤ n
past n [] is = omega arith
past zero (y ∷ xs) is = absurd cc
past (suc n) (y ∷ xs) is = omega (arith, past n xs is)

-- a walk that has taken n pages stands at the last of them, or at none
abbrev pub StandsAt : Option ℕ → List ℕ → ℕ → Type 0
StandsAt at dirty n = MatchOption at (n ≡ 0) (λ page. (0 < n) × (slice_get dirty (n - 1) ≡ Some page))

-- what comes next is the page behind those taken
pub comes_next : (at next : Option ℕ) (dirty : List ℕ) (n : ℕ) → StandsAt at dirty n → IfNone at (next ≡ slice_get dirty 0) → IfSome at (λ page. (i : ℕ) → slice_get dirty i ≡ Some page → next ≡ slice_get dirty (i + 1)) → next ≡ slice_get dirty n
comes_next None next dirty n stands first on = first ∙ ap (slice_get dirty) (sym stands)
comes_next (Some page) next dirty n stands first on =
    let low = stands.0 in
    let one : n - 1 + 1 ≡ n = omega arith in
    on (n - 1) stands.1 ∙ ap (slice_get dirty) one

pub record Takes (numbers dirty more : List ℕ) (page : ℕ) : Type 0 where
  pub within : length numbers < length dirty
  pub longer : length more ≡ length numbers + 1
  pub taken : more ≡ take (length more) dirty
  pub at : slice_get dirty (length more - 1) ≡ Some page

pub takes : (numbers dirty more : List ℕ) (page : ℕ) → numbers ≡ take (length numbers) dirty → Some page ≡ slice_get dirty (length numbers) → more ≡ numbers ++ page ∷ [] → Takes numbers dirty more page
takes numbers dirty more page taken next added =
    let there = taken_at (length numbers) dirty page (sym next) in
    let long : length more ≡ length numbers + 1 = ap length added ∙ length_push numbers page in
    let place : length more - 1 ≡ length numbers = omega arith in
    record {
      within = there.0;
      longer = long;
      taken = added ∙ ap (λ (l : List ℕ). l ++ page ∷ []) taken ∙ sym there.1 ∙ ap (λ k. take k dirty) (sym long);
      at = ap (slice_get dirty) place ∙ sym next;
    }

pub takes_all : (numbers dirty : List ℕ) → numbers ≡ take (length numbers) dirty → None ≡ slice_get dirty (length numbers) → numbers ≡ dirty
takes_all numbers dirty taken none = taken ∙ take_all (length numbers) dirty (past (length numbers) dirty (sym none))
