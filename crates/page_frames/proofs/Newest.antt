-- The greatest number below a bound that a test takes.
use Rattle.std.proofs.Common.{◌≡◌, ℕ, zero, suc, ◌<◌, Bool, true, false, cond, Some, None}
use Rattle.std.proofs.Common.{refl, arith, ⊎_elim}
use Rattle.std.specs.Prelude.{Option}
use Rattle.std.proofs.lemmas.Bool.{cases_eq}
use Rattle.page_frames.specs.Linked.{newest}

-- tests that agree below the bound
pub newest-same : (test other : ℕ → Bool) (n : ℕ) → ((i : ℕ) → i < n → test i ≡ other i)
    → newest test n ≡ newest other n
newest-same test other zero same = refl
newest-same test other (suc n) same =
    rw (same n (omega arith), newest-same test other n (λ i lt. same i (omega arith))) refl

found_by : (test : ℕ → Bool) (n i : ℕ) (b : Bool) → test n ≡ b
    → (newest test n ≡ Some i → (i < n) × (test i ≡ true))
    → cond b (Some n) (newest test n) ≡ Some i → (i < suc n) × (test i ≡ true)
found_by test n i true is below found =
    let same : n ≡ i = cc in
    (omega arith, rw (← same) is)
found_by test n i false is below found =
    let both = below found in
    (omega (arith, both.0), both.1)

-- what is found lies below the bound, and the test takes it
pub newest-found : (test : ℕ → Bool) (n i : ℕ) → newest test n ≡ Some i
    → (i < n) × (test i ≡ true)
newest-found test zero i found = absurd cc
newest-found test (suc n) i found =
    found_by test n i (test n) refl (newest-found test n i) found

none_by : (test : ℕ → Bool) (n : ℕ) (b : Bool) → test n ≡ b
    → cond b (Some n) (newest test n) ≡ None
    → (test n ≡ false) × (newest test n ≡ None)
none_by test n true is none = absurd cc
none_by test n false is none = (is, none)

-- where nothing is found, the test takes nothing
pub newest-none : (test : ℕ → Bool) (n : ℕ) → newest test n ≡ None
    → (i : ℕ) → i < n → test i ≡ false
newest-none test zero none i lt = absurd (omega arith)
newest-none test (suc n) none i lt = ⊎_elim
    (λ (same : i ≡ n). rw same (none_by test n (test n) refl none).0)
    (λ (differ : i ≡ n → ⊥).
    newest-none test n (none_by test n (test n) refl none).1 i (omega (arith, differ)))
    (cases_eq i n)

-- a bound just past what was found
abbrev pub past : Option ℕ → ℕ
past None = 0
past (Some i) = suc i

start_by : (narrow wide : ℕ → Bool) (n : ℕ) (b : Bool) → wide n ≡ b
    → (narrow n ≡ true → wide n ≡ true)
    → newest narrow n ≡ newest narrow (past (newest wide n))
    → newest narrow (suc n) ≡ newest narrow (past (cond b (Some n) (newest wide n)))
start_by narrow wide n true is implied below = refl
start_by narrow wide n false is implied below = by (narrow n) refl
  where
    by : (c : Bool) → narrow n ≡ c
        → cond (narrow n) (Some n) (newest narrow n) ≡ newest narrow (past (newest wide n))
    by true taken = let yes = implied taken in absurd cc
    by false taken = rw taken below

-- Where a narrow test implies a wide one, the narrow one finds the same just past what the wide
-- one finds.
pub newest-start : (narrow wide : ℕ → Bool) (n : ℕ)
    → ((i : ℕ) → i < n → narrow i ≡ true → wide i ≡ true)
    → newest narrow n ≡ newest narrow (past (newest wide n))
newest-start narrow wide zero implied = refl
newest-start narrow wide (suc n) implied =
    start_by narrow wide n (wide n) refl (implied n (omega arith))
    (newest-start narrow wide n (λ i lt. implied i (omega arith)))
