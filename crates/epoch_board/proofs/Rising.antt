-- A claim above all earlier ones leaves fewer epochs above the claims.
use Rattle.std.proofs.Common.{ℕ, ◌+◌, ◌<◌, ◌≤◌, List, [], ◌∷◌, ◌++◌, All, sym, subst, ⊎_elim, arith}
use Rattle.std.specs.Prelude.{Bool, true, if◌then◌else◌, Some, None, IfSome}
use Rattle.std.proofs.lemmas.Bool.{cases_lt, lt-ltb, le-ltb}
use Rattle.std.proofs.lemmas.List.Elements.{All-head, All-tail}
use Rattle.atomic_table.specs.Seated.{TableId}
use Rattle.epoch_board.specs.declared.view.View.{View}
use Rattle.epoch_board.specs.Seats.{above, epochs_left}
use Rattle.epoch_board.specs.Views.{epoch_of, claimed, seat_of}

above-le : (k : ℕ) (xs : List ℕ) → All (λ c. c < k) xs → above xs ≤ k
above-le k [] below = omega arith
above-le k (x ∷ xs) below =
    omega (arith, above-le k xs (All-tail (λ c. c < k) x xs below), All-head (λ c. c < k) x xs below)

above_push : (k : ℕ) (xs : List ℕ) → k + 1 ≤ above (xs ++ k ∷ [])
above_push k [] = omega arith
above_push k (x ∷ xs) = omega (arith, above_push k xs)

pub fewer : (name : TableId) (v : View) (drawn : ℕ) → All (λ c. c < drawn) v.claims
    → IfSome (epoch_of v.epochs drawn) (λ _. epochs_left (seat_of name (claimed v drawn)) < epochs_left (seat_of name v))
fewer name v drawn below = ⊎_elim
    (λ (lt : drawn < v.epochs). subst Less (sym (lt-ltb drawn v.epochs lt)) (omega (arith, above-le drawn v.claims below, above_push drawn v.claims)))
    (λ (le : v.epochs ≤ drawn). subst Less (sym (le-ltb drawn v.epochs le)) tt)
    (cases_lt drawn v.epochs)
  where
    -- the claim, by whether the number drawn is below the epochs
    Less : Bool → Type 0
    Less b = IfSome
        (if b then Some drawn else None)
        (λ _. epochs_left (seat_of name (if b then record v { claims = v.claims ++ drawn ∷ [] } else record v { told = true })) < epochs_left (seat_of name v))
