-- Laws of runs.
use Rattle.std.specs.Prelude.{Bool, IsTrue, IsFalse}
use Rattle.std.proofs.Common.{◌≡◌, ℕ, zero, suc, ◌+◌, ◌-◌, ◌<◌, true, false, refl, ap, ◌∙◌, sym, subst, arith}
use Rattle.sl_model.specs.State.{State}
use Rattle.sl_model.specs.Step.{Next, Stepped, Called, Trapped, step}
use Rattle.sl_model.specs.Runs.{next_state, steps, ends_at, is_end, EndsAfter}

-- one run after another
pub steps-add : (first second : ℕ) (s : State) → steps (first + second) s ≡ steps second (steps first s)
unfolding steps
steps-add zero second s =
    let none : 0 + second ≡ second = omega arith in
    ap (λ n. steps n s) none
steps-add (suc first) second s =
    let one_more : suc first + second ≡ suc (first + second) = omega arith in
    ap (λ n. steps n s) one_more ∙ steps-add first second (next_state s (step s))

-- one step after others
pub steps-suc : (count : ℕ) (s : State) → steps (suc count) s ≡ next_state (steps count s) (step (steps count s))
unfolding steps
steps-suc zero s = refl
steps-suc (suc count) s = steps-suc count (next_state s (step s))

-- a run stays at a state that does not step
stays : (count : ℕ) (s : State) → next_state s (step s) ≡ s → steps count s ≡ s
unfolding steps
stays zero s still = refl
stays (suc count) s still = ap (steps count) still ∙ stays count s still

-- a step leads to a state, or the machine stays where it is
pub data Moves (s : State) : Type 0 where
  On : (t : State) → step s ≡ Stepped t → Moves s
  Stays : next_state s (step s) ≡ s → Moves s

moves : (s : State) → Moves s
moves s = of (step s) refl
  where
    of : (next : Next) → step s ≡ next → Moves s
    of (Stepped t) found = On t found
    of Called found = Stays (ap (next_state s) found)
    of (Trapped number) found = Stays (ap (next_state s) found)

-- before its end a run goes on with each step
pub steps-go_on : (count k : ℕ) (s : State) → EndsAfter count s → k < count → step (steps k s) ≡ Stepped (steps (suc k) s)
steps-go_on count k s ends below = of (moves (steps k s))
  where
    of : Moves (steps k s) → step (steps k s) ≡ Stepped (steps (suc k) s)
    of (On t found) =
        let led : steps (suc k) s ≡ t = steps-suc k s ∙ ap (next_state (steps k s)) found in
        found ∙ ap Stepped (sym led)
    of (Stays still) =
        let split : count ≡ k + (count - k) = omega (arith, below) in
        let same : steps count s ≡ steps k s = ap (λ n. steps n s) split ∙ steps-add k (count - k) s ∙ stays (count - k) (steps k s) still in
        let over : is_end (steps k s) ≡ true = sym (ap is_end same) ∙ ends.end in
        let open_ : is_end (steps k s) ≡ false = ends.first k below in
        absurd cc
