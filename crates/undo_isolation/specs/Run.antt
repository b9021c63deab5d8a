-- Where a run of the machine has come to.
use Rattle.std.specs.Prelude.{◌≡◌, ℕ, ◌+◌, ◌<◌, IsFalse}
use Rattle.sl_model.specs.State.{State}
use Rattle.sl_model.specs.Runs.{steps, is_end}

-- so many steps on, each of which was counted
pub record CameTo (count : ℕ) (start now : State) (counted counted_now : ℕ) : Type 0 where
  pub state : now ≡ steps count start
  pub steps : counted_now ≡ counted + count

-- no end before so many steps
abbrev pub NoEndBefore : ℕ → State → Type 0
NoEndBefore count start = (k : ℕ) → k < count → IsFalse (is_end (steps k start))
