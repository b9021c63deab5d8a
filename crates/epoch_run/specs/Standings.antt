-- Where a worker stands between two epochs.
use Rattle.std.specs.Prelude.{◌≡◌, ℕ, nat_lt, Option, Some, None, if◌then◌else◌}
use Rattle.std.proofs.Props.{props}
use mathlib.Core.HLevel.{Unit-prop}
use Rattle.rec_format.specs.Recorded.{end_place, recorded_state}
use Rattle.checkpoints.specs.RecordedRun.{opened_of}
use Rattle.epoch_run.specs.declared.plan.Plan.{Plan}
use Rattle.epoch_run.specs.declared.worker.Worker.{Worker}
use Rattle.epoch_run.specs.Loaded.{state-set}
use Rattle.epoch_run.specs.Plans.{state_in, CanTrace}

-- a worker is in the state that a checkpoint records, where one is named
abbrev pub StandsAt : Plan → Worker → Option ℕ → Type 0
StandsAt plan worker None = Unit {0}
StandsAt plan worker (Some k) =
    state_in worker ≡ recorded_state plan.checkpoints.rec (opened_of plan.checkpoints) k

-- and it can run the tracers of the plan
pub record StandsIn (plan : Plan) (worker : Worker) : Type 0 where
  pub state : StandsAt plan worker worker.at
  pub bank : CanTrace plan worker

-- there is one proof of it at most

StandsAt-prop : (plan : Plan) (worker : Worker) (at : Option ℕ) → IsProp (StandsAt plan worker at)
StandsAt-prop plan worker None = Unit-prop
StandsAt-prop plan worker (Some k) = state-set _ _

ruleset standing_props = (props, StandsAt-prop)

pub StandsIn-prop : (plan : Plan) (worker : Worker) → IsProp (StandsIn plan worker)
StandsIn-prop plan worker = Prim.hlevel standing_props

-- a checkpoint, where it is not that of the end
abbrev pub place_before_end : Plan → ℕ → Option ℕ
place_before_end plan b = if nat_lt b (end_place plan.checkpoints.rec) then Some b else None
