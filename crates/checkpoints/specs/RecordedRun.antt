-- What the checkpoints of a recording stand for.
use Rattle.sl_model.specs.State.{State}
use Rattle.rv_machine.specs.Machine.{state_of}
use Rattle.checkpoints.specs.declared.kept.Checkpoints.{Checkpoints}

-- the opening state
abbrev pub opened_of : Checkpoints → State
opened_of checkpoints = state_of checkpoints.machine checkpoints.opening.pages
