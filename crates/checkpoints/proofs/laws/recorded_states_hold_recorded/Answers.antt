use Rattle.checkpoints.proofs.Marked.{recorded-holds}
use Rattle.checkpoints.proofs.laws.recorded_states_hold_recorded.Goals as goal

pub returns : goal.returns
returns c = recorded-holds
