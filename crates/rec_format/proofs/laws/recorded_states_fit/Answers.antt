use Rattle.rec_format.proofs.RecordedStates.{Fits-recorded}
use Rattle.rec_format.proofs.laws.recorded_states_fit.Goals as goal

pub returns : goal.returns
returns c rec opened k is opens = Fits-recorded rec opened k is opens
