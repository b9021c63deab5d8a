use Rattle.epoch_run.proofs.RunEnd.{comes_to_the_end}
use Rattle.epoch_run.proofs.laws.runs_end_as_recorded.Goals as goal

pub returns : goal.returns
returns c rec opened is opens = comes_to_the_end rec opened is opens
