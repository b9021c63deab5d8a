use Rattle.epoch_run.proofs.AtScript.{at-emits}
use Rattle.epoch_run.proofs.laws.at_emits.Goals as goal

pub returns : goal.returns
returns c = at-emits
