use Rattle.replay.proofs.InRun.{Fits-onward}
use Rattle.replay.proofs.laws.replays_keep_the_layout.Goals as goal

pub returns : goal.returns
returns c rec s t fits goes = Fits-onward rec s t fits goes
