use Rattle.sledge_top.proofs.Accepting.{accepted}
use Rattle.sledge_top.proofs.laws.recordings_are_accepted.Goals as goal

pub returns : goal.returns
returns g c = accepted g.W.World.hears
