use Rattle.sledge_top.proofs.OneRun.{traces_complete}
use Rattle.sledge_top.proofs.laws.traces_complete.Goals as goal

pub returns : goal.returns
returns g c = traces_complete g.W.World.hears
