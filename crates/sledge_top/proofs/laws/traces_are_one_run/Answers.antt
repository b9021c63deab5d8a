use Rattle.sledge_top.proofs.OneRun.{traces_are_one_run}
use Rattle.sledge_top.proofs.laws.traces_are_one_run.Goals as goal

pub returns : goal.returns
returns g c = traces_are_one_run g.W.World.hears
