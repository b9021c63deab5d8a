use denote.Param.Send.{sendable}
use Rattle.std.proofs.Crossing.{crosses}
use Rattle.sledge_top.proofs.Shared.{plan_is_shared}
use Rattle.sledge_top.proofs.runs.posts_of.Goals as goal

pub run_all-requires-sync-P : goal.run_all-requires-sync-P
run_all-requires-sync-P g c κs within = search (sendable, crosses, plan_is_shared) depth 20
