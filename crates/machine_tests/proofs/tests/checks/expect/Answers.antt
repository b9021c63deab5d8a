use Rattle.std.proofs.Common.{◌-◌}
use Rattle.checkpoints.proofs.Marked.{holds-all_dirty}
use Rattle.machine_tests.proofs.tests.checks.expect.Goals as goal

pub differs-told-requires-clause-holds : goal.differs-told-requires-clause-holds
differs-told-requires-clause-holds g c =
    let checkpoints = c.args.checkpoints.now in
    holds-all_dirty checkpoints.opening.pages checkpoints.rec (c.args.k - 1) c.args.state.now.1 c.requires
