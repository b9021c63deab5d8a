use Rattle.std.proofs.Common.{subst}
use Rattle.call_log.specs.declared.entry.End.{End}
use Rattle.epoch_run.specs.Firings.{RunsAtEnd}
use Rattle.epoch_run.proofs.firing.fire_at_end.Goals as goal

pub returns-in-Trapped-clause-records : goal.returns-in-Trapped-clause-records
returns-in-Trapped-clause-records c =
    let status = c.args.worker.now.m.status in
    let running = subst (λ (recorded : End). RunsAtEnd recorded status) c.in-Trapped.is c.requires.running in
    rw c.in-Trapped.is (c.fire.ensures.records running)
