use Rattle.std.proofs.Common.{ap, subst, ◌∙◌}
use Rattle.checkpoints.specs.RecordedRun.{opened_of}
use Rattle.sl_base.specs.Refusals.{Gives}
use Rattle.sledge_top.specs.Replays.{replayed_alone}
use Rattle.sledge_top.proofs.trace.replayed_from.Goals as goal

pub returns-clause-text : goal.returns-clause-text
returns-clause-text g c =
    let plan = c.in_ok-plan.plan in
    let known = c.in_ok-plan.ensures in
    let same = ap (λ rec. replayed_alone rec (opened_of plan.checkpoints)) known.recording ∙ ap (replayed_alone c.args.rec) known.opened in
    subst (Gives (λ text. text.items) c.replayed_alone.result) same c.replayed_alone.ensures.text
