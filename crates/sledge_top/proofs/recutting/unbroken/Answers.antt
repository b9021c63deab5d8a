use Rattle.std.proofs.Common.{subst}
use Rattle.std.proofs.lemmas.Result.{err_from_is_err_and}
use Rattle.sl_base.specs.Refusals.{Fails}
use Rattle.sl_model.specs.State.{State}
use Rattle.elf_image.specs.declared.image.Image.{Image}
use Rattle.rec_format.specs.declared.recording.Recording.{Recording}
use Rattle.replay.specs.Breaks.{first_break}
use Rattle.checkpoints.specs.RecordedRun.{opened_of}
use Rattle.analysers.specs.Pieces.{merged_of}
use Rattle.epoch_run.specs.Records.{records}
use Rattle.epoch_run.specs.Plans.{tracers_of}
use Rattle.sledge_top.specs.Replays.{unless_broken}
use Rattle.sledge_top.proofs.Reports.{refuses_too}
use Rattle.sledge_top.proofs.recutting.unbroken.Goals as goal

pub returns-in_err-replay_plan-clause-value : goal.returns-in_err-replay_plan-clause-value
returns-in_err-replay_plan-clause-value g c =
    let plan = c.in_ok-plan.plan in
    let both : Recording × Image = (c.args.rec, c.args.image) in
    let opened = opened_of plan.checkpoints in
    let left = merged_of plan.kinds (records plan.checkpoints.rec (tracers_of plan) opened) in
    let why = c.in_err-replay_plan.field-0.0 in
    let fails = refuses_too both (first_break plan.checkpoints.rec opened) left why c.in_err-replay_plan.ensures.merged in
    let p = err_from_is_err_and c.from_residual-in_err-replay_plan.result c.from_residual-in_err-replay_plan.ensures.1 in
    rw (p.1, p.2) (
    subst (λ (s : State). Fails why (unless_broken both (first_break c.args.rec s))) c.in_ok-plan.ensures.opened (
    subst (λ (rec : Recording). Fails why (unless_broken both (first_break rec opened))) c.in_ok-plan.ensures.recording fails))
