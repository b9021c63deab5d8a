use Rattle.std.proofs.Common.{sym, ap, subst}
use Rattle.std.proofs.lemmas.Result.{err_from_is_err_and}
use Rattle.sl_base.specs.Refusals.{Gives}
use Rattle.replay.specs.Opening.{opening}
use Rattle.sledge_top.specs.Views.{done_view}
use Rattle.sledge_top.specs.Files.{◌>>=◌}
use Rattle.sledge_top.specs.Recordings.{put_recording}
use Rattle.sledge_top.specs.Recutting.{recut_by, recut_from}
use Rattle.sledge_top.proofs.Reports.{fails_on}
use Rattle.sledge_top.proofs.recutting.recut_from.Goals as goal

pub returns-in_err-new-clause-value : goal.returns-in_err-new-clause-value
unfolding recut_from
returns-in_err-new-clause-value g c =
    let a = c.args in
    let why = c.in_err-new.field-0.0 in
    let p = err_from_is_err_and c.from_residual.result c.from_residual.ensures.1 in
    rw (p.1, p.2) (fails_on why (recut_by a.every a.rec (opening a.image a.rec.args)) (put_recording a.output.now) c.in_err-new.ensures.value)

pub returns-clause-value : goal.returns-clause-value
unfolding recut_from
returns-clause-value g c = subst (Gives done_view c.put_recording.result) (sym (ap (λ part. part >>= put_recording c.args.output.now) c.in_ok-new.ensures.value)) c.put_recording.ensures.value
