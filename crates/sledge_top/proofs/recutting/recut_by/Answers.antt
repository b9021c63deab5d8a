use Rattle.std.proofs.lemmas.Result.{err_from_is_err_and}
use Rattle.sledge_top.proofs.Recuts.{recut_fails, recut_whole}
use Rattle.sledge_top.proofs.recutting.recut_by.Goals as goal

pub returns-in_err-rec-clause-value : goal.returns-in_err-rec-clause-value
returns-in_err-rec-clause-value g c =
    let why = c.in_err-rec.field-0.0 in
    let p = err_from_is_err_and c.from_residual.result c.from_residual.ensures.1 in
    rw (p.1, p.2) (recut_fails c.args.every c.args.rec c.args.image why c.in_err-rec.ensures.value)

pub returns-clause-value : goal.returns-clause-value
returns-clause-value g c = recut_whole c.args.every c.args.rec c.args.image (c.in_ok-rec.rec, c.in_ok-rec.image) c.in_ok-recut.field-0 c.in_ok-rec.ensures.value c.in_ok-recut.ensures.is
