use Rattle.std.proofs.Common.{Some, sym}
use Rattle.std.proofs.lemmas.Result.{err_from_is_err_and}
use Rattle.rec_format.specs.Rules.{last_or, count_of, listings}
use Rattle.rec_format.specs.Reading.{checkpoint_at, checkpoints_at}
use Rattle.rec_format.proofs.Sums.{last_or-push, listings-push}
use Rattle.rec_format.proofs.Items.{more, stops, ends}
use Rattle.rec_format.proofs.checkpoints.checkpoints.Goals as goal

pub returns-in_err-checkpoint-clause-read : goal.returns-in_err-checkpoint-clause-read
returns-in_err-checkpoint-clause-read c =
    let p = err_from_is_err_and c.from_residual-in_err-checkpoint.result c.from_residual-in_err-checkpoint.ensures.1 in
    rw (p.1, p.2) (stops (λ before. checkpoint_at (last_or (Some 0) count_of before) (listings before)) c.in_ok-number.number c.loop.counter c.loop.checkpoints c.loop.cursor (checkpoints_at c.args.cursor.now) c.loop.invariant.2 c.in_err-checkpoint.field-0.0 c.loop-test.true (rw (← c.loop.invariant.0, ← c.loop.invariant.1) c.in_err-checkpoint.ensures.read))

pub loop-preserved : goal.loop-preserved
loop-preserved c =
    let checkpoint = c.in_ok-checkpoint.checkpoint in
    let checkpoints = c.loop.checkpoints in
    rw c.in_ok-push.ensures.ok (
      sym (last_or-push (Some 0) count_of checkpoints checkpoint),
      rw (c.in_ok-checkpoint.ensures.listed, c.loop.invariant.1) (sym (listings-push checkpoints checkpoint)),
      more (λ before. checkpoint_at (last_or (Some 0) count_of before) (listings before)) c.in_ok-number.number c.loop.counter checkpoints c.loop.cursor (checkpoints_at c.args.cursor.now) c.loop.invariant.2 checkpoint c.checkpoint.new.cursor c.loop-test.true (rw (← c.loop.invariant.0, ← c.loop.invariant.1) c.in_ok-checkpoint.ensures.read),
    )

pub returns-clause-read : goal.returns-clause-read
returns-clause-read c = ends (λ before. checkpoint_at (last_or (Some 0) count_of before) (listings before)) c.in_ok-number.number c.loop.counter c.loop.checkpoints c.loop.cursor (checkpoints_at c.args.cursor.now) c.loop.invariant.2 c.loop-test.false
