use Rattle.std.proofs.Common.{arith}
use Rattle.std.proofs.lemmas.Result.{err_from_is_err_and}
use Rattle.rec_format.specs.Rules.{args_size}
use Rattle.rec_format.specs.Reading.{arg_at, args_at}
use Rattle.rec_format.proofs.Sums.{args_size-push}
use Rattle.rec_format.proofs.Items.{more, stops, ends}
use Rattle.rec_format.proofs.calls.args.Goals as goal

pub returns-in_err-arg : goal.returns-in_err-arg
returns-in_err-arg c =
    let p = err_from_is_err_and c.from_residual-in_err-arg.result c.from_residual-in_err-arg.ensures.1 in
    rw (p.1, p.2) (stops (λ before. arg_at (args_size before)) c.in_ok-number.number c.loop.counter c.loop.args c.loop.cursor (args_at c.args.cursor.now) c.loop.invariant.2 c.in_err-arg.field-0.0 c.loop-test.true (rw (← c.loop.invariant.0) c.in_err-arg.ensures.read))

pub loop-preserved : goal.loop-preserved
loop-preserved c =
    let arg = c.in_ok-arg.arg in
    (rw (c.in_ok-push.ensures.ok, args_size-push c.loop.args arg) (omega (arith, c.loop.invariant.0, c.len.ensures)), omega (arith, c.in_ok-arg.ensures.room), rw c.in_ok-push.ensures.ok (more (λ before. arg_at (args_size before)) c.in_ok-number.number c.loop.counter c.loop.args c.loop.cursor (args_at c.args.cursor.now) c.loop.invariant.2 arg c.arg.new.cursor c.loop-test.true (rw (← c.loop.invariant.0) c.in_ok-arg.ensures.read)))

pub returns : goal.returns
returns c = ends (λ before. arg_at (args_size before)) c.in_ok-number.number c.loop.counter c.loop.args c.loop.cursor (args_at c.args.cursor.now) c.loop.invariant.2 c.loop-test.false
