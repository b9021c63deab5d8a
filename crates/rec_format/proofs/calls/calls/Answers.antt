use Rattle.std.proofs.lemmas.Result.{err_from_is_err_and}
use Rattle.rec_format.specs.Reading.{call_at, calls_at}
use Rattle.rec_format.proofs.Items.{more, stops, ends}
use Rattle.rec_format.proofs.calls.calls.Goals as goal

pub returns-in_err-call : goal.returns-in_err-call
returns-in_err-call c =
    let p = err_from_is_err_and c.from_residual-in_err-call.result c.from_residual-in_err-call.ensures.1 in
    rw (p.1, p.2) (stops (λ _. call_at) c.in_ok-number.number c.loop.counter c.loop.calls c.loop.cursor (calls_at c.args.cursor.now) c.loop.invariant c.in_err-call.field-0.0 c.loop-test.true c.in_err-call.ensures)

pub loop-preserved : goal.loop-preserved
loop-preserved c =
    rw c.in_ok-push.ensures.ok (more (λ _. call_at) c.in_ok-number.number c.loop.counter c.loop.calls c.loop.cursor (calls_at c.args.cursor.now) c.loop.invariant c.in_ok-call.field-0 c.call.new.cursor c.loop-test.true c.in_ok-call.ensures)

pub returns : goal.returns
returns c = ends (λ _. call_at) c.in_ok-number.number c.loop.counter c.loop.calls c.loop.cursor (calls_at c.args.cursor.now) c.loop.invariant c.loop-test.false
