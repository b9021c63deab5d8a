use Rattle.tracer_compile.proofs.Emitting.{one_zero_more, no_zero_more}
use Rattle.tracer_compile.proofs.blocks.zeros.Goals as goal

pub loop-preserved : goal.loop-preserved
loop-preserved c =
    one_zero_more c.loop.code.items _ c.push.new.code.items c.args.count c.loop.counter
    c.loop-test.true c.loop.invariant c.in_ok-push.ensures

pub returns : goal.returns
returns c =
    no_zero_more c.loop.code.items _ c.args.count c.loop.counter c.loop-test.false
    c.loop.invariant
