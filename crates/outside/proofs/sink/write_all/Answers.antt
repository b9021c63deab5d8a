use Rattle.std.proofs.Common.{arith, length-drop}
use Rattle.std.proofs.lemmas.List.{take_rest}
use Rattle.outside.proofs.WrittenLemmas.{Adds-take}
use Rattle.outside.proofs.sink.write_all.Goals as goal

-- the sink was given the rest of the bytes
pub loop-done-preserved : goal.loop-done-preserved
loop-done-preserved g c =
    let count = rw (take_rest c.args.bytes.now c.loop-done.done) at c.in_ok-done.ensures.count in
    let added = rw (take_rest c.args.bytes.now c.loop-done.done) at c.in_ok-done.ensures.added in
    record {
      within = omega (arith, count, length-drop c.loop-done.done c.args.bytes.now);
      added = Adds-take _ _ _ _ _ _ c.loop-done.invariant.added added;
      later = omega (arith, c.in_ok-done.ensures.later);
    }
