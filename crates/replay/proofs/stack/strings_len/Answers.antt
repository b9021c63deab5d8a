use Rattle.std.proofs.Common.{arith}
use Rattle.replay.proofs.OpeningStack.{few_strings, length-next}
use Rattle.replay.proofs.stack.strings_len.Goals as goal

pub overflow_add-len-in-loop-arg : goal.overflow_add-len-in-loop-arg
overflow_add-len-in-loop-arg c =
    let few = few_strings c.args.args.now c.requires in
    let next = length-next c.args.args.now c.loop-arg.arg-index c.arg-item.result (omega arith) c.arg-item.is in
    omega (arith, c.loop-arg.invariant, c.len.ensures)
