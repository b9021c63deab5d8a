use Rattle.std.proofs.Common.{arith}
use Rattle.replay.proofs.OpeningStack.{stands_at}
use Rattle.replay.proofs.stack.stack_pointer.Goals as goal

pub overflow_sub-result : goal.overflow_sub-result
overflow_sub-result c =
    let at = stands_at c.args.args.now c.requires in
    omega (arith, at.words_end, c.strings_start.ensures)
