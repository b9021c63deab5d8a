use Rattle.std.proofs.Common.{arith}
use Rattle.replay.proofs.OpeningStack.{few_strings}
use Rattle.replay.proofs.stack.strings_start.Goals as goal

pub overflow_add-result : goal.overflow_add-result
overflow_add-result c =
    let few = few_strings c.args.args.now c.requires in
    omega (arith, c.strings_len.ensures)

pub overflow_mul-result : goal.overflow_mul-result
overflow_mul-result c =
    let few = few_strings c.args.args.now c.requires in
    omega (arith, c.strings_len.ensures)

pub overflow_sub-result : goal.overflow_sub-result
overflow_sub-result c =
    let few = few_strings c.args.args.now c.requires in
    omega (arith, c.strings_len.ensures)
