use Rattle.std.proofs.Common.{◌≡◌, map, vec_len}
use Rattle.tracer_lang.specs.Tree.{expression_of, arguments_of, no_arguments}
use Rattle.tracer_read.specs.Fronts.{arguments_before}
use Rattle.tracer_read.proofs.expressions.chained.Given as goal

abbrev pub invariant-loop-last : goal.invariant-loop-last
invariant-loop-last l =
    arguments_before (map expression_of l.read.items) (arguments_of l.args)
    ≡ arguments_before (map expression_of l.initial.read.items) no_arguments

abbrev pub decreases-loop-last : goal.decreases-loop-last
decreases-loop-last l = vec_len l.read
