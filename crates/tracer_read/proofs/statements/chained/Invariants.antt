use Rattle.std.proofs.Common.{◌≡◌, map, vec_len}
use Rattle.tracer_lang.specs.Tree.{statement_of, statements_of, no_statements}
use Rattle.tracer_read.specs.Fronts.{statements_before}
use Rattle.tracer_read.proofs.statements.chained.Given as goal

abbrev pub invariant-loop-last : goal.invariant-loop-last
invariant-loop-last l =
    statements_before (map statement_of l.read.items) (statements_of l.block)
    ≡ statements_before (map statement_of l.initial.read.items) no_statements

abbrev pub decreases-loop-last : goal.decreases-loop-last
decreases-loop-last l = vec_len l.read
