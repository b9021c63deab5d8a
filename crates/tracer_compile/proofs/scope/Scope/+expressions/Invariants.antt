use Rattle.std.proofs.Common.{◌+◌, ◌*◌}
use Rattle.tracer_lang.specs.Tree.{expression_of, arguments_of}
use Rattle.tracer_lang.specs.Limits.{expression_nodes, arguments_nodes}
use Rattle.tracer_compile.specs.Scopes.{scope_of, counts_of}
use Rattle.tracer_compile.proofs.Remaining.{ArgumentsRemain}
use Rattle.tracer_compile.proofs.scope.Scope.+expressions.Given as goal

abbrev pub decreases-arguments : goal.decreases-arguments
decreases-arguments l = 2 * arguments_nodes (arguments_of l.arguments.now) + 1

abbrev pub decreases-expression : goal.decreases-expression
decreases-expression l = 2 * expression_nodes (expression_of l.e.now)

abbrev pub invariant-arguments-loop-rest : goal.invariant-arguments-loop-rest
invariant-arguments-loop-rest l =
    ArgumentsRemain (counts_of l.self) (scope_of l.self) (arguments_of l.arguments)
    l.initial.code.items (arguments_of l.rest) l.code.items
