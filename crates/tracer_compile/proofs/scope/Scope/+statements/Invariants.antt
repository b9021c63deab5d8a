use Rattle.std.proofs.Common.{◌+◌, ◌*◌}
use Rattle.tracer_lang.specs.Tree.{expression_of, statement_of, statements_of}
use Rattle.tracer_lang.specs.Limits.{expression_nodes, statement_nodes, statements_nodes}
use Rattle.tracer_compile.specs.Scopes.{scope_of, counts_of}
use Rattle.tracer_compile.proofs.Remaining.{StatementsRemain}
use Rattle.tracer_compile.proofs.scope.Scope.+statements.Given as goal

abbrev pub decreases-choice : goal.decreases-choice
decreases-choice l =
    4 * (expression_nodes (expression_of l.condition.now)
    + statement_nodes (statement_of l.first.now) + statement_nodes (statement_of l.second.now)) + 2

abbrev pub decreases-statement : goal.decreases-statement
decreases-statement l = 4 * statement_nodes (statement_of l.s.now)

abbrev pub decreases-statements : goal.decreases-statements
decreases-statements l = 4 * statements_nodes (statements_of l.block.now) + 1

abbrev pub decreases-turns : goal.decreases-turns
decreases-turns l =
    4 * (expression_nodes (expression_of l.condition.now)
    + statements_nodes (statements_of l.body.now)) + 2

abbrev pub invariant-statements-loop-rest : goal.invariant-statements-loop-rest
invariant-statements-loop-rest l =
    StatementsRemain (counts_of l.self) (scope_of l.self) (statements_of l.block)
    l.initial.code.items (statements_of l.rest) l.code.items
