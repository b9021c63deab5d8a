use Rattle.std.proofs.Common.{◌+◌, ◌*◌}
use Rattle.tracer_lang.specs.Tree.{expression_of, arguments_of, statement_of, statements_of}
use Rattle.tracer_lang.specs.Limits.{expression_nodes, arguments_nodes, statement_nodes, statements_nodes}
use Rattle.tracer_lang.specs.Meaning.{expression_meaning, statements_meaning}
use Rattle.tracer_mean.specs.Evaluated.{at_machine, counts_of, enter_at}
use Rattle.tracer_mean.proofs.Loops.{ArgumentsLeft, StatementsLeft, TurnsLeft}
use Rattle.tracer_mean.proofs.tracer.Tracer.+tree.Given as goal

-- a call has one body less to open, each of which has fewer than 4,096 nodes
abbrev pub decreases-call : goal.decreases-call
decreases-call l = l.left * 32768 + 4 * arguments_nodes (arguments_of l.arguments.now) + 2

abbrev pub decreases-enter : goal.decreases-enter
decreases-enter l = l.left * 32768 + 1

abbrev pub decreases-expression : goal.decreases-expression
decreases-expression l = l.left * 32768 + 4 * expression_nodes (expression_of l.e.now)

abbrev pub decreases-statement : goal.decreases-statement
decreases-statement l = l.left * 32768 + 4 * statement_nodes (statement_of l.s.now)

abbrev pub decreases-statements : goal.decreases-statements
decreases-statements l = l.left * 32768 + 4 * statements_nodes (statements_of l.block.now) + 1

abbrev pub decreases-turns : goal.decreases-turns
decreases-turns l =
    l.left * 32768 + 4 * (expression_nodes (expression_of l.condition.now)
    + statements_nodes (statements_of l.body.now)) + 2

abbrev pub invariant-call-loop-rest : goal.invariant-call-loop-rest
invariant-call-loop-rest l =
    ArgumentsLeft (counts_of l.self) (at_machine l.self.machine.now) (enter_at l.self l.left)
    (enter_at l.self l.left l.function) (arguments_of l.arguments) l.fn.p
    (arguments_of l.rest) l.values.items l.p

abbrev pub invariant-statements-loop-rest : goal.invariant-statements-loop-rest
invariant-statements-loop-rest l =
    StatementsLeft (counts_of l.self) (at_machine l.self.machine.now) (enter_at l.self l.left)
    (statements_of l.block) l.fn.p (statements_of l.rest) l.p

abbrev pub invariant-turns-loop-p : goal.invariant-turns-loop-p
invariant-turns-loop-p l =
    let s = at_machine l.self.machine.now in
    let enter = enter_at l.self l.left in
    TurnsLeft (counts_of l.self) (expression_of l.condition) (statements_of l.body)
    (expression_meaning s enter (expression_of l.condition))
    (statements_meaning s enter (statements_of l.body)) l.fn.p l.p

abbrev pub decreases-turns-loop-p : goal.decreases-turns-loop-p
decreases-turns-loop-p l = l.p.units
