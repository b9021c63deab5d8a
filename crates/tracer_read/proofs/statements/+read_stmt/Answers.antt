use Rattle.std.proofs.Common.{◌≡◌, ◌∙◌, Some, Ok, sym, ap, subst, arith}
use Rattle.sl_base.specs.Refusals.{Gives}
use Rattle.tracer_lang.specs.Tree.{statement_of}
use Rattle.tracer_text.specs.declared.node.Nodes.{size-Nodes}
use Rattle.tracer_read.proofs.Sizes.{rest_less}
use Rattle.tracer_text.specs.Nodes.{list, tree, tree_of, trees_of}
use Rattle.tracer_read.specs.Heads.{statement_head}
use Rattle.tracer_read.specs.Expressions.{head}
use Rattle.tracer_read.specs.Statements.{in_order, step_of, steps_of, statement_form}
use Rattle.tracer_read.specs.Views.{around}
use Rattle.tracer_read.proofs.Refusals.{with_statements, read_statement}
use Rattle.tracer_read.proofs.statements.+read_stmt.Goals as goal

pub read_block-loop-left-preserved : goal.read_block-loop-left-preserved
read_block-loop-left-preserved t c =
    let ctx = around c.args.context.now in
    let before = c.loop-left.locals.items in
    let after = c.read_stmt.new.locals.items in
    let here : step_of ctx (tree_of c.in-And.node.value) before ≡ Ok
    (statement_of c.in_ok-read_stmt.field-0, after) =
    ap (λ n. step_of ctx (tree_of n) before) (sym c.deref.ensures)
    ∙ c.in_ok-read_stmt.ensures.value in
    let more = read_statement c.loop-left.read.items c.in_ok-read_stmt.field-0
    (step_of ctx (tree_of c.in-And.node.value))
    (steps_of ctx (trees_of c.in-And.rest.value)) before after here in
    let left = ap (λ ns. with_statements c.loop-left.read.items
    (in_order (steps_of ctx (trees_of ns)) before)) (sym c.in-And.is) in
    record {
      within = omega (
        arith,
        ap size-Nodes c.deref-left.ensures,
        rest_less c.loop-left.left.now
            c.in-And.is,
      );
      few = c.in_ok-read_stmt.ensures.few;
      whole = rw (c.in_ok-push.ensures.items, c.deref-left.ensures)
          (more ∙ left ∙ c.loop-left.invariant.whole);
    }

pub read_stmt-returns-clause-value : goal.read_stmt-returns-clause-value
read_stmt-returns-clause-value t c =
    let ctx = around c.args.context.now in
    let locals = c.args.locals.now.items in
    let parts = trees_of c.in-And.rest.value in
    let node : tree_of c.args.node.now ≡ list c.in-List.place
    (tree (tree_of c.in-And.first.value) parts) =
    ap tree_of c.in-List.is ∙ ap (list c.in-List.place)
    (ap trees_of (sym c.deref.ensures ∙ c.in-And.is)) in
    let named : head statement_head c.args.context.now.text.now
    (tree_of c.in-And.first.value) ≡ Some c.in-Some.head =
    ap (λ n. head statement_head c.args.context.now.text.now (tree_of n)) (sym c.deref-2.ensures)
    ∙ sym c.head_of.ensures ∙ c.in-Some.is in
    let due : step_of ctx (tree_of c.args.node.now) locals
    ≡ statement_form ctx c.in-List.place (trees_of c.deref-3.result.now)
    (steps_of ctx (trees_of c.deref-3.result.now)) locals (Some c.in-Some.head) =
    ap (λ t. step_of ctx t locals) node
    ∙ ap (statement_form ctx c.in-List.place parts (steps_of ctx parts) locals) named
    ∙ ap (λ ns. statement_form ctx c.in-List.place (trees_of ns) (steps_of ctx (trees_of ns)) locals
    (Some c.in-Some.head)) (sym c.deref-3.ensures) in
    subst (Gives (λ s. (statement_of s, c.read_form.new.locals.items)) c.read_form.result)
    (sym due) c.read_form.ensures.value
