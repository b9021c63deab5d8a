use Rattle.std.proofs.Common.{◌≡◌, ◌∙◌, Some, Ok, sym, ap, subst, arith}
use Rattle.sl_base.specs.Refusals.{Gives}
use Rattle.tracer_lang.specs.Tree.{expression_of}
use Rattle.tracer_text.specs.declared.node.Nodes.{size-Nodes}
use Rattle.tracer_read.proofs.Sizes.{rest_less}
use Rattle.tracer_text.specs.Nodes.{list, tree, tree_of, trees_of}
use Rattle.tracer_read.specs.Heads.{expression_head}
use Rattle.tracer_read.specs.Expressions.{head, all, expression, expressions, expression_form}
use Rattle.tracer_read.specs.Views.{around}
use Rattle.tracer_read.proofs.Refusals.{with_front, read_more}
use Rattle.tracer_read.proofs.expressions.+read_expr.Goals as goal

pub read_all-loop-left-preserved : goal.read_all-loop-left-preserved
read_all-loop-left-preserved t c =
    let ctx = around c.args.context.now in
    let locals = c.args.locals.now in
    let here : expression ctx locals (tree_of c.in-And.part.value) ≡ Ok
    (expression_of c.in_ok-read_expr.field-0) =
    ap (λ n. expression ctx locals (tree_of n)) (sym c.deref.ensures) ∙ c.in_ok-read_expr.ensures in
    let more = read_more c.loop-left.read.items c.in_ok-read_expr.field-0
    (expression ctx locals (tree_of c.in-And.part.value))
    (expressions ctx locals (trees_of c.in-And.rest.value)) here in
    let left = ap (λ ns. with_front c.loop-left.read.items
    (all (expressions ctx locals (trees_of ns)))) (sym c.in-And.is) in
    record {
      within = omega (
        arith,
        ap size-Nodes c.deref-left.ensures,
        rest_less c.loop-left.left.now
            c.in-And.is,
      );
      whole = rw (c.in_ok-push.ensures.items, c.deref-left.ensures)
          (more ∙ left ∙ c.loop-left.invariant.whole);
    }

pub read_expr-returns : goal.read_expr-returns
read_expr-returns t c =
    let ctx = around c.args.context.now in
    let locals = c.args.locals.now in
    let parts = trees_of c.in-And.rest.value in
    let node : tree_of c.args.node.now ≡ list c.in-List.place
    (tree (tree_of c.in-And.first.value) parts) =
    ap tree_of c.in-List.is ∙ ap (list c.in-List.place)
    (ap trees_of (sym c.deref.ensures ∙ c.in-And.is)) in
    let named : head expression_head c.args.context.now.text.now
    (tree_of c.in-And.first.value) ≡ Some c.in-Some.head =
    ap (λ n. head expression_head c.args.context.now.text.now (tree_of n)) (sym c.deref-2.ensures)
    ∙ sym c.head_of.ensures ∙ c.in-Some.is in
    let gives : expression ctx locals (tree_of c.args.node.now)
    ≡ expression_form ctx c.in-List.place parts (expressions ctx locals parts)
    (Some c.in-Some.head) =
    ap (expression ctx locals) node ∙ ap (expression_form ctx c.in-List.place parts
    (expressions ctx locals parts)) named in
    let due : expression ctx locals (tree_of c.args.node.now)
    ≡ expression_form ctx c.in-List.place (trees_of c.deref-3.result.now)
    (expressions ctx locals (trees_of c.deref-3.result.now)) (Some c.in-Some.head) =
    gives ∙ ap (λ ns. expression_form ctx c.in-List.place (trees_of ns)
    (expressions ctx locals (trees_of ns)) (Some c.in-Some.head)) (sym c.deref-3.ensures) in
    subst (Gives expression_of c.read_form.result) (sym due) c.read_form.ensures
