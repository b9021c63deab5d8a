use Rattle.std.proofs.Common.{◌≡◌, ◌==◌, not, true, false, Some, None, Ok, sym, ap, ◌∙◌, get_or}
use Rattle.tracer_text.specs.declared.fault.ScriptCause.TheVariants as causes
use Rattle.tracer_text.specs.Nodes.{tree_of, trees_of}
use Rattle.tracer_read.specs.Parts.{unless, word_of, name_index, part_count}
use Rattle.tracer_read.specs.Expressions.{called, callee_names}
use Rattle.tracer_read.specs.Views.{around}
use Rattle.tracer_read.proofs.Places.{callee_index, callee_parameters}
use Rattle.tracer_read.proofs.Called.{called_unknown, called_known}
use Rattle.tracer_read.proofs.Refusals.{Fails-told}
use Rattle.tracer_read.proofs.expressions.called.Goals as goal

pub returns-in_default-callee_place : goal.returns-in_default-callee_place
returns-in_default-callee_place c =
    let ctx = around c.args.context.now in
    let token = c.in_ok-token.token in
    let word : word_of c.args.context.now.text.now (tree_of c.in-And.name.value) ≡ Ok token =
    ap (λ n. word_of c.args.context.now.text.now (tree_of n)) (sym c.deref.ensures)
    ∙ c.in_ok-token.ensures in
    let none : name_index c.args.context.now.text.now (callee_names ctx.callees) token ≡ None =
    callee_index _ _ token c.args.context.now.functions.now c.spelling.ensures
    ∙ sym c.callee_place.ensures.value ∙ c.in_default-callee_place.is in
    Fails-told _ _ _ c.refusal-in_default-callee_place.ensures
    (ap (λ ns. called ctx c.args.place (trees_of ns)) c.in-And.is
    ∙ called_unknown ctx c.args.place (tree_of c.in-And.name.value)
    (trees_of c.in-And.arguments.value) token word none)

pub returns-then-not-have_as_many : goal.returns-then-not-have_as_many
returns-then-not-have_as_many c =
    let ctx = around c.args.context.now in
    let token = c.in_ok-token.token in
    let word : word_of c.args.context.now.text.now (tree_of c.in-And.name.value) ≡ Ok token =
    ap (λ n. word_of c.args.context.now.text.now (tree_of n)) (sym c.deref.ensures)
    ∙ c.in_ok-token.ensures in
    let some : name_index c.args.context.now.text.now
    (callee_names ctx.callees) token ≡ Some c.in-Some.index =
    callee_index _ _ token c.args.context.now.functions.now c.spelling.ensures
    ∙ sym c.callee_place.ensures.value ∙ c.in-Some.is in
    let counts = callee_parameters c.args.context.now.functions.now c.in-Some.index
    c.index-context-index.result c.in-Some.ensures.within in
    let test : (part_count (trees_of c.in-And.arguments.value) == part_count
    (trees_of (get_or c.args.context.now.functions.now c.in-Some.index
    c.index-context-index.result).parameters.now)) ≡ false =
    ap (λ ns. part_count (trees_of ns) == part_count
    (trees_of (get_or c.args.context.now.functions.now c.in-Some.index
    c.index-context-index.result).parameters.now)) (sym c.deref-2.ensures)
    ∙ sym c.have_as_many.ensures ∙ c.if-not-have_as_many.true in
    Fails-told _ _ _ c.refusal-then-not-have_as_many.ensures
    (ap (λ ns. called ctx c.args.place (trees_of ns)) c.in-And.is
    ∙ called_known ctx c.args.place (tree_of c.in-And.name.value)
    (trees_of c.in-And.arguments.value) token c.in-Some.index _ word some counts
    ∙ ap (λ b. unless (not b) c.args.place causes.Arity (Ok c.in-Some.index)) test)

pub returns : goal.returns
returns c =
    let ctx = around c.args.context.now in
    let token = c.in_ok-token.token in
    let word : word_of c.args.context.now.text.now (tree_of c.in-And.name.value) ≡ Ok token =
    ap (λ n. word_of c.args.context.now.text.now (tree_of n)) (sym c.deref.ensures)
    ∙ c.in_ok-token.ensures in
    let some : name_index c.args.context.now.text.now
    (callee_names ctx.callees) token ≡ Some c.in-Some.index =
    callee_index _ _ token c.args.context.now.functions.now c.spelling.ensures
    ∙ sym c.callee_place.ensures.value ∙ c.in-Some.is in
    let counts = callee_parameters c.args.context.now.functions.now c.in-Some.index
    c.index-context-index.result c.in-Some.ensures.within in
    let test : (part_count (trees_of c.in-And.arguments.value) == part_count
    (trees_of (get_or c.args.context.now.functions.now c.in-Some.index
    c.index-context-index.result).parameters.now)) ≡ true =
    ap (λ ns. part_count (trees_of ns) == part_count
    (trees_of (get_or c.args.context.now.functions.now c.in-Some.index
    c.index-context-index.result).parameters.now)) (sym c.deref-2.ensures)
    ∙ sym c.have_as_many.ensures ∙ c.if-not-have_as_many.false in
    ap (λ ns. called ctx c.args.place (trees_of ns)) c.in-And.is
    ∙ called_known ctx c.args.place (tree_of c.in-And.name.value)
    (trees_of c.in-And.arguments.value) token c.in-Some.index _ word some counts
    ∙ ap (λ b. unless (not b) c.args.place causes.Arity (Ok c.in-Some.index)) test
