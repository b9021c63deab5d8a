use Rattle.std.proofs.Common.{◌≡◌, Ok, sym, ap, subst, ◌∙◌, arith}
use Rattle.std.proofs.lemmas.Result.{err_from_is_err_and}
use Rattle.tracer_lang.specs.Tree.{script_of}
use Rattle.tracer_lang.specs.Limits.{IsWithinLimits}
use Rattle.tracer_text.specs.Nodes.{trees_of, nodes_from}
use Rattle.tracer_read.specs.Drafts.{draft_of}
use Rattle.tracer_read.proofs.Accepted.{Small, part_count-le}
use Rattle.tracer_read.proofs.Whole.{refused_first, refused_second, read_whole, read_within, trees-small}
use Rattle.tracer_read.proofs.reading.read_script.Goals as goal

pub returns-in_err-tokens : goal.returns-in_err-tokens
returns-in_err-tokens c =
    let p = err_from_is_err_and c.from_residual.result c.from_residual.ensures.1 in
    rw (p.1, p.2) (refused_first c.args.text.now c.args.symbols.now c.in_err-tokens.field-0.0
    c.in_err-tokens.ensures.tells)

pub read_nodes-requires : goal.read_nodes-requires
read_nodes-requires c =
    let nodes : trees_of c.in_ok-nodes.nodes ≡ (nodes_from c.args.text.now
    c.in_ok-tokens.tokens.items).inside =
    c.in_ok-nodes.ensures ∙ ap (λ ts. (nodes_from c.args.text.now ts).inside)
    c.as_slice.ensures.value in
    let small : Small (trees_of c.in_ok-nodes.nodes) =
    trees-small c.args.text.now c.in_ok-tokens.tokens.items
    (trees_of c.in_ok-nodes.nodes) c.in_ok-tokens.ensures.tells nodes in
    omega (arith, small.few, part_count-le (trees_of c.in_ok-nodes.nodes))

pub returns-in_err-draft : goal.returns-in_err-draft
returns-in_err-draft c =
    let p = err_from_is_err_and c.from_residual-in_err-draft.result
    c.from_residual-in_err-draft.ensures.1 in
    let nodes : trees_of c.in_ok-nodes.nodes ≡ (nodes_from c.args.text.now
    c.in_ok-tokens.tokens.items).inside =
    c.in_ok-nodes.ensures ∙ ap (λ ts. (nodes_from c.args.text.now ts).inside)
    c.as_slice.ensures.value in
    rw (p.1, p.2) (refused_second c.args.text.now c.args.symbols.now c.in_ok-tokens.tokens.items
    (trees_of c.in_ok-nodes.nodes) c.in_err-draft.field-0.0 c.in_ok-tokens.ensures.tells nodes
    c.in_err-draft.ensures)

pub invariant_of-result : goal.invariant_of-result
invariant_of-result c =
    let nodes : trees_of c.in_ok-nodes.nodes ≡ (nodes_from c.args.text.now
    c.in_ok-tokens.tokens.items).inside =
    c.in_ok-nodes.ensures ∙ ap (λ ts. (nodes_from c.args.text.now ts).inside)
    c.as_slice.ensures.value in
    let small : Small (trees_of c.in_ok-nodes.nodes) =
    trees-small c.args.text.now c.in_ok-tokens.tokens.items
    (trees_of c.in_ok-nodes.nodes) c.in_ok-tokens.ensures.tells nodes in
    let within = read_within c.args.text.now c.args.symbols.now (trees_of c.in_ok-nodes.nodes)
    (draft_of c.in_ok-draft.draft) small c.in_ok-draft.ensures in
    record {
      limits = subst (λ n. IsWithinLimits (script_of n c.in_ok-draft.draft.functions
          c.in_ok-draft.draft.tracepoints)) (sym c.unwrap_or-budget.ensures) within;
    }

pub returns : goal.returns
returns c =
    let nodes : trees_of c.in_ok-nodes.nodes ≡ (nodes_from c.args.text.now
    c.in_ok-tokens.tokens.items).inside =
    c.in_ok-nodes.ensures ∙ ap (λ ts. (nodes_from c.args.text.now ts).inside)
    c.as_slice.ensures.value in
    let whole = read_whole c.args.text.now c.args.symbols.now c.in_ok-tokens.tokens.items
    (trees_of c.in_ok-nodes.nodes) (draft_of c.in_ok-draft.draft) c.in_ok-tokens.ensures.tells nodes
    c.in_ok-draft.ensures in
    whole ∙ ap (λ n. Ok (script_of n c.in_ok-draft.draft.functions c.in_ok-draft.draft.tracepoints))
    (sym c.unwrap_or-budget.ensures)
