use Rattle.std.proofs.Common.{◌+◌, ℕ, List, [], Bor, get_or, drop, sym, ap, ◌∙◌}
use Rattle.analysers.specs.declared.kind.Kind.{Kind}
use Rattle.cli_words.specs.Views.{words_view}
use Rattle.sledge_top.specs.Kinds.{kinds_from}
use Rattle.sledge_top.proofs.AnalysisWords.{in_front, goes_on, names_found}
use Rattle.sledge_top.proofs.kinds.kinds_of.Goals as goal

pub loop-i-preserved : goal.loop-i-preserved
loop-i-preserved c =
    let words = c.args.words.now in
    let i = c.loop-i.i in
    let kind = c.in-Some.kind in
    let d : Bor (List ℕ) = record { ref_ptr = (0, 0); now = [] } in
    let named = names_found (get_or words i d).now c.in_ok-kind.field-0 kind c.in-Some.is c.in_ok-kind.ensures in
    c.loop-i.invariant
    ∙ goes_on c.loop-i.kinds words i (i + 1) d kind c.loop-i-test.true named
    ∙ ap (λ (kinds : List Kind). in_front kinds (kinds_from (i + 1 + 1) (words_view (drop (i + 1) words)))) (sym c.in_ok-push.ensures.ok)
