use Rattle.std.proofs.Common.{sym, subst}
use Rattle.std.proofs.lemmas.List.Elements.{All-push, All-same}
use Rattle.analysers.specs.Parts.{Fits}
use Rattle.analysers.specs.TreeLaws.{part_of-fits}
use Rattle.format_tests.proofs.tests.analyses.single_parts.Goals as goal

pub loop-r-preserved : goal.loop-r-preserved
loop-r-preserved c =
    let tree = c.args.tree.now in
    let part = c.in_ok-leaf.field-0 in
    let one : Fits tree part =
    subst (Fits tree) (sym c.in_ok-leaf.ensures) (part_of-fits tree c.r-item.result) in
    All-same (Fits tree) _ _ c.in_ok-push.ensures.items
    (All-push (Fits tree) c.loop-r.parts.items part c.loop-r.invariant one)
