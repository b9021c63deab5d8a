use Rattle.std.proofs.Common.{◌/◌, take, drop, sym, ap, ◌∙◌}
use Rattle.std.specs.List.{fold}
use Rattle.std.proofs.lemmas.List.{take-append-drop}
use Rattle.std.proofs.lemmas.List.Elements.{All-take, All-drop}
use Rattle.std.proofs.lemmas.Result.{IfOk-weaker}
use Rattle.analysers.proofs.Folds.{Joins, folded-append}
use Rattle.analysers.proofs.folding.+join_values.Goals as goal

pub returns-then-len-gt1-clause-fold : goal.returns-then-len-gt1-clause-fold
returns-then-len-gt1-clause-fold g t c =
    let tree = c.args.tree.now in
    let T = g.T.Tree in
    let laws : Joins (T.fits tree) (T.empty tree) (T.joined tree) = record {
      none = g.met.T.Tree.unit_fits tree;
      both = g.met.T.Tree.join_fits tree;
      left = g.met.T.Tree.unit_left tree;
      right = g.met.T.Tree.unit_right tree;
      association = g.met.T.Tree.association tree;
    } in
    let values = c.args.values.items in
    let at = c.len-then-len-gt1.result / 2 in
    let whole = fold (T.joined tree) (T.empty tree) in
    let front = take at values in
    let back = drop at values in
    IfOk-weaker c.join.result _ _ (λ v is. is
    ∙ ap (λ u. T.joined tree u c.in_ok-right.right) (c.in_ok-left.ensures.fold
    ∙ ap whole c.in_ok-back.ensures.items)
    ∙ ap (T.joined tree (whole front)) (c.in_ok-right.ensures.fold
    ∙ ap whole c.in_ok-back.ensures.tail)
    ∙ sym (folded-append (T.fits tree) (T.empty tree) (λ v. v) (T.joined tree) laws front back
    (All-take (T.fits tree) at values c.requires) (All-drop (T.fits tree) at values c.requires))
    ∙ ap whole (take-append-drop at values)) c.join.ensures
