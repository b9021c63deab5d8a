use Rattle.std.proofs.Common.{◌≡◌, ◌/◌, List, ◌++◌, length, take, get_or, sym, ap, ◌∙◌}
use Rattle.std.specs.List.{All}
use Rattle.std.proofs.lemmas.List.{take-append-drop}
use Rattle.std.proofs.lemmas.Result.{IfOk-weaker}
use Rattle.tracer_lang.specs.declared.record.Record.{Record}
use Rattle.analysers.specs.Parts.{folded}
use Rattle.analysers.proofs.Folds.{Joins, folded-append}
use Rattle.analysers.proofs.folding.+fold_records.Goals as goal

pub returns-in_ok-right-in_default-clause-fold : goal.returns-in_ok-right-in_default-clause-fold
returns-in_ok-right-in_default-clause-fold g t c =
    let tree = c.args.tree.now in
    let T = g.T.Tree in
    let laws : Joins (T.fits tree) (T.empty tree) (T.joined tree) = record {
      none = g.met.T.Tree.unit_fits tree;
      both = g.met.T.Tree.join_fits tree;
      left = g.met.T.Tree.unit_left tree;
      right = g.met.T.Tree.unit_right tree;
      association = g.met.T.Tree.association tree;
    } in
    let whole = folded (T.empty tree) (T.single tree) (T.joined tree) in
    let front = c.split_at.result.0.now in
    let back = c.split_at.result.1.now in
    let each : (rs : List Record) → All (λ (r : Record). T.fits tree (T.single tree r)) rs =
    λ rs k d less. g.met.T.Tree.leaf_fits tree (get_or rs k d) in
    let cut : front ++ back ≡ c.args.records.now =
    ap (λ rs. rs ++ back) c.split_at.ensures.front
    ∙ ap (λ rs. take (length c.args.records.now / 2) c.args.records.now ++ rs)
    c.split_at.ensures.back
    ∙ take-append-drop (length c.args.records.now / 2) c.args.records.now in
    IfOk-weaker c.join.result _ _ (λ v is. is
    ∙ ap (λ u. T.joined tree u c.in_ok-right-in_default.right) c.in_ok-left-in_default.ensures.fold
    ∙ ap (T.joined tree (whole front)) c.in_ok-right-in_default.ensures.fold
    ∙ sym (folded-append (T.fits tree) (T.empty tree) (T.single tree)
    (T.joined tree) laws front back (each front) (each back))
    ∙ ap whole cut) c.join.ensures
