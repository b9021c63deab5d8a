use Rattle.std.proofs.Common.{List, get_or}
use Rattle.std.specs.List.{All}
use Rattle.tracer_lang.specs.declared.record.Record.{Record}
use Rattle.analysers.proofs.Folds.{Joins, folded-append}
use Rattle.analysers.proofs.laws.folds_join.Goals as goal

pub returns : goal.returns
returns g c tree front back =
    let T = g.T.Tree in
    let laws : Joins (T.fits tree) (T.empty tree) (T.joined tree) = record {
      none = g.met.T.Tree.unit_fits tree;
      both = g.met.T.Tree.join_fits tree;
      left = g.met.T.Tree.unit_left tree;
      right = g.met.T.Tree.unit_right tree;
      association = g.met.T.Tree.association tree;
    } in
    let each : (rs : List Record) → All (λ (r : Record). T.fits tree (T.single tree r)) rs =
    λ rs k d less. g.met.T.Tree.leaf_fits tree (get_or rs k d) in
    folded-append (T.fits tree) (T.empty tree) (T.single tree) (T.joined tree) laws front back
    (each front) (each back)
