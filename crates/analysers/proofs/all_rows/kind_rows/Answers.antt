use Rattle.std.proofs.Common.{◌≡◌, List, [], ◌∷◌, ◌++◌, ap, sym, ◌∙◌}
use Rattle.std.proofs.lemmas.Result.{IfOk-weaker}
use Rattle.analysers.specs.declared.part.Part.{Part}
use Rattle.analysers.specs.Analyses.{part_of_all}
use Rattle.analysers.specs.Pieces.{tree_of}
use Rattle.analysers.proofs.Parted.{own_is, tree_rows}
use Rattle.analysers.proofs.all_rows.kind_rows.Goals as goal

pub returns-in-Some-clause-rows : goal.returns-in-Some-clause-rows
returns-in-Some-clause-rows c rs rest are reads =
    let kind = c.args.kind.now in
    let tree = c.in-Some.field-0 in
    let is = sym c.tree_of.ensures ∙ c.in-Some.is in
    IfOk-weaker c.first_rows.result _ _ (λ rows given. given (part_of_all tree rs) rest
    (are ∙ ap (λ (ps : List Part). ps ++ rest) (own_is kind tree rs is))
    ∙ sym (tree_rows kind.what tree rs is)) c.first_rows.ensures.rows
