use Rattle.std.proofs.Common.{◌≡◌, List, map, ap, sym, ◌∙◌}
use Rattle.std.specs.List.{zip}
use Rattle.std.proofs.lemmas.List.{map-id}
use Rattle.std.proofs.lemmas.Iterator.{YieldsList-from_zip}
use Rattle.std.proofs.lemmas.Iterator.Adapters.{YieldsList-from_vec}
use Rattle.std.proofs.lemmas.Iterator.Consumers.{YieldsList-at, YieldsList-end}
use Rattle.analysers.specs.declared.part.Part.{Part}
use Rattle.analysers.specs.Parts.{join_parts}
use Rattle.analysers.proofs.joining.join_each.Goals as goal

pub returns : goal.returns
returns c =
    let left = YieldsList-from_vec {s = c.into_iter-a-iterator.result.a} c.args.left (cc) (cc) in
    let right = YieldsList-from_vec {s = c.into_iter-a-iterator.result.b} c.args.right (cc) (cc) in
    let chain = YieldsList-from_zip {s = c.into_iter-a-iterator.result} left right in
    let end = YieldsList-end chain c.loop-a.yielded c.loop-a.a-iterator c.loop-a.yielded_by
    c.next.result c.next.new.self c.in-None.is c.next.ensures.steps in
    c.from_vec.ensures
    ∙ c.loop-a.invariant
    ∙ ap (map (λ (pair : Part × Part). join_parts pair.0 pair.1)) (sym (map-id c.loop-a.yielded) ∙ end.0)
