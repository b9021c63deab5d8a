use Rattle.std.proofs.Common.{◌≡◌, ◌<◌, ◌/◌, List, [], ◌∷◌, ◌++◌, map, take, drop, vec_len, ap, sym, ◌∙◌, arith}
use Rattle.std.proofs.lemmas.List.{take-map, drop-map, nil_from_length}
use Rattle.std.proofs.lemmas.List.Elements.{All-same}
use Rattle.std.proofs.lemmas.Result.{IfOk-weaker}
use Rattle.tracer_lang.specs.declared.record.Record.{Record}
use Rattle.analysers.specs.declared.part.Part.{Part}
use Rattle.analysers.specs.Parts.{IsSound}
use Rattle.analysers.specs.Pieces.{parts_of, join_each, in_one}
use Rattle.analysers.proofs.Parted.{parts-sound, parts-cut, only_piece}
use Rattle.analysers.proofs.joining.+join_pieces.Goals as goal

pub join_pieces-requires : goal.join_pieces-requires
join_pieces-requires t c =
    let n = c.len-then-len-gt1.result / 2 in
    let f = parts_of c.args.kinds.now in (
      omega (arith, c.decreases, c.in_ok-back.ensures.len, c.len.ensures, c.len-then-len-gt1.ensures),
      (
        take n c.requires.0,
        c.in_ok-back.ensures.items ∙ ap (take n) c.requires.1 ∙ take-map f n c.requires.0,
      ),
    )

pub join_pieces-requires-then-len-gt1 : goal.join_pieces-requires-then-len-gt1
join_pieces-requires-then-len-gt1 t c =
    let n = c.len-then-len-gt1.result / 2 in
    let f = parts_of c.args.kinds.now in (
      omega (arith, c.decreases, c.in_ok-back.ensures.tail_len, c.len.ensures, c.len-then-len-gt1.ensures),
      (
        drop n c.requires.0,
        c.in_ok-back.ensures.tail ∙ ap (drop n) c.requires.1 ∙ drop-map f n c.requires.0,
      ),
    )

pub join_each-requires-clause-left : goal.join_each-requires-clause-left
join_each-requires-clause-left t c =
    let n = c.len-then-len-gt1.result / 2 in
    let f = parts_of c.args.kinds.now in
    All-same IsSound c.in_ok-left.left _
    (c.in_ok-left.ensures (take n c.requires.0)
    (c.in_ok-back.ensures.items ∙ ap (take n) c.requires.1 ∙ take-map f n c.requires.0))
    (parts-sound c.args.kinds.now (in_one (take n c.requires.0)))

pub join_each-requires-clause-right : goal.join_each-requires-clause-right
join_each-requires-clause-right t c =
    let n = c.len-then-len-gt1.result / 2 in
    let f = parts_of c.args.kinds.now in
    All-same IsSound c.in_ok-right.right _
    (c.in_ok-right.ensures (drop n c.requires.0)
    (c.in_ok-back.ensures.tail ∙ ap (drop n) c.requires.1 ∙ drop-map f n c.requires.0))
    (parts-sound c.args.kinds.now (in_one (drop n c.requires.0)))

pub returns-then-len-gt1 : goal.returns-then-len-gt1
returns-then-len-gt1 t c pieces are =
    let n = c.len-then-len-gt1.result / 2 in
    let kinds = c.args.kinds.now in
    let f = parts_of kinds in
    let left : c.in_ok-left.left ≡ f (in_one (take n pieces)) =
    c.in_ok-left.ensures (take n pieces)
    (c.in_ok-back.ensures.items ∙ ap (take n) are ∙ take-map f n pieces) in
    let right : c.in_ok-right.right ≡ f (in_one (drop n pieces)) =
    c.in_ok-right.ensures (drop n pieces)
    (c.in_ok-back.ensures.tail ∙ ap (drop n) are ∙ drop-map f n pieces) in
    IfOk-weaker c.join_each.result _ _ (λ parts is. is
    ∙ ap (λ (ps : List Part). join_each ps c.in_ok-right.right) left
    ∙ ap (join_each (f (in_one (take n pieces)))) right
    ∙ parts-cut kinds pieces n) c.join_each.ensures

pub returns-in-Some : goal.returns-in-Some
returns-in-Some t c pieces are =
    let none : c.pop.new.self.items ≡ [] =
    nil_from_length c.pop.new.self.items
    (omega (arith, c.in-Some.ensures.cases, c.len.ensures, c.if-len-gt1.false, c.pop.new.self.ok.0)) in
    only_piece c.args.kinds.now pieces c.in-Some.parts
    (sym (c.in-Some.ensures.items ∙ ap (λ (ps : List (List Part)). ps ++ c.in-Some.parts ∷ []) none)
    ∙ are)
