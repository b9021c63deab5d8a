use Rattle.std.proofs.Common.{◌≡◌, ◌+◌, ap, sym, ◌∙◌, arith}
use Rattle.std.specs.List.{range_with_len}
use Rattle.std.specs.Prelude.{map}
use Rattle.std.proofs.lemmas.List.FromFn.{map-range_with_len_more}
use Rattle.epoch_cut.specs.Places.{IsCutting, even_place, even_places}
use Rattle.epoch_cut.proofs.EvenPlaces.{even_is_cutting, cuts_to_last}
use Rattle.epoch_cut.proofs.cutting.cut.Goals as goal
use Rattle.epoch_cut.proofs.cutting.cut.Goals.{After-loop-j}

is_cutting : (c : After-loop-j) → IsCutting c.args.segments c.loop-j.places.items
is_cutting c =
    let parts = c.min-parts.result in
    let all : c.loop-j.j ≡ parts + 1 = omega arith in
    let places : c.loop-j.places.items ≡ even_places c.args.segments parts = c.loop-j.invariant ∙ ap (λ n. map (even_place c.args.segments parts) (range_with_len 0 n)) all in
    rw places (even_is_cutting c.args.segments parts (omega arith) (omega arith))

pub loop-j-preserved : goal.loop-j-preserved
loop-j-preserved c =
    let e = map-range_with_len_more (even_place c.args.segments c.min-parts.result) 0 c.loop-j.j c.loop-j.j (omega arith) in
    rw (c.in_ok-push.ensures.items, c.loop-j.invariant) (sym e)

pub invariant_of-result : goal.invariant_of-result
invariant_of-result c = cuts_to_last c.args.segments c.loop-j.places.items (is_cutting c)

pub returns-clause-cutting : goal.returns-clause-cutting
returns-clause-cutting c = is_cutting c
