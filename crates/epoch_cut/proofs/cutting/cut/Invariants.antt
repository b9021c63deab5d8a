use Rattle.std.proofs.Common.{◌≡◌, map}
use Rattle.std.specs.List.{range_with_len}
use Rattle.epoch_cut.specs.Places.{even_place}
use Rattle.epoch_cut.proofs.cutting.cut.Given as goal

abbrev pub invariant-loop-j : goal.invariant-loop-j
invariant-loop-j l = l.places.items ≡ map (even_place l.segments l.parts) (range_with_len 0 l.j)
