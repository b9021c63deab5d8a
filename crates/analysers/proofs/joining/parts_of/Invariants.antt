use Rattle.std.proofs.Common.{◌≡◌, ◌++◌, drop}
use Rattle.std.specs.List.{flat_map}
use Rattle.analysers.specs.Pieces.{own_part}
use Rattle.analysers.proofs.joining.parts_of.Given as goal

-- the parts so far and those of the kinds that are left are all the parts
abbrev pub invariant-loop-kind : goal.invariant-loop-kind
invariant-loop-kind l =
    l.parts.items ++ flat_map (own_part l.records) (drop l.kind-index l.kinds)
    ≡ flat_map (own_part l.records) l.kinds
