use Rattle.std.proofs.Common.{◌≡◌, map}
use Rattle.analysers.specs.Parts.{join_parts}
use Rattle.analysers.proofs.joining.join_each.Given as goal

abbrev pub invariant-loop-a : goal.invariant-loop-a
invariant-loop-a l = l.parts.items ≡ map (λ pair. join_parts pair.0 pair.1) l.yielded
