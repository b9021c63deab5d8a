use Rattle.std.proofs.Common.{◌≡◌, ◌++◌, map}
use Rattle.std.specs.List.{filter}
use Rattle.analysers.specs.declared.row.Row.TheVariants.{Of}
use Rattle.analysers.proofs.piece_rows.move_passing.Given as goal

abbrev pub invariant-loop-r : goal.invariant-loop-r
invariant-loop-r g l =
    l.out.items ≡ l.fn.out.items ++ map Of (filter (g.L.Local.passing l.local) l.yielded)
