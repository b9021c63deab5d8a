use Rattle.std.proofs.Common.{◌≡◌, ◌++◌, map}
use Rattle.std.specs.List.{filter}
use Rattle.analysers.specs.declared.row.Row.TheVariants.{Of}
use Rattle.analysers.specs.Pieces.{in_one}
use Rattle.analysers.proofs.piece_rows.move_pieces.Given as goal

abbrev pub invariant-loop-piece : goal.invariant-loop-piece
invariant-loop-piece g l =
    l.out.items ≡ l.fn.out.items ++ map Of (filter (g.L.Local.passing l.local) (in_one l.yielded))
