use Rattle.std.proofs.Common.{◌≡◌, ◌++◌, map, drop}
use Rattle.std.specs.List.{filter}
use Rattle.analysers.specs.declared.row.Row.TheVariants.{Of}
use Rattle.analysers.specs.Pieces.{in_one}
use Rattle.analysers.proofs.piece_rows.push_pieces.Given as goal

-- the rows so far and those of the pieces that are left are all the rows
abbrev pub invariant-loop-piece : goal.invariant-loop-piece
invariant-loop-piece g l =
    let passing = g.L.Local.passing l.local in
    l.out.items ++ map Of (filter passing (in_one (drop l.piece-index l.pieces)))
    ≡ l.fn.out.items ++ map Of (filter passing (in_one l.pieces))
