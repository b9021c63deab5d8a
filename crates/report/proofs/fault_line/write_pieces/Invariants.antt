use Rattle.std.proofs.Common.{◌≤◌, take}
use Rattle.std.specs.List.{flat_map}
use Rattle.outside.specs.Written.{Adds}
use Rattle.report.specs.Pieces.{piece_text}
use Rattle.report.proofs.fault_line.write_pieces.Given as goal

-- the pieces so far were added
abbrev pub invariant-loop-piece : goal.invariant-loop-piece
invariant-loop-piece g l =
    let written = g.O.Sink.written in
    record {
      added : Adds (written l.fn.out) (written l.out) (flat_map piece_text (take l.piece-index l.pieces));
      later : g.O.Sink.faults l.fn.out ≤ g.O.Sink.faults l.out;
    }
