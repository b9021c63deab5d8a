use Rattle.std.proofs.Common.{◌≡◌, ◌++◌, drop}
use Rattle.std.specs.List.{fold}
use Rattle.analysers.specs.Streams.{told_along}
use Rattle.analysers.specs.Pieces.{in_one}
use Rattle.analysers.proofs.piece_rows.feed_pieces.Given as goal

-- the pieces that are left lead from here to where all lead from the start
abbrev pub invariant-loop-piece : goal.invariant-loop-piece
invariant-loop-piece g l =
    let after = g.S.Stream.after l.stream in
    let told = g.S.Stream.told l.stream in
    record {
      state : fold after l.s (in_one (drop l.piece-index l.pieces))
          ≡ fold after l.fn.s (in_one l.pieces);
      rows : l.out.items ++ told_along after told l.s (in_one (drop l.piece-index l.pieces))
          ≡ l.fn.out.items ++ told_along after told l.fn.s (in_one l.pieces);
    }
