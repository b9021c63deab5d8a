use Rattle.std.proofs.Common.{subst, arith}
use Rattle.outside.specs.Written.{AddsPrefix}
use Rattle.report.specs.Pieces.{piece_text}
use Rattle.report.proofs.Writing.{Writes-failed, prefix_at}
use Rattle.report.proofs.fault_line.write_pieces.Goals as goal

pub returns-in_err-write_piece-clause-written : goal.returns-in_err-write_piece-clause-written
returns-in_err-write_piece-clause-written g c =
    let written = g.O.Sink.written in
    let some = subst (λ piece. AddsPrefix (written c.loop-piece.out) (written c.write_piece.new.out) (piece_text piece)) c.piece-item.is c.in_err-write_piece.ensures.written in
    Writes-failed c.from_residual.result _ _ _ c.from_residual.ensures.0
    (prefix_at (λ piece. piece_text piece) c.args.pieces.now c.loop-piece.piece-index _ _ _ _ (omega arith) c.loop-piece.invariant.added some)
