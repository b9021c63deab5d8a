use Rattle.std.proofs.Common.{sym, ap, ◌∙◌, arith}
use Rattle.epoch_board.specs.Seats.{BoardId, SeatState}
use Rattle.epoch_board.proofs.Steps.{merges}
use Rattle.epoch_board.proofs.board.Board.join.Goals as goal

pub join_seat-requires : goal.join_seat-requires
join_seat-requires c =
    let own = ap (λ (seat : SeatState). seat.board) c.seat.view_is ∙ c.requires.own ∙ sym c.self.view_is in
    let other = ap (λ (seat : SeatState). seat.board) c.other.view_is ∙ c.requires.other ∙ sym c.self.view_is in (
      ap (λ (board : BoardId). board.table) own,
      ap (λ (board : BoardId). board.table) other,
      c.other.invariant.1,
      omega (arith, c.self.invariant.0),
      merges _ _ _ _ _ _ c.seat.invariant.0 c.other.invariant.0,
    )
