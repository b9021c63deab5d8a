use Rattle.std.proofs.Common.{sym, ap, ◌∙◌, arith}
use Rattle.epoch_board.specs.Seats.{BoardId, SeatState}
use Rattle.epoch_board.proofs.Steps.{parts}
use Rattle.epoch_board.proofs.board.Board.split.Goals as goal

pub split_seat-made-requires : goal.split_seat-made-requires
split_seat-made-requires c =
    let own = ap (λ (seat : SeatState). seat.board) c.seat.view_is ∙ c.requires.own ∙ sym c.self.view_is in
    let share = ap (λ (seat : SeatState). seat.share) c.seat.view_is in
    (ap (λ (board : BoardId). board.table) own, omega (arith, c.self.invariant.0), parts _ _ _ _ (omega (arith, share, c.requires.share)))
