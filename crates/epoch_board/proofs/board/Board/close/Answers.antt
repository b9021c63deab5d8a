use Rattle.std.proofs.Common.{ℕ, sym, ap, subst, ◌∙◌, arith}
use Rattle.epoch_board.specs.Seats.{BoardId, SeatState}
use Rattle.epoch_board.proofs.Keeps.{IsWhole}
use Rattle.epoch_board.proofs.Steps.{ends}
use Rattle.epoch_board.proofs.board.Board.close.Goals as goal

pub free-requires : goal.free-requires
free-requires c = λ k lt. absurd (omega (arith, c.close_with.ensures.counts, c.self.invariant.1))

pub returns : goal.returns
returns c =
    let all = ap (λ (seat : SeatState). seat.share) c.seat.view_is ∙ c.requires.all ∙ sym (ap (λ (board : BoardId). board.seats) c.self.view_is) in
    let epochs_is = ap (λ (board : BoardId). board.epochs) c.self.view_is in
    let whole = subst (λ (p : ℕ × SeatState). IsWhole p.0 p.1) (λ i. (epochs_is i, c.seat.view_is i))
    (ends _ _ _ _ _ _ _ c.seat.invariant.0 all c.close_with.ensures.values.2) in
    record { within = whole.within; once = whole.once; whole = whole.whole; read = whole.read }
