use Rattle.std.proofs.Common.{Contains, sym, ap, subst, ◌∙◌, arith}
use Rattle.epoch_board.specs.Seats.{BoardId, SeatState}
use Rattle.epoch_board.proofs.Steps.{lowers_to}
use Rattle.epoch_board.proofs.board.Board.lower.Goals as goal

pub fetch_min-requires : goal.fetch_min-requires
fetch_min-requires c =
    let own = ap (λ (seat : SeatState). seat.board) c.seat.view_is ∙ c.requires.own ∙ sym c.self.view_is in
    let claims_is = ap (λ (seat : SeatState). seat.claims) c.seat.view_is in
    let claimed = subst (Contains c.args.seat.now.claims) (sym c.from-epoch.ensures) c.requires.claimed in (
      ap (λ (board : BoardId). board.table) own,
      omega (arith, c.self.invariant.0),
      lowers_to _ _ _ _ _ _ c.seat.invariant.0 (subst (λ claims. Contains claims c.from-epoch.result) (sym claims_is) claimed),
    )
