use Rattle.std.proofs.Common.{◌<◌, ℕ, sym, ap, subst, ◌∙◌, arith}
use Rattle.std.specs.Prelude.{Option, IfSome}
use Rattle.epoch_board.specs.declared.view.View.{View}
use Rattle.epoch_board.specs.Seats.{BoardId, SeatState, epochs_left}
use Rattle.epoch_board.specs.Views.{epoch_of, seat_of}
use Rattle.epoch_board.proofs.Rising.{fewer}
use Rattle.epoch_board.proofs.Steps.{claims}
use Rattle.epoch_board.proofs.board.Board.claim.Goals as goal

pub fetch_add-drawn-requires : goal.fetch_add-drawn-requires
fetch_add-drawn-requires c =
    let own = ap (λ (seat : SeatState). seat.board) c.seat.view_is ∙ c.requires.own ∙ sym c.self.view_is in
    let told = ap (λ (seat : SeatState). seat.told) c.seat.view_is in
    (ap (λ (board : BoardId). board.table) own, omega (arith, c.self.invariant.0), claims _ _ _ _ _ c.seat.invariant.0 (told ∙ c.requires.not_told))

pub returns-clause-fewer : goal.returns-clause-fewer
returns-clause-fewer c =
    let before = c.seat.inside.seat in
    let drew = c.fetch_add-drawn.ensures.2 in
    let epochs = ap (λ (board : BoardId). board.epochs) (ap (λ (seat : SeatState). seat.board) c.seat.view_is ∙ c.requires.own) in
    let result_is = c.epoch_of.ensures ∙ ap (λ n. epoch_of n c.fetch_add-drawn.result) (sym epochs) in
    subst (λ (p : Option ℕ × View × SeatState). IfSome p.0 (λ _. epochs_left (seat_of before.table_id p.1) < epochs_left p.2))
    (λ i. (sym result_is i, (sym drew.0 i).0, c.seat.view_is i))
    (fewer before.table_id before.me.0 c.fetch_add-drawn.result drew.1)
