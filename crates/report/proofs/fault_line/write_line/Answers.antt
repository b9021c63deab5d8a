use Rattle.std.proofs.Common.{ℕ, List, [], ◌∷◌, ◌++◌, codes, map}
use Rattle.std.specs.List.{flat_map}
use Rattle.report.specs.Pieces.{piece_text}
use Rattle.report.proofs.Writing.{AddsPrefix-longer, AddsPrefix-then, Writes-failed, Writes-after, flat_map-of_map}
use Rattle.report.proofs.fault_line.write_line.Goals as goal

pub returns-in_err-write_piece-clause-written : goal.returns-in_err-write_piece-clause-written
returns-in_err-write_piece-clause-written g c =
    let rest = flat_map (λ (piece : List ℕ). piece) (map piece_text c.args.pieces.now) ++ 10 ∷ [] in
    Writes-failed c.from_residual.result _ _ _ c.from_residual.ensures.0
    (AddsPrefix-longer _ _ (codes "sledge: ") rest c.in_err-write_piece.ensures.written)

pub returns-in_err-write_pieces-clause-written : goal.returns-in_err-write_pieces-clause-written
returns-in_err-write_pieces-clause-written g c =
    let pieces = c.args.pieces.now in
    let some = AddsPrefix-longer _ _ (flat_map piece_text pieces) (10 ∷ []) c.in_err-write_pieces.ensures.written in
    rw (flat_map-of_map piece_text pieces)
    (Writes-failed c.from_residual-in_err-write_pieces.result _ _ _ c.from_residual-in_err-write_pieces.ensures.0
    (AddsPrefix-then _ _ _ (codes "sledge: ") (flat_map piece_text pieces ++ 10 ∷ []) c.in_ok-write_piece.ensures.written some))

pub returns-clause-written : goal.returns-clause-written
returns-clause-written g c =
    let pieces = c.args.pieces.now in
    let last = Writes-after c.write_piece-2.result _ _ _ (flat_map piece_text pieces) (10 ∷ []) c.in_ok-write_pieces.ensures.written c.write_piece-2.ensures.written in
    rw (flat_map-of_map piece_text pieces)
    (Writes-after c.write_piece-2.result _ _ _ (codes "sledge: ") (flat_map piece_text pieces ++ 10 ∷ []) c.in_ok-write_piece.ensures.written last)
