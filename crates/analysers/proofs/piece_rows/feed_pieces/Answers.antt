use Rattle.std.proofs.Common.{◌≡◌, ◌+◌, List, ◌∷◌, drop, ap, sym, ◌∙◌, arith}
use Rattle.std.proofs.lemmas.List.{drop_more}
use Rattle.tracer_lang.specs.declared.record.Record.{Record}
use Rattle.analysers.proofs.Pieces.{state_more, rows_more}
use Rattle.analysers.proofs.piece_rows.feed_pieces.Goals as goal

pub loop-piece-preserved : goal.loop-piece-preserved
loop-piece-preserved g c =
    let after = g.S.Stream.after c.args.stream.now in
    let told = g.S.Stream.told c.args.stream.now in
    let pieces = c.args.pieces.now in
    let i = c.loop-piece.piece-index in
    let piece = c.as_slice.result.now in
    let rest = drop (i + 1) pieces in
    let kept = c.loop-piece.invariant in
    let split : drop i pieces ≡ piece ∷ rest =
    drop_more pieces i c.piece-item.result (omega arith)
    ∙ ap (λ (p : List Record). p ∷ rest) (sym c.piece-item.is ∙ sym c.as_slice.ensures) in
    record {
      state = state_more after c.loop-piece.s c.feed_all.new.s _ piece rest (drop i pieces) split
          c.in_ok-feed_all.ensures.state kept.state;
      rows = rows_more after told c.loop-piece.s c.feed_all.new.s piece rest (drop i pieces)
          c.loop-piece.out.items c.feed_all.new.out.items _ split
          c.in_ok-feed_all.ensures.state c.in_ok-feed_all.ensures.rows kept.rows;
    }
