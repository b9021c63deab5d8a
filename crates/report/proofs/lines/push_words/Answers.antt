use Rattle.std.proofs.Common.{◌∙◌, append_assoc, arith}
use Rattle.sl_base.specs.Text.{word_text}
use Rattle.report.proofs.Joining.{join_more}
use Rattle.report.proofs.lines.push_words.Goals as goal

pub loop-i-preserved : goal.loop-i-preserved
loop-i-preserved c =
    let more = join_more 32 word_text c.args.words.now c.loop-i.i 0 (omega arith) in
    let text = c.as_bytes.ensures ∙ c.word_text.ensures in
    rw (more, ← append_assoc, ← c.loop-i.invariant, ← text) c.in_ok-push_piece.ensures
