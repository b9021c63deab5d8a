use Rattle.std.proofs.Common.{◌≡◌, ◌∙◌, ◌++◌, ap, arith}
use Rattle.std.specs.Prelude.{length}
use Rattle.sl_model.specs.Pages.{low_bytes}
use Rattle.replay.proofs.OpeningStack.{stands_at, words_start}
use Rattle.replay.proofs.stack.stack_words.Goals as goal

pub loop-arg-init : goal.loop-arg-init
loop-arg-init c =
    let at = stands_at c.args.args.now c.requires in
    let begun : c.push_word.new.bytes.items ≡ low_bytes 4 (length c.args.args.now) = c.in_ok-push_word.ensures ∙ ap (λ l. l ++ low_bytes 4 (length c.args.args.now)) c.new-words.ensures.items in
    record {
      rest = words_start c.args.args.now c.push_word.new.bytes.items c.strings_start-address.result begun c.strings_start-address.ensures;
      within = omega (arith, at.end, c.strings_start-address.ensures);
    }
