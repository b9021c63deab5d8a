use Rattle.std.specs.Prelude.{nat_lt}
use Rattle.std.proofs.Common.{◌≡◌, ◌+◌, ◌*◌, ◌<◌, true, length, ap, ◌∙◌, arith}
use Rattle.std.proofs.lemmas.Grind.{common_steps}
use Rattle.sl_model.specs.declared.bank.TheConstants.{OUTPUT_START, MOST_OUTPUT_WORDS}
use Rattle.sl_model.specs.Bank.{words_at}
use Rattle.sl_model.specs.Undo.{word_at}
use Rattle.tracer_lang.specs.declared.record.Record.{Record}
use Rattle.undo_bank.specs.Areas.{bank_pages}
use Rattle.undo_isolation.proofs.Words.{length-words_at, word-there, with_words-same, with_words-suc}
use Rattle.undo_isolation.proofs.in_place.read_words.Goals as goal

pub loop-index-init : goal.loop-index-init
unfolding words_at
loop-index-init c = with_words-same c.args.rec.now (words_at (bank_pages c.args.bank.now) (OUTPUT_START + 4) 0) c.requires.none

pub push-requires : goal.push-requires
push-requires c =
    let words : c.loop-index.rec.words ≡ words_at (bank_pages c.args.bank.now) (OUTPUT_START + 4) c.loop-index.index = ap (λ (r : Record). r.words) c.loop-index.invariant in
    let few = c.requires.few in
    omega (arith, ap length words, length-words_at (bank_pages c.args.bank.now) (OUTPUT_START + 4) c.loop-index.index, c.out_len-index-end.ensures.count)

pub loop-index-preserved : goal.loop-index-preserved
loop-index-preserved c =
    let few = c.requires.few in
    let below : c.loop-index.index < MOST_OUTPUT_WORDS = omega (arith, c.out_len-index-end.ensures.count) in
    let yes : nat_lt c.loop-index.index MOST_OUTPUT_WORDS ≡ true = grind (arith, common_steps) in
    let word : c.unwrap_or.result ≡ word_at (bank_pages c.args.bank.now) (OUTPUT_START + 4 + 4 * c.loop-index.index) =
    c.unwrap_or.ensures ∙ word-there c.out_word.result _ (c.out_word.ensures.some ∙ yes) c.out_word.ensures.word in
    with_words-suc (bank_pages c.args.bank.now) (OUTPUT_START + 4) c.loop-index.index c.unwrap_or.result c.args.rec.now c.loop-index.rec c.push.new.self c.loop-index.invariant word c.push.ensures
