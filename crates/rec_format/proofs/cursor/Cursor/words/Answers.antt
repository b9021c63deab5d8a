use Rattle.std.proofs.Common.{◌<◌, ◌≤◌, length, take, refl, ◌∙◌, arith}
use Rattle.std.proofs.lemmas.Result.{err_from_is_err_and}
use Rattle.std.proofs.lemmas.List.{take_more_set, length-set, take_all}
use Rattle.rec_format.specs.Reading.{word_at, words_at}
use Rattle.rec_format.proofs.Items.{more, stops, ends}
use Rattle.rec_format.proofs.cursor.Cursor.words.Goals as goal

pub returns-in_err-words-clause-read : goal.returns-in_err-words-clause-read
returns-in_err-words-clause-read g c =
    let p = err_from_is_err_and c.from_residual.result c.from_residual.ensures.1 in
    rw (p.1, p.2) (stops (λ _. word_at) g.row.N c.loop-i.i (take c.loop-i.i c.loop-i.words) c.loop-i.self (words_at g.row.N c.args.self.now) c.loop-i.invariant.1 c.in_err-words.field-0.0 c.loop-i-test.true c.in_err-words.ensures.read)

pub loop-i-preserved : goal.loop-i-preserved
loop-i-preserved g c =
    let words = c.loop-i.words in
    let i = c.loop-i.i in
    let lt : i < length words = omega (arith, c.loop-i.invariant.0) in
    (length-set words i _ ∙ c.loop-i.invariant.0, rw (take_more_set words i _ lt) (more (λ _. word_at) g.row.N i (take i words) c.loop-i.self (words_at g.row.N c.args.self.now) c.loop-i.invariant.1 c.in_ok-words.field-0 c.word.new.self c.loop-i-test.true c.in_ok-words.ensures.read))

pub returns-clause-read : goal.returns-clause-read
returns-clause-read g c =
    let words = c.loop-i.words in
    let whole : length words ≤ c.loop-i.i = omega (arith, c.loop-i.invariant.0) in
    rw (ends (λ _. word_at) g.row.N c.loop-i.i (take c.loop-i.i words) c.loop-i.self (words_at g.row.N c.args.self.now) c.loop-i.invariant.1 c.loop-i-test.false, take_all c.loop-i.i words whole) refl
