use Rattle.std.proofs.Common.{◌≡◌, List, ℕ, ◌++◌, OnOk, refl, sym, ap, subst, ◌∙◌}
use Rattle.std.specs.Prelude.{decimal}
use Rattle.std.specs.List.{All}
use Rattle.sl_base.specs.Text.{word_text}
use Rattle.analysers.specs.Plain.{IsPlain}
use Rattle.report.specs.Report.{line, outcome_text, words_text}
use Rattle.report.specs.Table.{text_in}
use Rattle.report.proofs.Fields.{same_fields}
use Rattle.report.proofs.PlainTexts.{plain_seven, plain_outcome, plain_words, plain_word}
use Rattle.report.proofs.lines.push_record_line.Goals as goal

pub push_line-requires-clause-plain : goal.push_line-requires-clause-plain
push_line-requires-clause-plain c =
    let entry = c.args.entry.now in
    let position = c.as_bytes.ensures ∙ c.number_text.ensures.text in
    let count = c.as_bytes-2.ensures ∙ c.number_text-2.ensures.text in
    let point = c.as_bytes-3.ensures ∙ c.number_text-3.ensures.text ∙ ap decimal c.from.ensures in
    let pc = c.as_bytes-4.ensures ∙ c.word_text.ensures in
    let outcome = c.as_slice-2.ensures.value ∙ c.in_ok-push_outcome.ensures
    ∙ ap (λ (t : List ℕ). t ++ outcome_text entry.outcome) c.new-outcome.ensures.items in
    let words = c.as_slice-3.ensures.value ∙ c.in_ok-push_words.ensures
    ∙ ap (λ (t : List ℕ). t ++ words_text c.as_slice.result.now) c.new-words.ensures.items
    ∙ ap words_text c.as_slice.ensures in
    subst (All IsPlain) (sym (same_fields position refl count point pc outcome words))
    (plain_seven (decimal c.args.position) c.args.kind.now (decimal entry.count)
    (decimal entry.point) (word_text entry.pc) (outcome_text entry.outcome)
    (words_text entry.words) c.number_text.ensures.plain c.requires.plain
    c.number_text-2.ensures.plain
    (subst (λ (n : ℕ). IsPlain (decimal n)) c.from.ensures c.number_text-3.ensures.plain)
    (plain_word entry.pc) (plain_outcome entry.outcome) (plain_words entry.words))

pub returns-clause-text : goal.returns-clause-text
returns-clause-text c =
    let entry = c.args.entry.now in
    let position = c.as_bytes.ensures ∙ c.number_text.ensures.text in
    let count = c.as_bytes-2.ensures ∙ c.number_text-2.ensures.text in
    let point = c.as_bytes-3.ensures ∙ c.number_text-3.ensures.text ∙ ap decimal c.from.ensures in
    let pc = c.as_bytes-4.ensures ∙ c.word_text.ensures in
    let outcome = c.as_slice-2.ensures.value ∙ c.in_ok-push_outcome.ensures
    ∙ ap (λ (t : List ℕ). t ++ outcome_text entry.outcome) c.new-outcome.ensures.items in
    let words = c.as_slice-3.ensures.value ∙ c.in_ok-push_words.ensures
    ∙ ap (λ (t : List ℕ). t ++ words_text c.as_slice.result.now) c.new-words.ensures.items
    ∙ ap words_text c.as_slice.ensures in
    subst (λ (fs : List (List ℕ)). OnOk c.push_line.result
    (text_in c.push_line.new.table ≡ text_in c.args.out.now ++ line fs))
    (same_fields position refl count point pc outcome words) c.push_line.ensures.text
