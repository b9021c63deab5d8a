use Rattle.std.proofs.Common.{◌≡◌, List, ℕ, [], ◌++◌, OnOk, refl, sym, ap, subst, ◌∙◌}
use Rattle.std.specs.Prelude.{codes, decimal}
use Rattle.std.specs.List.{All}
use Rattle.sl_base.specs.Text.{word_text}
use Rattle.analysers.specs.Plain.{IsPlain}
use Rattle.analysers.proofs.Plain.{plain-nil, plain_literal}
use Rattle.report.specs.Report.{line, end_kind, end_value}
use Rattle.report.specs.Table.{text_in}
use Rattle.report.proofs.Fields.{same_fields}
use Rattle.report.proofs.PlainTexts.{plain_seven, plain_end, plain_word}
use Rattle.report.proofs.lines.push_end_line.Goals as goal

pub push_line-requires-clause-plain : goal.push_line-requires-clause-plain
push_line-requires-clause-plain c =
    let kind = c.as_bytes.ensures.value ∙ c.end_kind.ensures in
    let count = c.as_bytes-2.ensures ∙ c.number_text.ensures.text in
    let pc = c.as_bytes-3.ensures ∙ c.word_text.ensures in
    let value = c.as_bytes-4.ensures ∙ c.word_text-2.ensures ∙ ap word_text c.end_value.ensures in
    subst (All IsPlain) (sym (same_fields refl kind count refl pc refl value))
    (plain_seven (codes "end") (end_kind c.args.end.now) (decimal c.args.count) []
    (word_text c.args.pc) [] (word_text (end_value c.args.end.now))
    (plain_literal (codes "end") refl) (plain_end c.args.end.now) c.number_text.ensures.plain
    plain-nil (plain_word c.args.pc) plain-nil (plain_word (end_value c.args.end.now)))

pub returns-clause-text : goal.returns-clause-text
returns-clause-text c =
    let kind = c.as_bytes.ensures.value ∙ c.end_kind.ensures in
    let count = c.as_bytes-2.ensures ∙ c.number_text.ensures.text in
    let pc = c.as_bytes-3.ensures ∙ c.word_text.ensures in
    let value = c.as_bytes-4.ensures ∙ c.word_text-2.ensures ∙ ap word_text c.end_value.ensures in
    subst (λ (fs : List (List ℕ)). OnOk c.push_line.result
    (text_in c.push_line.new.table ≡ text_in c.args.out.now ++ line fs))
    (same_fields refl kind count refl pc refl value) c.push_line.ensures.text
