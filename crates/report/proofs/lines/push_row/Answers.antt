use Rattle.std.proofs.Common.{◌≡◌, List, ℕ, [], ◌++◌, OnOk, sym, ap, subst, ◌∙◌}
use Rattle.analysers.specs.declared.row.Row.{Row}
use Rattle.analysers.proofs.Plain.{plain-same}
use Rattle.report.specs.Report.{row_line, value_line}
use Rattle.report.specs.Table.{text_in}
use Rattle.report.proofs.PlainTexts.{plain_word}
use Rattle.report.proofs.lines.push_row.Goals as goal

same_line : (position : ℕ) (kind : List ℕ) {a b x y : List ℕ} → a ≡ x → b ≡ y
    → value_line position kind a b ≡ value_line position kind x y
same_line position kind {a} {b} {x} {y} count value =
    ap (λ (t : List ℕ). value_line position kind t b) count ∙ ap (value_line position kind x) value

pub push_value_line-requires-in-Word-clause-plain_value : goal.push_value_line-requires-in-Word-clause-plain_value
push_value_line-requires-in-Word-clause-plain_value c =
    plain-same _ _ (c.as_bytes-in-Word.ensures ∙ c.word_text.ensures) (plain_word _)

pub push_value_line-requires-in-Bin-clause-plain_value : goal.push_value_line-requires-in-Bin-clause-plain_value
push_value_line-requires-in-Bin-clause-plain_value c =
    plain-same _ _ (c.as_bytes-in-Bin-2.ensures ∙ c.word_text-in-Bin.ensures) (plain_word _)

pub returns-in-Word-clause-text : goal.returns-in-Word-clause-text
returns-in-Word-clause-text c =
    let position = c.args.position in
    let kind = c.args.kind.now in
    let new = text_in c.push_value_line-in-Word.new.out in
    let old = text_in c.args.out.now in
    subst (λ (r : Row). OnOk c.push_value_line-in-Word.result
    (new ≡ old ++ row_line position kind r)) (sym c.in-Word.is)
    (subst (λ (t : List ℕ). OnOk c.push_value_line-in-Word.result
    (new ≡ old ++ value_line position kind [] t))
    (c.as_bytes-in-Word.ensures ∙ c.word_text.ensures) c.push_value_line-in-Word.ensures.text)

pub returns-in-Bin-clause-text : goal.returns-in-Bin-clause-text
returns-in-Bin-clause-text c =
    let position = c.args.position in
    let kind = c.args.kind.now in
    let new = text_in c.push_value_line-in-Bin.new.out in
    let old = text_in c.args.out.now in
    subst (λ (r : Row). OnOk c.push_value_line-in-Bin.result
    (new ≡ old ++ row_line position kind r)) (sym c.in-Bin.is)
    (subst (λ (t : List ℕ). OnOk c.push_value_line-in-Bin.result (new ≡ old ++ t))
    (same_line position kind (c.as_bytes-in-Bin.ensures ∙ c.number_text-in-Bin.ensures.text)
    (c.as_bytes-in-Bin-2.ensures ∙ c.word_text-in-Bin.ensures))
    c.push_value_line-in-Bin.ensures.text)
