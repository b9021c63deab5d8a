use Rattle.std.proofs.Common.{◌≡◌, List, ℕ, [], ◌++◌, OnOk, refl, sym, subst, ◌∙◌}
use Rattle.std.specs.Prelude.{decimal}
use Rattle.std.specs.List.{All}
use Rattle.analysers.specs.Plain.{IsPlain}
use Rattle.analysers.proofs.Plain.{plain-nil}
use Rattle.report.specs.Report.{line}
use Rattle.report.specs.Table.{text_in}
use Rattle.report.proofs.Fields.{same_fields}
use Rattle.report.proofs.PlainTexts.{plain_seven}
use Rattle.report.proofs.lines.push_value_line.Goals as goal

pub push_line-requires-clause-plain : goal.push_line-requires-clause-plain
push_line-requires-clause-plain c =
    let position = c.as_bytes.ensures ∙ c.number_text.ensures.text in
    subst (All IsPlain) (sym (same_fields position refl refl refl refl refl refl))
    (plain_seven (decimal c.args.position) c.args.kind.now c.args.count.now [] [] [] c.args.value.now
    c.number_text.ensures.plain c.requires.plain c.requires.plain_count plain-nil plain-nil
    plain-nil c.requires.plain_value)

pub returns-clause-text : goal.returns-clause-text
returns-clause-text c =
    let position = c.as_bytes.ensures ∙ c.number_text.ensures.text in
    subst (λ (fs : List (List ℕ)). OnOk c.push_line.result
    (text_in c.push_line.new.table ≡ text_in c.args.out.now ++ line fs))
    (same_fields position refl refl refl refl refl refl) c.push_line.ensures.text
