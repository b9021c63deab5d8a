use Rattle.std.proofs.Common.{◌≡◌, ◌<◌, ◌^◌, List, ℕ, [], ◌++◌, length, OnOk, refl, sym, ap, subst, ◌∙◌, arith}
use Rattle.std.specs.Prelude.{codes}
use Rattle.std.specs.List.{All, join_with_byte}
use Rattle.analysers.specs.Plain.{IsPlain}
use Rattle.analysers.proofs.Plain.{plain-nil, plain_literal}
use Rattle.report.specs.Report.{line, register_texts}
use Rattle.report.specs.Table.{text_in}
use Rattle.report.proofs.Fields.{same_fields}
use Rattle.report.proofs.PlainTexts.{plain_seven, plain_registers}
use Rattle.report.proofs.lines.push_regs_line.Goals as goal

pub push_line-requires-clause-plain : goal.push_line-requires-clause-plain
push_line-requires-clause-plain c =
    let x = c.args.registers.now in
    let texts = join_with_byte 32 (register_texts 0 x) in
    let is = c.as_slice.ensures.value ∙ c.in_ok-push_registers.ensures
    ∙ ap (λ (t : List ℕ). t ++ texts) c.new-texts.ensures.items in
    let short : length x < 2 ^ 64 = omega arith in
    subst (All IsPlain) (sym (same_fields refl refl refl refl refl refl is))
    (plain_seven (codes "regs") (codes "x") [] [] [] [] texts (plain_literal (codes "regs") refl)
    (plain_literal (codes "x") refl) plain-nil plain-nil plain-nil plain-nil
    (plain_registers x short))
