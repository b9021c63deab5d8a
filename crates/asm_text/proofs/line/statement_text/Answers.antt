use Rattle.std.proofs.Common.{◌≡◌, ℕ, List, true, false, sym, ◌∙◌, ap, arith, length, ◌≤◌, subst}
use Rattle.asm_text.specs.Lines.{code_of, has_label, behind_label, statement_within, statement_text}
use Rattle.asm_text.proofs.Labels.{same_statement, next_statement, no_more_statement}
use Rattle.asm_text.proofs.line.statement_text.Goals as goal

starts : (line code : List ℕ) → code ≡ code_of line → length code ≤ length line → statement_within (length code) code ≡ statement_text line
starts line code is within =
    same_statement (length code) (length line) code (omega arith) within ∙ ap (statement_within (length line)) is

pub loop-after-init : goal.loop-after-init
loop-after-init c = record {
  within = c.code_of-code.ensures.within;
  left = starts _ _ c.code_of-code.ensures.value c.code_of-code.ensures.within;
}

goes_on : (code after : List ℕ) → has_label code ≡ true → after ≡ behind_label code
    → statement_within (length after) after ≡ statement_within (length code) code
goes_on code after label is =
    ap (λ (rest : List ℕ). statement_within (length rest) rest) is ∙ sym (next_statement code label)

pub loop-after-preserved : goal.loop-after-preserved
loop-after-preserved c = record {
  within = omega (arith, c.in-Some.ensures.within, c.loop-after.invariant.within);
  left = goes_on _ _ (c.in-Some.ensures.value.0) (c.in-Some.ensures.value.2) ∙ c.loop-after.invariant.left;
}

pub returns-clause-value : goal.returns-clause-value
returns-clause-value c = sym (no_more_statement _ (c.in_default.ensures.value)) ∙ c.loop-after.invariant.left
