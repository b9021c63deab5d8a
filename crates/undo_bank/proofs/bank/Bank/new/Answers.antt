use Rattle.std.proofs.Common.{◌≡◌, ◌%◌, [], length, ap, ◌∙◌, arith}
use Rattle.sl_model.specs.Bank.{code_size}
use Rattle.undo_bank.specs.Areas.{AreAreas}
use Rattle.undo_bank.proofs.StartLaws.{IsStarted-held, IsMadeFrom-held, AreAreas-made, code_size-multiple}
use Rattle.undo_bank.proofs.DenseLaws.{HoldsWords-zero}
use Rattle.undo_bank.proofs.bank.Bank.new.Goals as goal

-- what holds of the areas that were made
made : (c : goal.In_ok-new-3) → AreAreas (record {
  code = c.restart.new.self;
  frames = c.in_ok-new.field-0;
  log = c.in_ok-new-2.field-0;
  output = c.in_ok-new-3.field-0;
  last_log_len = 0;
})
made c =
    let size : length c.restart.new.self ≡ c.next_multiple_of-size.result = c.restart.ensures.size ∙ c.in_ok-code.ensures.size in
    let lower = c.next_multiple_of-size.ensures.lower_bound in
    let upper = c.next_multiple_of-size.ensures.upper_bound in
    let multiple = c.next_multiple_of-size.ensures.multiple in
    AreAreas-made c.restart.new.self c.in_ok-new.field-0 c.in_ok-new-2.field-0 c.in_ok-new-3.field-0
    (omega (arith, size, multiple)) (omega (arith, size, upper, multiple, c.requires)) c.restart.ensures.bytes
    c.in_ok-new.ensures.size c.in_ok-new.ensures.zero c.in_ok-new-2.ensures.size c.in_ok-new-2.ensures.zero c.in_ok-new-3.ensures.size c.in_ok-new-3.ensures.zero

pub invariant_of-result : goal.invariant_of-result
invariant_of-result c = made c

pub returns-clause-kept : goal.returns-clause-kept
returns-clause-kept c = made c

pub returns-clause-code : goal.returns-clause-code
returns-clause-code c =
    let lower = c.next_multiple_of-size.ensures.lower_bound in
    let upper = c.next_multiple_of-size.ensures.upper_bound in
    let multiple = c.next_multiple_of-size.ensures.multiple in
    let size : length c.restart.new.self ≡ code_size c.args.words.now =
    c.restart.ensures.size ∙ c.in_ok-code.ensures.size
    ∙ code_size-multiple c.args.words.now c.next_multiple_of-size.result (omega (arith, lower)) (omega (arith, upper)) (omega (arith, multiple)) in
    IsMadeFrom-held c.args.words.now _ (made c) size c.restart.ensures.words

pub returns-clause-rest : goal.returns-clause-rest
returns-clause-rest c =
    IsStarted-held [] _ (made c)
    (HoldsWords-zero c.in_ok-new.field-0 (ap (λ n. n % 4) c.in_ok-new.ensures.size) c.in_ok-new.ensures.zero)
    (HoldsWords-zero c.in_ok-new-2.field-0 (ap (λ n. n % 4) c.in_ok-new-2.ensures.size) c.in_ok-new-2.ensures.zero)
    (HoldsWords-zero c.in_ok-new-3.field-0 (ap (λ n. n % 4) c.in_ok-new-3.ensures.size) c.in_ok-new-3.ensures.zero)
