use Rattle.std.proofs.Common.{◌≡◌, ℕ, ◌+◌, ◌-◌, List, length, take, drop, ◌∙◌}
use Rattle.std.specs.Prelude.{Some}
use Rattle.std.specs.List.{after_first}
use Rattle.std.proofs.lemmas.List.{take_rest}
use Rattle.memchr.specs.Find.{IsFirstByte, is_byte}
use Rattle.asm_text.specs.Operands.{opens}
use Rattle.asm_text.proofs.Finds.{before_found, after_found, before_absent, after_absent}
use Rattle.asm_text.proofs.operand.at_parenthesis.Goals as goal

pub returns-in-Some-clause-before : goal.returns-in-Some-clause-before
returns-in-Some-clause-before c = before_found 40 _ _ c.in-Some.ensures

behind : (bs : List ℕ) (n : ℕ) → IsFirstByte (is_byte 40) bs (Some n) → take (length bs - (n + 1)) (drop (n + 1) bs) ≡ after_first opens bs
behind bs n first = take_rest bs (n + 1) ∙ after_found 40 bs n first

pub returns-in-Some-clause-after : goal.returns-in-Some-clause-after
returns-in-Some-clause-after c = behind _ _ c.in-Some.ensures

pub returns-in-None-clause-before : goal.returns-in-None-clause-before
returns-in-None-clause-before c = before_absent 40 _ c.in-None.ensures

pub returns-in-None-clause-after : goal.returns-in-None-clause-after
returns-in-None-clause-after c = after_absent 40 _ c.in-None.ensures
