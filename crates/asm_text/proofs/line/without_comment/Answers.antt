use Rattle.asm_text.proofs.Finds.{before_found, before_absent}
use Rattle.asm_text.proofs.line.without_comment.Goals as goal

pub returns-in-Some-clause-value : goal.returns-in-Some-clause-value
returns-in-Some-clause-value c = before_found 35 _ _ c.in-Some.ensures

pub returns-in-None-clause-value : goal.returns-in-None-clause-value
returns-in-None-clause-value c = before_absent 35 _ c.in-None.ensures
