use Rattle.sledge_top.proofs.Outcomes.{same_outcome}
use Rattle.sledge_top.proofs.laws.same_answer.Goals as goal

pub returns : goal.returns
returns c = same_outcome
