use Rattle.sledge_top.proofs.Outcomes.{outcome_answers}
use Rattle.sledge_top.proofs.laws.answers_are_outcomes.Goals as goal

pub returns : goal.returns
returns g c = outcome_answers g.W.World.hears
