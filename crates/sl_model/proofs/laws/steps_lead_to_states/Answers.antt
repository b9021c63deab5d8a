use Rattle.sl_model.proofs.Steps.{IsState-step}
use Rattle.sl_model.proofs.laws.steps_lead_to_states.Goals as goal

pub returns : goal.returns
returns c = IsState-step
