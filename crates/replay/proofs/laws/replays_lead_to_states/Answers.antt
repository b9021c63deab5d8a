use Rattle.replay.proofs.States.{IsState-onward}
use Rattle.replay.proofs.laws.replays_lead_to_states.Goals as goal

pub returns : goal.returns
returns c rec s t value bytes is fits below goes = IsState-onward s is fits below rec value bytes t goes
