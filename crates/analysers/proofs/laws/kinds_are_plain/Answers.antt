use Rattle.analysers.proofs.Plain.{plain_kind}
use Rattle.analysers.proofs.laws.kinds_are_plain.Goals as goal

pub returns : goal.returns
returns c = plain_kind
