use Rattle.tracer_read.proofs.GrammarWhole.{one_reading as law}
use Rattle.tracer_read.proofs.laws.one_reading.Goals as goal

pub returns : goal.returns
returns c = law
