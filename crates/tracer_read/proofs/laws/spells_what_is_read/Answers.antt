use Rattle.tracer_read.proofs.GrammarWhole.{spells_what_is_read as law}
use Rattle.tracer_read.proofs.laws.spells_what_is_read.Goals as goal

pub returns : goal.returns
returns c = law
