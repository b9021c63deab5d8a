use Rattle.tracer_read.proofs.GrammarWhole.{reads_what_is_spelled as law}
use Rattle.tracer_read.proofs.laws.reads_what_is_spelled.Goals as goal

pub returns : goal.returns
returns c = law
