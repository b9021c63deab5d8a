use Rattle.tracer_read.proofs.ToldScripts.{first_fault_is_told as law}
use Rattle.tracer_read.proofs.laws.first_fault_is_told.Goals as goal

pub returns : goal.returns
returns c = law
