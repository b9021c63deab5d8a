use Rattle.tracer_read.proofs.EachPart.{each_statement_stays as law}
use Rattle.tracer_read.proofs.laws.each_statement_stays.Goals as goal

pub returns : goal.returns
returns c = law
