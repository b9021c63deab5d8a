use Rattle.tracer_read.proofs.EachPart.{each_list_stays as law}
use Rattle.tracer_read.proofs.laws.each_list_stays.Goals as goal

pub returns : goal.returns
returns c = law
