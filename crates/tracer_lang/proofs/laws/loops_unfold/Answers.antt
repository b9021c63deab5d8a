use Rattle.tracer_lang.proofs.Unfolded.{loops_unfold as law}
use Rattle.tracer_lang.proofs.laws.loops_unfold.Goals as goal

pub returns : goal.returns
returns c = law
