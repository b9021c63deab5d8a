use Rattle.std.proofs.Common.{refl}
use Rattle.tracer_lang.specs.Meaning.{meaning}
use Rattle.tracer_mean.specs.Apart.{RecordsStandApart}
use Rattle.tracer_mean.proofs.laws.records_stand_apart.Goals as goal

apart : RecordsStandApart
unfolding meaning
apart script other point s budget functions same = rw (budget, functions, same) refl

pub returns : goal.returns
returns c = apart
