use Rattle.sl_model.proofs.Fitting.{Fits-step}
use Rattle.sl_model.proofs.Steps.{IsNext-step}
use Rattle.sl_model.proofs.laws.steps_keep_the_layout.Goals as goal

pub returns-clause-layout : goal.returns-clause-layout
returns-clause-layout c s t steps = (IsNext-step s t steps).layout

pub returns-clause-fits : goal.returns-clause-fits
returns-clause-fits c = Fits-step
