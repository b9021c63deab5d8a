use Rattle.std.proofs.Common.{refl, sym, ap, ◌∙◌}
use Rattle.replay.specs.Run.{Breaks}
use Rattle.replay.proofs.Onward.{onward_over}
use Rattle.replay.proofs.Came.{fits_came}
use Rattle.replay.proofs.advancing.advance_one.Goals as goal

pub returns-in-Exited-clause-onward : goal.returns-in-Exited-clause-onward
returns-in-Exited-clause-onward g c = (onward_over _ _ c.in-Exited.field-0 c.in-Exited.is ∙ ap Breaks (sym c.early_end.ensures), refl, refl)

pub returns-in-Running-clause-fits : goal.returns-in-Running-clause-fits
returns-in-Running-clause-fits g c = fits_came c.args.rec.now c.args.m.now c.args.f.now c.run_one.result c.run_one.new.m c.run_one.new.f c.requires.fits c.run_one.ensures.onward
