use Rattle.std.proofs.Common.{le_refl}
use Rattle.rec_format.specs.Recorded.{end_place}
use Rattle.epoch_run.proofs.OneRun.{breaks_join, records_join, run_joins}
use Rattle.epoch_run.proofs.laws.epochs_join.Goals as goal

pub returns-clause-breaks : goal.returns-clause-breaks
returns-clause-breaks c rec opened is opens from at to below above within = breaks_join rec opened from at to is opens (record { below = below; above = above; within = within })

pub returns-clause-records : goal.returns-clause-records
returns-clause-records c rec opened tracers is opens from at to below above within none = records_join rec opened tracers from at to is opens (record { below = below; above = above; within = within }) none

pub returns-clause-states : goal.returns-clause-states
returns-clause-states c rec opened is opens from at below within none = run_joins rec opened from at (end_place rec) is opens (record { below = below; above = within; within = le_refl (end_place rec) }) none
