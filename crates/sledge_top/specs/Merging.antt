-- What the posts of a plan merge to.
use Rattle.std.specs.Prelude.{◌≡◌, List, Option, Some, None}
use Rattle.std.specs.List.{flat_map}
use Rattle.replay.specs.Breaks.{first_break}
use Rattle.analysers.specs.Pieces.{merged_of}
use Rattle.checkpoints.specs.RecordedRun.{opened_of}
use Rattle.epoch_core.specs.declared.post.Post.{Post}
use Rattle.epoch_core.specs.Posts.{Posted}
use Rattle.epoch_run.specs.declared.plan.Plan.{Plan}
use Rattle.epoch_run.specs.EpochLaws.{epochs_of}
use Rattle.epoch_run.specs.Plans.{tracers_of, values_of}
use Rattle.epoch_run.specs.Records.{records}
use Rattle.ordered_merge.specs.declared.least.BrokenEpoch.{BrokenEpoch}
use Rattle.ordered_merge.specs.Least.{IsLeast}
use Rattle.ordered_merge.specs.Merged.{records_in}
use Rattle.ordered_merge.specs.Ordered.{in_order}

-- The least epoch whose post broke has the first break of the one run. Where none broke the run does
-- not break, and the analyses give of the records of all posts, in the order of the epochs, what
-- they give of the records of the run.
abbrev pub MergesTo : Plan → List Post → Option BrokenEpoch → Type 0
MergesTo plan posts (Some broken) =
    first_break plan.checkpoints.rec (opened_of plan.checkpoints) ≡ Some broken.first
MergesTo plan posts None =
    (first_break plan.checkpoints.rec (opened_of plan.checkpoints) ≡ None)
    × (merged_of plan.kinds (flat_map records_in (in_order (epochs_of plan.cutting) posts))
    ≡ merged_of plan.kinds
    (records plan.checkpoints.rec (tracers_of plan) (opened_of plan.checkpoints)))

-- so it is with one post for each epoch, in any order, with what it comes to or skipped above one
-- that broke
abbrev pub PostsMerge : Plan → List Post → Type 0
PostsMerge plan posts =
    Posted (values_of plan) posts
    → (least : Option BrokenEpoch) → IsLeast posts least → MergesTo plan posts least
