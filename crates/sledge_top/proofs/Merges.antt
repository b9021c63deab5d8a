-- What the posts of a plan merge to.
use Rattle.std.proofs.Common.{◌≡◌, ℕ, List, length, Option, Some, None, Result, Ok, Err, refl, sym, ap, subst, ◌∙◌}
use Rattle.std.specs.List.{flat_map}
use Rattle.call_log.specs.declared.breaks.Break.{Break}
use Rattle.tracer_lang.specs.declared.record.Record.{Record}
use Rattle.analysers.specs.declared.merged.Merged.{Merged}
use Rattle.analysers.specs.Pieces.{merged_of}
use Rattle.checkpoints.specs.RecordedRun.{opened_of}
use Rattle.replay.specs.Breaks.{first_break}
use Rattle.epoch_core.specs.declared.post.Post.{Post}
use Rattle.epoch_core.specs.declared.post.PostValue.{PostValue}
use Rattle.epoch_core.specs.Posts.{Posted}
use Rattle.epoch_run.specs.declared.plan.Plan.{Plan}
use Rattle.epoch_run.specs.EpochLaws.{epochs_of}
use Rattle.epoch_run.specs.Plans.{tracers_of, values_of}
use Rattle.epoch_run.specs.Records.{records}
use Rattle.epoch_run.proofs.Planned.{length-values}
use Rattle.ordered_merge.specs.declared.least.BrokenEpoch.{BrokenEpoch}
use Rattle.ordered_merge.specs.Least.{IsLeast}
use Rattle.ordered_merge.specs.Merged.{merged, records_in}
use Rattle.ordered_merge.specs.Ordered.{in_order}
use Rattle.ordered_merge.proofs.Theorem.{merged_broke, merged_ran, least_is_first, all_own, none_broke}
use Rattle.ordered_merge.proofs.Placed.{values_are}
use Rattle.sledge_top.specs.Runs.{run_value, run_in}
use Rattle.sledge_top.specs.Merging.{MergesTo, PostsMerge}

breaks_so : (break : Option Break) (whole : Merged) (first : Break) → run_value break whole ≡ Err first → break ≡ Some first
breaks_so None whole first is = absurd cc
breaks_so (Some other) whole first is = let same : other ≡ first = cc in ap Some same

runs_so : (break : Option Break) (whole left : Merged) → run_value break whole ≡ Ok left → (break ≡ None) × (left ≡ whole)
runs_so None whole left is = (refl, cc)
runs_so (Some other) whole left is = absurd cc

pub posts_merge : (plan : Plan) (posts : List Post) → merged plan.kinds (values_of plan) ≡ run_in plan → PostsMerge plan posts
posts_merge plan posts is posted (Some broken) least =
    breaks_so (first_break plan.checkpoints.rec (opened_of plan.checkpoints)) _ broken.first
    (sym is ∙ merged_broke plan.kinds (values_of plan) broken.epoch broken.first (least_is_first (values_of plan) posts broken posted least))
posts_merge plan posts is posted None least =
    let values = values_of plan in
    let ordered : in_order (epochs_of plan.cutting) posts ≡ values =
    ap (λ (n : ℕ). in_order n posts) (sym (length-values plan)) ∙ values_are values posts posted (all_own values posts posted least) in
    let both = runs_so (first_break plan.checkpoints.rec (opened_of plan.checkpoints)) _ _ (sym is ∙ merged_ran plan.kinds values (none_broke values posts posted least)) in
    (both.0, ap (λ (vs : List PostValue). merged_of plan.kinds (flat_map records_in vs)) ordered ∙ both.1)
