-- The epochs of a cutting, as a plan has them.
use Rattle.std.specs.Prelude.{slice_index, IfOk}
use Rattle.std.specs.List.{slice_get}
use Rattle.std.proofs.Common.{◌≡◌, ℕ, zero, suc, ◌+◌, ◌-◌, ◌<◌, ◌≤◌, ⊎_elim, List, length, Some, Result, Ok, Err, sym, ap, ◌∙◌, zero-add, arith}
use Rattle.std.proofs.lemmas.Bool.{cases_eq}
use Rattle.std.proofs.lemmas.List.FromFn.{length-map-range_with_len, get_or-map-range_with_len}
use Rattle.std.proofs.lemmas.Option.{slice_get-get_or}
use Rattle.rec_format.specs.Rules.{IsRecordingValue}
use Rattle.rec_format.specs.declared.recording.Recording.{Recording}
use Rattle.sl_base.specs.declared.refused.Memory.{Memory}
use Rattle.epoch_core.specs.declared.post.Post.{Post}
use Rattle.epoch_core.specs.declared.post.PostValue.{PostValue}
use Rattle.epoch_core.specs.declared.post.PostValue.TheVariants as post
use Rattle.epoch_cut.specs.Places.{IsCutting}
use Rattle.rec_format.specs.Recorded.{end_place}
use Rattle.epoch_run.specs.EpochLaws.{epochs_of}
use Rattle.epoch_run.specs.declared.plan.Plan.{Plan}
use Rattle.epoch_run.specs.Plans.{posted, value_in, values_of}
use Rattle.epoch_run.proofs.OneRun.{are}

-- ---- where an epoch stands

pub record AreEnds (rec : Recording) (places : List ℕ) (k : ℕ) : Type 0 where
  pub below : slice_index places k < slice_index places (k + 1)
  pub within : slice_index places (k + 1) ≤ end_place rec

pub ends : (rec : Recording) (places : List ℕ) (k : ℕ) → IsCutting (end_place rec) places → k < epochs_of places → AreEnds rec places k
ends rec places k cut within =
    let places_are = are rec places cut in
    record {
      below = places_are.rising k (k + 1) (omega arith) (omega arith);
      within = ⊎_elim
          (λ (same : k + 1 ≡ length places - 1).
          let last : slice_index places (k + 1) ≡ end_place rec = ap (slice_index places) same ∙ places_are.last in
          omega arith)
          (λ (apart : k + 1 ≡ length places - 1 → ⊥).
          let before = places_are.rising (k + 1) (length places - 1) (omega arith) (omega arith) in
          omega (arith, places_are.last))
          (cases_eq (k + 1) (length places - 1));
    }

-- places rise by one at least, so there are no more epochs than segments
place_from : (rec : Recording) (places : List ℕ) (k : ℕ) → IsCutting (end_place rec) places → k < length places → k ≤ slice_index places k
place_from rec places zero cut within = omega arith
place_from rec places (suc k) cut within =
    let before = place_from rec places k cut (omega arith) in
    let places_are = are rec places cut in
    let rises = places_are.rising k (suc k) (omega arith) within in
    omega arith

pub few_epochs : (rec : Recording) (places : List ℕ) → IsRecordingValue rec → IsCutting (end_place rec) places → epochs_of places ≤ 4096
few_epochs rec places is cut =
    let places_are = are rec places cut in
    let some = places_are.some in
    let last = place_from rec places (length places - 1) cut (omega arith) in
    let few = is.number_of_checkpoints in
    omega (arith, places_are.last)

-- ---- their values

pub length-values : (plan : Plan) → length (values_of plan) ≡ epochs_of plan.cutting
length-values plan = length-map-range_with_len (λ k. posted plan.kinds (value_in plan k)) 0 (epochs_of plan.cutting)

pub slice_get-values : (plan : Plan) (k : ℕ) → k < epochs_of plan.cutting → slice_get (values_of plan) k ≡ Some (posted plan.kinds (value_in plan k))
slice_get-values plan k within =
    let values : ℕ → PostValue = λ j. posted plan.kinds (value_in plan j) in
    let none = post.Skipped 0 in
    slice_get-get_or (values_of plan) k none (omega (arith, length-values plan))
    ∙ ap Some (get_or-map-range_with_len values 0 (epochs_of plan.cutting) k k none within (zero-add k))

-- the post of an epoch is the value of that place
pub post_is_value : (plan : Plan) (k : ℕ) (r : Result Post Memory) → k < epochs_of plan.cutting → IfOk r (λ post. post.value ≡ posted plan.kinds (value_in plan k)) → IfOk r (λ post. slice_get (values_of plan) k ≡ Some post.value)
post_is_value plan k (Ok post) within is = slice_get-values plan k within ∙ ap Some (sym is)
post_is_value plan k (Err memory) within is = tt
