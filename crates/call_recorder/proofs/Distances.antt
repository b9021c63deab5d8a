-- A recording with checkpoints by a distance is itself, cut anew by that distance.
use Rattle.std.proofs.Common.{◌≡◌, ℕ, List, length, sym, ap, ◌∙◌}
use Rattle.sl_model.specs.State.{State}
use Rattle.rec_format.specs.declared.recording.Recording.{Recording}
use Rattle.rec_format.specs.declared.recording.CheckpointData.{CheckpointData}
use Rattle.call_recorder.specs.Recut.{checkpoints_by, end_checkpoint, recut_of, HasCheckpointsBy}

module _ (rec : Recording) (opened : State) (every : ℕ) where
  pub recut_of_itself : HasCheckpointsBy rec opened every → recut_of rec opened every ≡ rec
  unfolding recut_of
  recut_of_itself has =
      let last = has.last ∙ ap (λ (l : List CheckpointData). end_checkpoint rec opened every (length l)) has.checkpoints in
      λ i. record rec { checkpoints = sym has.checkpoints i; last = sym last i }

  pub has_checkpoints : recut_of rec opened every ≡ rec → HasCheckpointsBy rec opened every
  unfolding recut_of
  has_checkpoints same =
      let checkpoints = sym (ap (λ (r : Recording). r.checkpoints) same) in
      record {
        checkpoints = checkpoints;
        last = sym (ap (λ (r : Recording). r.last) same) ∙ ap (λ (l : List CheckpointData). end_checkpoint rec opened every (length l)) (sym checkpoints);
      }
