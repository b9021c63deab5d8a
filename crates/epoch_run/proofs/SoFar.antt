-- An epoch, one segment after the other.
use Rattle.std.proofs.Common.{◌≡◌, ℕ, zero, suc, ◌+◌, ◌-◌, ◌<◌, ◌≤◌, ⊎_elim, List, [], ◌++◌, Some, None, refl, sym, ap, subst, ◌∙◌, arith}
use Rattle.std.specs.Option.{option_or}
use Rattle.std.proofs.lemmas.Bool.{cases_eq}
use Rattle.sl_base.specs.declared.refused.Refused.{Refused}
use Rattle.sl_base.specs.declared.refused.Refused.TheVariants as refused
use Rattle.sl_base.specs.Refusals.{Fails}
use Rattle.sl_model.specs.State.{State}
use Rattle.call_log.specs.declared.breaks.Break.{Break}
use Rattle.tracer_lang.specs.declared.record.Record.{Record}
use Rattle.rec_format.specs.Rules.{IsRecordingValue}
use Rattle.rec_format.specs.declared.recording.Recording.{Recording}
use Rattle.rec_format.specs.Recorded.{end_place, recorded_count}
use Rattle.epoch_run.specs.Records.{Tracers}
use Rattle.epoch_run.specs.Epochs.{epoch_break, epoch_records, value_of, epoch_value}
use Rattle.epoch_run.specs.Segments.{StopsAt}
use Rattle.sl_model.specs.State.{IsOpening}
use Rattle.rec_format.proofs.Counts.{counts_rise}
use Rattle.epoch_run.proofs.OneRun.{breaks_join, records_join}

-- ---- counts

-- the counts of two checkpoints, also where none is listed
pub counts_up : (rec : Recording) (a b : ℕ) → IsRecordingValue rec → a ≤ b → b ≤ end_place rec → recorded_count rec a ≤ recorded_count rec b
counts_up rec zero b is below within = omega arith
counts_up rec (suc a) b is below within = ⊎_elim
    (λ (same : suc a ≡ b). subst (λ k. recorded_count rec (suc a) ≤ recorded_count rec k) same (omega arith))
    (λ (apart : suc a ≡ b → ⊥).
    let rises = counts_rise rec (suc a) b is (omega arith) (omega arith) within in
    omega arith)
    (cases_eq (suc a) b)

-- ---- the segments up to a checkpoint

-- none of them breaks, and these are their records
pub record IsSoFar (rec : Recording) (opened : State) (tracers : Tracers) (a j : ℕ) (left : List Record) : Type 0 where
  pub breaks : a < j → epoch_break rec opened a j ≡ None
  pub records : a < j → left ≡ epoch_records rec opened tracers a j
  pub none : a ≡ j → left ≡ []

pub starts : (rec : Recording) (opened : State) (tracers : Tracers) (a : ℕ) → IsSoFar rec opened tracers a a []
starts rec opened tracers a = record { breaks = λ below. absurd (omega arith); records = λ below. absurd (omega arith); none = λ same. refl }

module _ (rec : Recording) (opened : State) (tracers : Tracers) (a j : ℕ) (left : List Record) (is : IsRecordingValue rec) (opens : IsOpening opened) (from : a ≤ j) (so_far : IsSoFar rec opened tracers a j left) where
  -- with one more segment
  next_break : j < end_place rec → epoch_break rec opened a (j + 1) ≡ epoch_break rec opened j (j + 1)
  next_break within = ⊎_elim
      (λ (same : a ≡ j). ap (λ n. epoch_break rec opened n (j + 1)) same)
      (λ (apart : a ≡ j → ⊥).
      breaks_join rec opened a j (j + 1) is opens (record { below = omega arith; above = omega arith; within = omega arith })
      ∙ ap (λ first. option_or first (epoch_break rec opened j (j + 1))) (so_far.breaks (omega arith)))
      (cases_eq a j)

  next_records : j < end_place rec → epoch_records rec opened tracers a (j + 1) ≡ left ++ epoch_records rec opened tracers j (j + 1)
  next_records within = ⊎_elim
      (λ (same : a ≡ j).
      ap (λ n. epoch_records rec opened tracers n (j + 1)) same
      ∙ sym (ap (λ (r : List Record). r ++ epoch_records rec opened tracers j (j + 1)) (so_far.none same)))
      (λ (apart : a ≡ j → ⊥).
      records_join rec opened tracers a j (j + 1) is opens (record { below = omega arith; above = omega arith; within = omega arith }) (so_far.breaks (omega arith))
      ∙ sym (ap (λ (r : List Record). r ++ epoch_records rec opened tracers j (j + 1)) (so_far.records (omega arith))))
      (cases_eq a j)

  pub goes_further : (more : List Record) → j < end_place rec → epoch_break rec opened j (j + 1) ≡ None → more ≡ left ++ epoch_records rec opened tracers j (j + 1) → IsSoFar rec opened tracers a (j + 1) more
  goes_further more within none added = record {
    breaks = λ below. next_break within ∙ none;
    records = λ below. added ∙ sym (next_records within);
    none = λ same. absurd (omega arith);
  }

  -- the break of a segment is that of the epoch
  pub breaks_there : (b : ℕ) (broken : Break) → j < b → b ≤ end_place rec → Some broken ≡ epoch_break rec opened j (j + 1) → epoch_break rec opened a b ≡ Some broken
  breaks_there b broken below within breaks =
      let there : epoch_break rec opened a (j + 1) ≡ Some broken = next_break (omega arith) ∙ sym breaks in
      ⊎_elim
      (λ (same : j + 1 ≡ b). sym (ap (epoch_break rec opened a) same) ∙ there)
      (λ (apart : j + 1 ≡ b → ⊥).
      breaks_join rec opened a (j + 1) b is opens (record { below = omega arith; above = omega arith; within = within })
      ∙ ap (λ first. option_or first (epoch_break rec opened (j + 1) b)) there)
      (cases_eq (j + 1) b)

  -- and so is a refusal of a segment one of the epoch
  pub stops_there : (b : ℕ) (stop : Refused Break) → j < b → b ≤ end_place rec → StopsAt stop (epoch_break rec opened j (j + 1)) → Fails stop (epoch_value rec opened tracers a b)
  stops_there b refused.Memory below within stops = tt
  stops_there b (refused.Fault broken) below within stops =
      ap (value_of (epoch_records rec opened tracers a b)) (breaks_there b broken below within (sym stops))

-- ---- steps

pub more_steps : (rec : Recording) (a j first old new : ℕ) → IsRecordingValue rec → j < end_place rec → old + recorded_count rec a ≤ first + recorded_count rec j → new ≤ old + (recorded_count rec (j + 1) - recorded_count rec j)
    → new + recorded_count rec a ≤ first + recorded_count rec (j + 1)
more_steps rec a j first old new is within steps more =
    let up = counts_up rec j (j + 1) is (omega arith) (omega arith) in
    omega arith

pub within_size : (rec : Recording) (a j b first new : ℕ) → IsRecordingValue rec → j ≤ b → b ≤ end_place rec → new + recorded_count rec a ≤ first + recorded_count rec j → new ≤ first + (recorded_count rec b - recorded_count rec a)
within_size rec a j b first new is below within steps =
    let up = counts_up rec j b is below within in
    omega arith
