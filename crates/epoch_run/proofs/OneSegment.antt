-- A segment that starts at the recorded state of its first checkpoint.
use Rattle.std.proofs.Common.{◌≡◌, ℕ, ◌+◌, ◌-◌, ◌<◌, ◌≤◌, List, ◌++◌, Some, None, refl, sym, ap, subst, ◌∙◌, arith}
use Rattle.std.specs.Option.{option_or}
use Rattle.sl_base.specs.declared.refused.Refused.{Refused}
use Rattle.sl_base.specs.declared.refused.Refused.TheVariants as refused
use Rattle.sl_model.specs.State.{State}
use Rattle.call_log.specs.declared.breaks.Break.{Break}
use Rattle.tracer_lang.specs.declared.record.Record.{Record}
use Rattle.rec_format.specs.Rules.{IsRecordingValue}
use Rattle.rec_format.specs.declared.recording.Recording.{Recording}
use Rattle.replay.specs.Run.{run_from}
use Rattle.replay.specs.Breaks.{at_count}
use Rattle.rec_format.specs.Recorded.{end_place, checkpoint_at, recorded_state, recorded_count}
use Rattle.rec_format.specs.Compared.{checkpoint_break}
use Rattle.epoch_run.specs.Records.{Tracers}
use Rattle.epoch_run.specs.Epochs.{epoch_size, epoch_break_from, epoch_break, epoch_records_from, epoch_records, closing_break, closing_records}
use Rattle.sl_model.specs.State.{Fits, IsOpening}
use Rattle.checkpoints.specs.RecordedRun.{opened_of}
use Rattle.epoch_run.specs.declared.plan.Plan.{Plan}
use Rattle.epoch_run.specs.declared.worker.Worker.{Worker}
use Rattle.epoch_run.specs.Plans.{state_in}
use Rattle.epoch_run.specs.Segments.{IsUnderWay, BrokeOff, StopsAt}
use Rattle.rec_format.proofs.RecordedStates.{count-recorded, Fits-recorded}
use Rattle.epoch_run.proofs.Arrived.{run-zero}
use Rattle.epoch_run.proofs.OneRun.{run_joins}
use Rattle.epoch_run.proofs.SoFar.{counts_up}

-- the interval from checkpoint j to the next one, at its first state
pub record IsSegment (rec : Recording) (opened : State) (j : ℕ) (s : State) (upto : ℕ) : Type 0 where
  pub value : IsRecordingValue rec
  pub opens : IsOpening opened
  pub within : j < end_place rec
  pub at : s ≡ recorded_state rec opened j
  pub last : upto ≡ recorded_count rec (j + 1)

-- the interval that a worker stands at
pub of_plan : (plan : Plan) (j : ℕ) (worker : Worker) (upto : ℕ) → j < end_place plan.checkpoints.rec → state_in worker ≡ recorded_state plan.checkpoints.rec (opened_of plan.checkpoints) j → upto ≡ recorded_count plan.checkpoints.rec (j + 1)
    → IsSegment plan.checkpoints.rec (opened_of plan.checkpoints) j (state_in worker) upto
of_plan plan j worker upto within at last = record { value = plan.checkpoints.is_value; opens = plan.checkpoints.opens; within = within; at = at; last = last }

module _ (rec : Recording) (opened : State) (j : ℕ) (s : State) (upto : ℕ) (is : IsSegment rec opened j s upto) where
  start : s.count ≡ recorded_count rec j
  start = ap (λ (t : State). t.count) is.at ∙ count-recorded rec opened j is.opens

  total : upto - s.count ≡ epoch_size rec j (j + 1)
  total = omega (arith, start, is.last)

  pub starts_fitting : Fits s
  starts_fitting = subst Fits (sym is.at) (Fits-recorded rec opened j is.value is.opens)

  pub starts_below : s.count ≤ upto
  starts_below =
      let up = counts_up rec j (j + 1) is.value (omega arith) (omega (arith, is.within)) in
      omega (arith, start, is.last)

  pub segment_steps : (old new : ℕ) → new + s.count ≤ old + upto → new ≤ old + epoch_size rec j (j + 1)
  segment_steps old new steps = omega (arith, start, is.last)

  break_is : epoch_break_from opened.pages rec j (j + 1) s (upto - s.count) ≡ epoch_break rec opened j (j + 1)
  break_is =
      ap (epoch_break_from opened.pages rec j (j + 1) s) total
      ∙ ap (λ t. epoch_break_from opened.pages rec j (j + 1) t (epoch_size rec j (j + 1))) is.at

  -- where it breaks before its end
  pub segment_stops : (stop : Refused Break) → BrokeOff rec s (upto - s.count) stop → StopsAt stop (epoch_break rec opened j (j + 1))
  segment_stops refused.Memory breaks = tt
  segment_stops (refused.Fault broken) breaks = sym (sym (breaks opened.pages j (j + 1) refl) ∙ break_is)

  -- where it comes to its end
  module _ (tracers : Tracers) (t : State) (old new : List Record) (way : IsUnderWay rec tracers s (upto - s.count) t 0 old new) where
    pub segment_closes : at_count t (option_or (checkpoint_break opened.pages rec (j + 1) (checkpoint_at rec (j + 1)) t) (closing_break rec (j + 1) t)) ≡ epoch_break rec opened j (j + 1)
    unfolding epoch_break_from
    segment_closes = sym (way.breaks opened.pages j (j + 1) refl) ∙ break_is

    pub segment_records : (all : List Record) → all ≡ new ++ closing_records rec tracers (j + 1) t → all ≡ old ++ epoch_records rec opened tracers j (j + 1)
    unfolding epoch_records_from
    segment_records all added =
        added ∙ sym (way.records (j + 1))
        ∙ ap (λ n. old ++ epoch_records_from rec tracers (j + 1) s n) total
        ∙ ap (λ u. old ++ epoch_records_from rec tracers (j + 1) u (epoch_size rec j (j + 1))) is.at

    pub segment_state : j + 1 < end_place rec → epoch_break rec opened j (j + 1) ≡ None → t ≡ recorded_state rec opened (j + 1)
    segment_state inner none =
        let came : run_from rec (recorded_state rec opened j) (epoch_size rec j (j + 1)) ≡ Some t =
        sym (ap (run_from rec s) total ∙ ap (λ u. run_from rec u (epoch_size rec j (j + 1))) is.at) ∙ way.run ∙ run-zero rec t in
        let due : run_from rec (recorded_state rec opened j) (epoch_size rec j (j + 1)) ≡ Some (recorded_state rec opened (j + 1)) =
        run_joins rec opened j (j + 1) (end_place rec) is.value is.opens (record { below = omega arith; above = inner; within = omega arith }) none in
        let same : Some t ≡ Some (recorded_state rec opened (j + 1)) = sym came ∙ due in
        cc
