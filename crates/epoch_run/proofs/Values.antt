-- The values of epochs, as what they leave or their break.
use Rattle.std.specs.List.{flat_map, range_with_len}
use Rattle.std.proofs.Common.{◌≡◌, ℕ, zero, suc, ◌+◌, ◌<◌, ◌≤◌, List, ◌++◌, Option, Some, None, Ok, Err, refl, ap₂, ◌∙◌, arith}
use Rattle.sl_model.specs.State.{State}
use Rattle.call_log.specs.declared.breaks.Break.{Break}
use Rattle.tracer_lang.specs.declared.record.Record.{Record}
use Rattle.rec_format.specs.Rules.{IsRecordingValue}
use Rattle.rec_format.specs.declared.recording.Recording.{Recording}
use Rattle.rec_format.specs.Recorded.{end_place}
use Rattle.epoch_run.specs.Records.{Tracers}
use Rattle.epoch_run.specs.Epochs.{value_of}
use Rattle.epoch_run.specs.EpochLaws.{epochs_of, break_of, records_of, NoneBreaks, AllRan, FirstBrokeIsFirst, AllRanAreTheRun}
use Rattle.sl_model.specs.State.{IsOpening}
use Rattle.epoch_run.proofs.OneRun.{Are, least_break, breaks_with_run, records_of_run}

-- ---- a value, read back

ran_none : (records left : List Record) (broken : Option Break) → value_of records broken ≡ Ok left → broken ≡ None
ran_none records left None is = refl
ran_none records left (Some broken) is = absurd cc

ran_left : (records left : List Record) (broken : Option Break) → value_of records broken ≡ Ok left → left ≡ records
ran_left records left None is = cc
ran_left records left (Some broken) is = absurd cc

broke_some : (records : List Record) (broken : Option Break) (it : Break) → value_of records broken ≡ Err it → broken ≡ Some it
broke_some records None it is = absurd cc
broke_some records (Some broken) it is = cc

-- ---- the epochs of a cutting

none_breaks : (rec : Recording) (opened : State) (tracers : Tracers) (places : List ℕ) (left : ℕ → List Record) (n : ℕ) → AllRan rec opened tracers places left n → NoneBreaks rec opened places n
none_breaks rec opened tracers places left n ran k below = ran_none (records_of rec opened tracers places k) (left k) (break_of rec opened places k) (ran k below)

same_flat_map : (f g : ℕ → List Record) (a n : ℕ) → ((k : ℕ) → a ≤ k → k < a + n → f k ≡ g k) → flat_map f (range_with_len a n) ≡ flat_map g (range_with_len a n)
same_flat_map f g a zero same = refl
same_flat_map f g a (suc n) same =
    ap₂ (λ (first rest : List Record). first ++ rest) (same a (omega arith) (omega arith)) (same_flat_map f g (a + 1) n (λ k from below. same k (omega arith) (omega arith)))

pub first_broke : (rec : Recording) (opened : State) (tracers : Tracers) (places : List ℕ) → IsRecordingValue rec → IsOpening opened → Are (end_place rec) places → FirstBrokeIsFirst rec opened tracers places
first_broke rec opened tracers places is opens cut left k broken within ran breaks =
    least_break rec opened places is opens cut k broken within (none_breaks rec opened tracers places left k ran) (broke_some (records_of rec opened tracers places k) (break_of rec opened places k) broken breaks)

pub all_ran : (rec : Recording) (opened : State) (tracers : Tracers) (places : List ℕ) → IsRecordingValue rec → IsOpening opened → Are (end_place rec) places → AllRanAreTheRun rec opened tracers places
all_ran rec opened tracers places is opens cut left ran =
    let none : NoneBreaks rec opened places (epochs_of places) = none_breaks rec opened tracers places left (epochs_of places) ran in (
      (breaks_with_run rec opened places is opens cut).0 none,
      same_flat_map left (records_of rec opened tracers places) 0 (epochs_of places) (λ k from below. ran_left (records_of rec opened tracers places k) (left k) (break_of rec opened places k) (ran k (omega arith)))
          ∙ records_of_run rec opened places is opens cut tracers none,
    )
