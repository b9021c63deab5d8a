-- Why the epochs of a cutting are the one run.
use Rattle.std.specs.Prelude.{◌≡◌, ℕ, ◌+◌, ◌-◌, ◌<◌, ◌≤◌, ◌↔◌, List, length, Option, Some, None, Result, Ok, Err, slice_index, ◌∷◌, ◌++◌}
use Rattle.std.specs.Option.{option_or}
use Rattle.std.specs.List.{flat_map, range_with_len}
use Rattle.sl_model.specs.State.{State}
use Rattle.call_log.specs.declared.breaks.Break.{Break}
use Rattle.rec_format.specs.declared.recording.Recording.{Recording}
use Rattle.tracer_lang.specs.declared.record.Record.{Record}
use Rattle.replay.specs.Run.{run_from}
use Rattle.replay.specs.Breaks.{first_break}
use Rattle.rec_format.specs.Recorded.{end_place, recorded_state, recorded_count}
use Rattle.epoch_run.specs.Records.{Tracers, records}
use Rattle.epoch_run.specs.Epochs.{epoch_size, epoch_break, epoch_records, epoch_value}

-- ---- an epoch from a to c that is cut in two at b

-- it breaks where its first part does, and else where its second part does
abbrev pub BreaksJoin : Recording → State → Type 0
BreaksJoin rec opened =
    (a b c : ℕ) → a < b → b < c → c ≤ end_place rec
    → epoch_break rec opened a c
    ≡ option_or (epoch_break rec opened a b) (epoch_break rec opened b c)

-- where the first part does not break, its records come before those of the second
abbrev pub RecordsJoin : Recording → State → Tracers → Type 0
RecordsJoin rec opened tracers =
    (a b c : ℕ) → a < b → b < c → c ≤ end_place rec → epoch_break rec opened a b ≡ None
    → epoch_records rec opened tracers a c
    ≡ epoch_records rec opened tracers a b ++ epoch_records rec opened tracers b c

-- where the first part does not break, it comes to the state that b records
abbrev pub StatesJoin : Recording → State → Type 0
StatesJoin rec opened =
    (a b : ℕ) → a < b → b < end_place rec → epoch_break rec opened a b ≡ None
    → run_from rec (recorded_state rec opened a) (epoch_size rec a b)
    ≡ Some (recorded_state rec opened b)

-- ---- the epochs of a cutting, from each place to the next

-- how many they are
abbrev pub epochs_of : List ℕ → ℕ
epochs_of places = length places - 1

-- the first break of epoch k
abbrev pub break_of : Recording → State → List ℕ → ℕ → Option Break
break_of rec opened places k =
    epoch_break rec opened (slice_index places k) (slice_index places (k + 1))

-- its records
abbrev pub records_of : Recording → State → Tracers → List ℕ → ℕ → List Record
records_of rec opened tracers places k =
    epoch_records rec opened tracers (slice_index places k) (slice_index places (k + 1))

-- none of the first n epochs breaks
abbrev pub NoneBreaks : Recording → State → List ℕ → ℕ → Type 0
NoneBreaks rec opened places n = (k : ℕ) → k < n → break_of rec opened places k ≡ None

-- ---- one run

-- where no epoch before it breaks, an epoch starts at the state of the run
abbrev pub StartsOnTheRun : Recording → State → List ℕ → Type 0
StartsOnTheRun rec opened places =
    (k : ℕ) → k < epochs_of places → NoneBreaks rec opened places k
    → run_from rec opened (recorded_count rec (slice_index places k))
    ≡ Some (recorded_state rec opened (slice_index places k))

-- the least epoch with a break has the first break
abbrev pub LeastBreakIsFirst : Recording → State → List ℕ → Type 0
LeastBreakIsFirst rec opened places =
    (k : ℕ) (broken : Break) → k < epochs_of places → NoneBreaks rec opened places k
    → break_of rec opened places k ≡ Some broken → first_break rec opened ≡ Some broken

-- no epoch breaks exactly where the run does not
abbrev pub BreaksWithTheRun : Recording → State → List ℕ → Type 0
BreaksWithTheRun rec opened places =
    NoneBreaks rec opened places (epochs_of places) ↔ (first_break rec opened ≡ None)

-- where none breaks, the records of the epochs in order are those of the run
abbrev pub RecordsOfTheRun : Recording → State → Tracers → List ℕ → Type 0
RecordsOfTheRun rec opened tracers places =
    NoneBreaks rec opened places (epochs_of places)
    → flat_map (records_of rec opened tracers places) (range_with_len 0 (epochs_of places))
    ≡ records rec tracers opened

-- ---- the same by the values of the epochs

-- the value of epoch k
abbrev pub value_at : Recording → State → Tracers → List ℕ → ℕ → Result (List Record) Break
value_at rec opened tracers places k =
    epoch_value rec opened tracers (slice_index places k) (slice_index places (k + 1))

-- each of the first n epochs ran, and left the records of this list
abbrev pub AllRan : Recording → State → Tracers → List ℕ → (ℕ → List Record) → ℕ → Type 0
AllRan rec opened tracers places left n =
    (k : ℕ) → k < n → value_at rec opened tracers places k ≡ Ok (left k)

-- where all before it ran, an epoch that broke has the first break of the run
abbrev pub FirstBrokeIsFirst : Recording → State → Tracers → List ℕ → Type 0
FirstBrokeIsFirst rec opened tracers places =
    (left : ℕ → List Record) (k : ℕ) (broken : Break)
    → k < epochs_of places → AllRan rec opened tracers places left k
    → value_at rec opened tracers places k ≡ Err broken → first_break rec opened ≡ Some broken

-- where all ran, the run does not break, and what they left in order is what the run leaves
abbrev pub AllRanAreTheRun : Recording → State → Tracers → List ℕ → Type 0
AllRanAreTheRun rec opened tracers places =
    (left : ℕ → List Record) → AllRan rec opened tracers places left (epochs_of places)
    → (first_break rec opened ≡ None)
    × (flat_map left (range_with_len 0 (epochs_of places)) ≡ records rec tracers opened)

-- ---- the end of the run

-- a state has the count, the program counter and the registers of the end's checkpoint
pub record IsAtEnd (rec : Recording) (last : State) : Type 0 where
  pub count : last.count ≡ rec.last.count
  pub pc : last.pc ≡ rec.last.pc
  pub x : last.x ≡ 0 ∷ rec.last.x

-- a run that does not break comes to the recorded end
abbrev pub ComesToTheEnd : Recording → State → Type 0
ComesToTheEnd rec opened =
    first_break rec opened ≡ None
    → (last : State) × (run_from rec opened rec.last.count ≡ Some last) × IsAtEnd rec last
