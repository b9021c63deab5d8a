-- What a worker's bank tells of the last tracer that fired: its log had as many entries as the
-- tracer stores on a copy of the machine.
use Rattle.std.specs.Prelude.{◌≡◌, ℕ, ⊤, ◌⊎◌, List, [], ◌∷◌, ◌++◌, Some, slice_index, slice_index_or}
use Rattle.sl_model.specs.State.{State}
use Rattle.rec_format.specs.declared.recording.Recording.{Recording}
use Rattle.rec_format.specs.Recorded.{recorded_state}
use Rattle.tracer_lang.specs.declared.record.Record.{Record}
use Rattle.tracer_lang.specs.Meaning.{meaning, record_of, no_tracepoint}
use Rattle.tracer_lang.specs.Script.{tree_of}
use Rattle.tracer_lang.specs.Tree.{ScriptTree}
use Rattle.replay.specs.Run.{run_from}
use Rattle.checkpoints.specs.RecordedRun.{opened_of}
use Rattle.epoch_core.specs.declared.post.PostValue.{PostValue}
use Rattle.epoch_core.specs.declared.post.PostValue.TheVariants.{Ran, Broke, Skipped}
use Rattle.epoch_run.specs.declared.plan.Plan.{Plan}
use Rattle.epoch_run.specs.declared.worker.Worker.{Worker}
use Rattle.epoch_run.specs.Plans.{state_in}

-- how many stores the tracer of a tracepoint does on a copy of a state
abbrev pub stores_of : ScriptTree → ℕ → State → ℕ
stores_of script point s =
    (meaning script (slice_index_or script.tracepoints point no_tracepoint) s).1.stores

-- the last of some records is that of a tracepoint at a state, and the log had so many entries
pub record IsLastAt (script : ScriptTree) (s : State) (left : List Record) (entries : ℕ)
    : Type 0 where
  pub before : List Record
  pub point : ℕ
  pub record_is : left ≡ before ++ record_of script point s ∷ []
  pub logged : entries ≡ stores_of script point s

-- tracers fired at a state and left records behind those before, or none did
pub record StaysSo (old new : List Record) (entries entries' : ℕ) : Type 0 where
  pub records : new ≡ old
  pub logged : entries' ≡ entries

abbrev pub FiredAt : ScriptTree → State → List Record → List Record → ℕ → ℕ → Type 0
FiredAt script s old new entries entries' =
    StaysSo old new entries entries' ⊎ IsLastAt script s new entries'

-- a state comes on the run from another one
pub record IsOnRun (rec : Recording) (first s : State) : Type 0 where
  pub steps : ℕ
  pub comes : run_from rec first steps ≡ Some s

-- the last of the records of a run was left at a state of it
pub record IsLastOf (rec : Recording) (script : ScriptTree) (first : State) (left : List Record)
    (entries : ℕ) : Type 0 where
  pub state : State
  pub on_run : IsOnRun rec first state
  pub last : IsLastAt script state left entries

-- where a run from a state has left records, the log is that of the last of them
abbrev pub TellsLast : Recording → ScriptTree → State → List Record → ℕ → Type 0
TellsLast rec script first left entries =
    (left ≡ [] → ⊥) → IsLastOf rec script first left entries

-- a part of a run came to a state, and the log is that of the last record so far
pub record IsLogged (rec : Recording) (script : ScriptTree) (first s : State)
    (left : List Record) (entries : ℕ) : Type 0 where
  pub on_run : IsOnRun rec first s
  pub last : TellsLast rec script first left entries

-- ---- the same of a worker that runs a plan

abbrev pub FiredIn : Plan → Worker → Worker → List Record → List Record → Type 0
FiredIn plan old new left left' =
    FiredAt (tree_of plan.tracers.script) (state_in old) left left'
    old.bank.last_log_len new.bank.last_log_len

abbrev pub IsLoggedIn : Plan → State → Worker → List Record → Type 0
IsLoggedIn plan first worker left =
    IsLogged plan.checkpoints.rec (tree_of plan.tracers.script) first (state_in worker) left
    worker.bank.last_log_len

abbrev pub TellsLastIn : Plan → State → List Record → ℕ → Type 0
TellsLastIn plan = TellsLast plan.checkpoints.rec (tree_of plan.tracers.script)

-- the recorded state of a plan's checkpoint
abbrev pub recorded_in : Plan → ℕ → State
recorded_in plan = recorded_state plan.checkpoints.rec (opened_of plan.checkpoints)

-- the log after an epoch of a plan, where it ran
abbrev pub LogAfter : Plan → ℕ → PostValue → ℕ → Type 0
LogAfter plan k (Ran records parts) entries =
    TellsLastIn plan (recorded_in plan (slice_index plan.cutting k)) records entries
LogAfter plan k (Broke broken) entries = ⊤
LogAfter plan k (Skipped below) entries = ⊤
