-- What code of tracers is worth: that it harms nothing, and that it does what its script says.
use Rattle.std.specs.Prelude.{◌≡◌, ℕ, ◌<◌, ◌≤◌, length, slice_index, slice_index_or}
use Rattle.sl_model.specs.Bank.{IsBankMemory, bank_start, output_of}
use Rattle.sl_model.specs.Pages.{Pages}
use Rattle.sl_model.specs.Runs.{steps}
use Rattle.sl_model.specs.State.{State}
use Rattle.sl_model.specs.Undo.{log_count}
use Rattle.tracer_lang.specs.declared.record.TracerEnd.{TracerEnd}
use Rattle.tracer_lang.specs.Meaning.{Now, meaning, no_tracepoint}
use Rattle.tracer_lang.specs.Tree.{ScriptTree}
use Rattle.tracer_code.specs.declared.code.TracerCode.{TracerCode}
use Rattle.tracer_code.specs.Outcomes.{TellsEnd}
use Rattle.tracer_code.specs.Runs.{IsObserved, RunsTo}

-- where the tracer of a tracepoint starts, at a state and with such a memory
abbrev pub start_of : TracerCode → ℕ → Pages → State → State
start_of code point pages s = bank_start (slice_index code.places point) pages s

-- a run from a start ends within the code's bound, and is contained
pub record RunsWell (code : TracerCode) (s start : State) : Type 0 where
  pub count : ℕ
  pub bound : count ≤ code.most
  pub run : RunsTo code.words s start count

-- Code is sound: wherever one of its tracers fires, its run ends within the bound and is contained.
abbrev pub IsSound : TracerCode → Type 0
IsSound code =
    (point : ℕ) → point < length code.places → (s : State) → IsObserved s
    → (pages : Pages) → IsBankMemory code.words s pages
    → RunsWell code s (start_of code point pages s)

-- an end tells this outcome, has emitted these words, and logged as many stores as were done
pub record Leaves (end : State) (m : TracerEnd × Now) : Type 0 where
  pub outcome : TellsEnd end m.0
  pub words : output_of end.pages ≡ m.1.words
  pub stores : log_count end.pages ≡ m.1.stores

-- such a run leaves what a tracer means
pub record RunsAs (code : TracerCode) (s start : State) (m : TracerEnd × Now) : Type 0 where
  pub well : RunsWell code s start
  pub leaves : Leaves (steps well.count start) m

-- Code stands for a script: it has a place for each tracepoint, and wherever a tracepoint fires the
-- run from there leaves what its tracer means on a copy.
pub record StandsFor (code : TracerCode) (script : ScriptTree) : Type 0 where
  pub places : length code.places ≡ length script.tracepoints
  pub means : (point : ℕ) → point < length script.tracepoints → (s : State) → IsObserved s
      → (pages : Pages) → IsBankMemory code.words s pages
      → RunsAs code s (start_of code point pages s)
      (meaning script (slice_index_or script.tracepoints point no_tracepoint) s)
