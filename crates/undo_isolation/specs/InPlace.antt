-- What a tracer that ran in place leaves.
use Rattle.std.specs.Prelude.{◌≡◌, ℕ, slice_index_or}
use Rattle.sl_model.specs.Bank.{IsBankMemory, output_of}
use Rattle.sl_model.specs.Pages.{Pages}
use Rattle.sl_model.specs.Runs.{steps, EndsAfter}
use Rattle.sl_model.specs.State.{State}
use Rattle.sl_model.specs.Undo.{log_count}
use Rattle.tracer_lang.specs.declared.record.Record.{Record}
use Rattle.tracer_lang.specs.Meaning.{meaning, record_of, no_tracepoint}
use Rattle.tracer_lang.specs.Tree.{ScriptTree}
use Rattle.tracer_code.specs.declared.code.TracerCode.{TracerCode}
use Rattle.tracer_code.specs.Outcomes.{TellsEnd}
use Rattle.tracer_code.specs.Sound.{start_of}

-- The record has the count and pc of a state, the number of a tracepoint, and the words and the
-- outcome of an end.
pub record Tells (s : State) (point : ℕ) (end : State) (told : Record) : Type 0 where
  pub count : told.count ≡ s.count
  pub number : told.point ≡ point
  pub pc : told.pc ≡ s.pc
  pub words : told.words ≡ output_of end.pages
  pub outcome : TellsEnd end told.outcome

-- The tracer of a tracepoint ran at a state, in the memory of the state and a started bank, to the
-- end of its run, which came after so many steps. The record tells that end, and the log had so
-- many entries there.
pub record RanAt (code : TracerCode) (point : ℕ) (s : State)
    (told : Record) (entries count : ℕ) : Type 0 where
  pub memory : Pages
  pub bank : IsBankMemory code.words s memory
  pub ends : EndsAfter count (start_of code point memory s)
  pub tells : Tells s point (steps count (start_of code point memory s)) told
  pub logged : entries ≡ log_count (steps count (start_of code point memory s)).pages

-- The record is that of a script's tracepoint on a private copy of the state, and the entries are
-- as many as the stores there.
pub record IsMeant (script : ScriptTree) (point : ℕ) (s : State)
    (told : Record) (entries : ℕ) : Type 0 where
  pub record_is : told ≡ record_of script point s
  pub stores : entries
      ≡ (meaning script (slice_index_or script.tracepoints point no_tracepoint) s).1.stores
