-- A tracer at the end of its run.
use Rattle.std.specs.Prelude.{ℕ, ◌≤◌}
use Rattle.sl_model.specs.Bank.{IsBankMemory}
use Rattle.sl_model.specs.Pages.{Pages}
use Rattle.sl_model.specs.Runs.{EndsAfter}
use Rattle.sl_model.specs.State.{State}
use Rattle.tracer_lang.specs.declared.record.TracerEnd.{TracerEnd}
use Rattle.tracer_code.specs.declared.code.TracerCode.{TracerCode}
use Rattle.tracer_code.specs.Outcomes.{TellsEnd}
use Rattle.tracer_code.specs.Runs.{IsContained}
use Rattle.tracer_code.specs.Sound.{start_of}
use Rattle.undo_isolation.specs.Run.{CameTo}

-- The tracer of a tracepoint has come to the end of its run, from its start beside a state: the log
-- put back gives the state's memory, and an outcome is told.
pub record HasEnded (code : TracerCode) (point : ℕ) (s end : State)
    (before after : ℕ) : Type 0 where
  pub memory : Pages
  pub bank : IsBankMemory code.words s memory
  pub count : ℕ
  pub few : count ≤ code.most
  pub ends : EndsAfter count (start_of code point memory s)
  pub came : CameTo count (start_of code point memory s) end before after
  pub contained : IsContained code.words s end.pages
  pub outcome : (told : TracerEnd) × TellsEnd end told
