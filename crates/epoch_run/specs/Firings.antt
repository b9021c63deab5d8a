-- Where tracers fire at the recorded end.
use Rattle.std.specs.Prelude.{◌≡◌, ⊤}
use Rattle.sl_model.specs.declared.run_state.RunState.{RunState}
use Rattle.sl_model.specs.declared.run_state.RunState.TheVariants.{Running}
use Rattle.call_log.specs.declared.entry.End.{End}
use Rattle.call_log.specs.declared.entry.End.TheVariants as end

-- a program that ends with a trap runs up to it
abbrev pub RunsAtEnd : End → RunState → Type 0
RunsAtEnd (end.Trapped number) status = status ≡ Running
RunsAtEnd (end.Exited code) status = ⊤
RunsAtEnd end.Stopped status = ⊤
