-- How the code's progress stands for that of the definition.
use Rattle.std.specs.Prelude.{◌≡◌, ℕ, ◌≤◌, List, length, ⊤}
use Rattle.std.specs.FinMap.{empty}
use Rattle.sl_model.specs.State.{State}
use Rattle.rv_machine.specs.Machine.{state_of}
use Rattle.rv_machine.specs.declared.machine.Machine.{Machine}
use Rattle.tracer_lang.specs.Limits.{parameter_counts}
use Rattle.tracer_lang.specs.Script.{tree_of}
use Rattle.tracer_lang.specs.Meaning.{Now, Outcome, Enter, entering, Returned as returned, Ended as ended}
use Rattle.tracer_mean.specs.declared.tracer.Tracer.{Tracer}
use Rattle.tracer_mean.specs.declared.progress.Progress.{Progress}
use Rattle.tracer_mean.specs.declared.progress.Halt.{Halt}
use Rattle.tracer_mean.specs.declared.progress.Halt.TheVariants.{Returned, Ended, Memory}

abbrev pub now_of : Progress → Now
now_of p = record {
  pages = p.memory.pages;
  words = p.words;
  stores = p.stores;
  units = p.units;
  brk = p.brk;
  locals = p.locals.items;
}

-- a machine as a tracer sees it
abbrev pub at_machine : Machine → State
at_machine m = state_of m empty

-- an evaluation goes no further; where memory could not be had, nothing is said
abbrev pub HaltsAt : Outcome → Halt → Now → Type 0
HaltsAt outcome (Returned value) now = outcome ≡ returned value now
HaltsAt outcome (Ended end) now = outcome ≡ ended end now
HaltsAt outcome Memory now = ⊤

-- a body keeps as many locals, and units are never won
pub record KeepsBody (before after : Progress) : Type 0 where
  pub locals : length after.locals.items ≡ length before.locals.items
  pub units : after.units ≤ before.units

-- how many parameters each function of a tracer's script has
abbrev pub counts_of : Tracer → List ℕ
counts_of t = parameter_counts (tree_of t.script.now)

-- what its calls mean, where so many further ones may be open
abbrev pub enter_at : Tracer → ℕ → Enter
enter_at t left = entering (at_machine t.machine.now) (tree_of t.script.now).functions left
