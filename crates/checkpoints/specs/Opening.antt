-- What a program before its first instruction keeps has one proof at most, so that a type can
-- keep it.
use Rattle.std.proofs.Props.{props}
use mathlib.Core.HLevel.{Unit-prop}
use Rattle.sl_model.specs.declared.run_state.RunState.{RunState}
use Rattle.sl_model.specs.declared.run_state.RunState.TheVariants.{Running, Exited}
use Rattle.sl_model.specs.State.{State, IsStatus, IsOpening}

pub IsStatus-prop : (status : RunState) → IsProp (IsStatus status)
IsStatus-prop Running = Unit-prop
IsStatus-prop (Exited code) = Prim.hlevel props

ruleset opening_props = (props, IsStatus-prop)

pub IsOpening-prop : (s : State) → IsProp (IsOpening s)
IsOpening-prop s = Prim.hlevel opening_props
