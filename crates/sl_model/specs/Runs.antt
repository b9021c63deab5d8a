-- A run of the machine alone, as the words of a tracer are run: step by step, to its end.
use Rattle.std.specs.Prelude.{ℕ, zero, suc, ◌<◌, ◌==◌, ◌||◌, Bool, true, false, IsTrue, IsFalse}
use Rattle.sl_model.specs.declared.traps.TheConstants.{LOAD_FAULT, STORE_FAULT}
use Rattle.sl_model.specs.State.{State}
use Rattle.sl_model.specs.Step.{Next, Stepped, Called, Trapped, step}

-- where the machine stands after what came next: it stays at a call and at a trap
abbrev pub next_state : State → Next → State
next_state s (Stepped state) = state
next_state s Called = s
next_state s (Trapped number) = s

-- the state after so many steps
unfoldable pub steps : ℕ → State → State
steps zero s = s
steps (suc n) s = steps n (next_state s (step s))

-- A run ends at a call and at a load or a store of bytes that are not mapped.
abbrev pub ends_at : Next → Bool
ends_at (Stepped state) = false
ends_at Called = true
ends_at (Trapped number) = number == LOAD_FAULT || number == STORE_FAULT

abbrev pub is_end : State → Bool
is_end s = ends_at (step s)

-- the run ends after exactly so many steps, at the first state at which it can end
pub record EndsAfter (count : ℕ) (s : State) : Type 0 where
  pub end : IsTrue (is_end (steps count s))
  pub first : (k : ℕ) → k < count → IsFalse (is_end (steps k s))
