-- The store that stands at pc.
use Rattle.std.specs.Prelude.{ℕ, ◌%◌, ◌==◌, Option, Some, None, if◌then◌else◌}
use Rattle.std.specs.Option.{option_and_then}
use Rattle.sl_model.specs.declared.instr.Instr.{Instr}
use Rattle.sl_model.specs.declared.instr.Instr.TheVariants.{Store}
use Rattle.sl_model.specs.Pages.{load_at}
use Rattle.sl_model.specs.Words.{meaning}
use Rattle.sl_model.specs.Arithmetic.{store_width}
use Rattle.sl_model.specs.State.{State}
use Rattle.sl_model.specs.Step.{address}

-- the address and the width of an instruction that is a store
abbrev pub store_by : State → Option Instr → Option (ℕ × ℕ)
store_by s (Some (Store op rs1 rs2 offset)) = Some (address s rs1 offset, store_width op)
store_by s instr = None

-- the same of the instruction at pc: None where pc is no multiple of 4, a byte there is not mapped,
-- or the word there is no store
unfoldable pub next_store : State → Option (ℕ × ℕ)
next_store s =
    if s.pc % 4 == 0
    then option_and_then (λ word. store_by s (meaning word)) (load_at s.pages s.pc 4)
    else None
