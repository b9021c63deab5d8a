-- One step of the machine.
use Rattle.std.specs.Prelude.{ℕ, ◌+◌, ◌-◌, ◌%◌, ◌==◌, Option, Some, None, if◌then◌else◌}
use Rattle.sl_model.specs.declared.instr.LoadOp.{LoadOp}
use Rattle.sl_model.specs.declared.instr.StoreOp.{StoreOp}
use Rattle.sl_model.specs.declared.instr.Instr.{Instr}
use Rattle.sl_model.specs.declared.instr.Instr.TheVariants.{Lui, Auipc, Jal, Jalr, Branch, Load, Store, OpImm, Shift, Op, MulDiv, Fence, Ecall, Ebreak}
use Rattle.sl_model.specs.declared.traps.TheConstants.{MISALIGNED, FETCH, ILLEGAL, BREAKPOINT, LOAD_FAULT, STORE_FAULT}
use Rattle.sl_model.specs.Pages.{Pages, load_at, store_at}
use Rattle.sl_model.specs.Words.{meaning}
use Rattle.sl_model.specs.Arithmetic.{word_add, immediate_word, upper_word, branch_word, jump_word, is_taken, immediate_value, shift_value, register_value, mul_div_value, load_width, load_value, store_width}
use Rattle.sl_model.specs.State.{State, register, set_register}

-- what the next instruction does
pub data Next : Type 0 where
  -- it leads to this state
  Stepped : (state : State) → Next
  -- it is a system call, which the machine alone does not answer
  Called : Next
  -- it traps, and changes nothing
  Trapped : (number : ℕ) → Next

-- the state with another value of a register
abbrev pub put_register : State → ℕ → ℕ → State
put_register s rd value = record s { x = set_register s.x rd value }

-- the state at another place, with one more instruction done
abbrev pub gone_to : State → ℕ → State
gone_to s pc = record s { pc = pc; count = s.count + 1 }

-- the place after an instruction
abbrev pub after : State → ℕ
after s = word_add s.pc 4

-- to the next place, with a value in a register
abbrev pub advance : State → ℕ → ℕ → Next
advance s rd value = Stepped (gone_to (put_register s rd value) (after s))

-- a jump, which leaves the place after it in a register
abbrev pub jump : State → ℕ → ℕ → Next
jump s rd target =
    if target % 4 == 0 then Stepped (gone_to (put_register s rd (after s)) target)
    else Trapped MISALIGNED

-- a branch, which writes no register
abbrev pub branch : State → ℕ → Next
branch s target = if target % 4 == 0 then Stepped (gone_to s target) else Trapped MISALIGNED

-- the address of a load, of a store and of JALR
abbrev pub address : State → ℕ → ℕ → ℕ
address s rs1 offset = word_add (register s rs1) (immediate_word offset)

-- the address with bit 0 cleared
abbrev pub even : ℕ → ℕ
even a = a - a % 2

-- to the next place, with no other change
abbrev pub pass : State → Next
pass s = Stepped (gone_to s (after s))

-- a load of what stands at an address
abbrev pub loaded : State → LoadOp → ℕ → Option ℕ → Next
loaded s op rd None = Trapped LOAD_FAULT
loaded s op rd (Some n) = advance s rd (load_value op n)

abbrev pub load : State → LoadOp → ℕ → ℕ → Next
load s op rd addr = loaded s op rd (load_at s.pages addr (load_width op))

-- a store at an address
abbrev pub stored : State → Option Pages → Next
stored s None = Trapped STORE_FAULT
stored s (Some pages) = pass (record s { pages = pages })

abbrev pub store : State → StoreOp → ℕ → ℕ → Next
store s op addr value = stored s (store_at s.pages addr (store_width op) value)

-- what an instruction does
unfoldable pub execute : State → Instr → Next
execute s (Lui rd imm) = advance s rd (upper_word imm)
execute s (Auipc rd imm) = advance s rd (word_add s.pc (upper_word imm))
execute s (Jal rd half_offset) = jump s rd (word_add s.pc (jump_word half_offset))
execute s (Jalr rd rs1 offset) = jump s rd (even (address s rs1 offset))
execute s (Branch op rs1 rs2 half_offset) =
    if is_taken op (register s rs1) (register s rs2)
    then branch s (word_add s.pc (branch_word half_offset))
    else pass s
execute s (Load op rd rs1 offset) = load s op rd (address s rs1 offset)
execute s (Store op rs1 rs2 offset) = store s op (address s rs1 offset) (register s rs2)
execute s (OpImm op rd rs1 imm) =
    advance s rd (immediate_value op (register s rs1) (immediate_word imm))
execute s (Shift op rd rs1 amount) = advance s rd (shift_value op (register s rs1) amount)
execute s (Op op rd rs1 rs2) = advance s rd (register_value op (register s rs1) (register s rs2))
execute s (MulDiv op rd rs1 rs2) = advance s rd (mul_div_value op (register s rs1) (register s rs2))
execute s (Fence high rd) = pass s
execute s Ecall = Called
execute s Ebreak = Trapped BREAKPOINT

-- what the word at pc does
abbrev pub execute_word : State → Option Instr → Next
execute_word s None = Trapped ILLEGAL
execute_word s (Some instr) = execute s instr

abbrev pub execute_fetched : State → Option ℕ → Next
execute_fetched s None = Trapped FETCH
execute_fetched s (Some word) = execute_word s (meaning word)

-- what a state that runs does next
unfoldable pub step : State → Next
step s = if s.pc % 4 == 0 then execute_fetched s (load_at s.pages s.pc 4) else Trapped MISALIGNED

-- the trap that comes next, or None
abbrev pub trap_of : Next → Option ℕ
trap_of (Trapped number) = Some number
trap_of (Stepped state) = None
trap_of Called = None
