-- Every trap of a step is one that a recording may have.
use Rattle.std.specs.Prelude.{if◌then◌else◌, ◌%◌, ◌==◌}
use Rattle.std.proofs.Common.{◌≡◌, ℕ, Bool, true, false, Option, Some, None, refl, subst}
use Rattle.sl_model.specs.declared.instr.LoadOp.{LoadOp}
use Rattle.sl_model.specs.declared.instr.Instr.{Instr}
use Rattle.sl_model.specs.declared.instr.Instr.TheVariants.{Lui, Auipc, Jal, Jalr, Branch, Load, Store, OpImm, Shift, Op, MulDiv, Fence, Ecall, Ebreak}
use Rattle.sl_model.specs.declared.traps.TheConstants.{MISALIGNED}
use Rattle.sl_model.specs.Pages.{Pages, load_at, store_at}
use Rattle.sl_model.specs.Words.{meaning}
use Rattle.sl_model.specs.Arithmetic.{word_add, branch_word, is_taken, load_width, store_width, jump_word}
use Rattle.sl_model.specs.State.{State, register}
use Rattle.sl_model.specs.Step.{Next, Stepped, Called, Trapped, step, execute, execute_word, execute_fetched, even, address, branch, pass, loaded, stored}
use Rattle.rec_format.specs.Rules.{is_trap}

abbrev TrapsSo : Next → Type 0
TrapsSo (Stepped t) = Unit {0}
TrapsSo Called = Unit {0}
TrapsSo (Trapped number) = is_trap number ≡ true

jump_traps : (b : Bool) (t : State) → TrapsSo (if b then Stepped t else Trapped MISALIGNED)
jump_traps true t = tt
jump_traps false t = refl

branch_traps : (b : Bool) (s : State) (target : ℕ) → TrapsSo (if b then branch s target else pass s)
branch_traps true s target = jump_traps (target % 4 == 0) _
branch_traps false s target = tt

load_traps : (s : State) (op : LoadOp) (rd : ℕ) (found : Option ℕ) → TrapsSo (loaded s op rd found)
load_traps s op rd None = refl
load_traps s op rd (Some n) = tt

store_traps : (s : State) (found : Option Pages) → TrapsSo (stored s found)
store_traps s None = refl
store_traps s (Some pages) = tt

execute_traps : (s : State) (instr : Instr) → TrapsSo (execute s instr)
unfolding execute
execute_traps s (Lui rd imm) = tt
execute_traps s (Auipc rd imm) = tt
execute_traps s (Jal rd half_offset) = jump_traps (word_add s.pc (jump_word half_offset) % 4 == 0) _
execute_traps s (Jalr rd rs1 offset) = jump_traps (even (address s rs1 offset) % 4 == 0) _
execute_traps s (Branch op rs1 rs2 half_offset) = branch_traps (is_taken op (register s rs1) (register s rs2)) s (word_add s.pc (branch_word half_offset))
execute_traps s (Load op rd rs1 offset) = load_traps s op rd (load_at s.pages (address s rs1 offset) (load_width op))
execute_traps s (Store op rs1 rs2 offset) = store_traps s (store_at s.pages (address s rs1 offset) (store_width op) (register s rs2))
execute_traps s (OpImm op rd rs1 imm) = tt
execute_traps s (Shift op rd rs1 amount) = tt
execute_traps s (Op op rd rs1 rs2) = tt
execute_traps s (MulDiv op rd rs1 rs2) = tt
execute_traps s (Fence high rd) = tt
execute_traps s Ecall = tt
execute_traps s Ebreak = refl

word_traps : (s : State) (instr : Option Instr) → TrapsSo (execute_word s instr)
word_traps s None = refl
word_traps s (Some instr) = execute_traps s instr

fetch_traps : (s : State) (word : Option ℕ) → TrapsSo (execute_fetched s word)
fetch_traps s None = refl
fetch_traps s (Some word) = word_traps s (meaning word)

step_traps : (s : State) → TrapsSo (step s)
unfolding step
step_traps s = chosen (s.pc % 4 == 0)
  where
    chosen : (b : Bool) → TrapsSo (if b then execute_fetched s (load_at s.pages s.pc 4) else Trapped MISALIGNED)
    chosen true = fetch_traps s (load_at s.pages s.pc 4)
    chosen false = refl

pub is_trap-step : (s : State) (number : ℕ) → step s ≡ Trapped number → is_trap number ≡ true
is_trap-step s number traps = subst TrapsSo traps (step_traps s)
