-- Where a run of words stands, and what instructions that go straight on do to it. Registers are a
-- function, so what one reads after some writes computes.
use Rattle.std.specs.Prelude.{◌≡◌, ℕ, ◌+◌, ◌*◌, ◌==◌, if◌then◌else◌, List, [], ◌∷◌, length, Option, Some, None}
use Rattle.std.specs.List.{AllByRecursion}
use Rattle.std.specs.Option.{option_map, option_and_then}
use Rattle.sl_model.specs.declared.instr.Instr.{Instr}
use Rattle.sl_model.specs.declared.instr.Instr.TheVariants.{Lui, Auipc, Jal, Jalr, Branch, Load, Store, OpImm, Shift, Op, MulDiv, Fence, Ecall, Ebreak}
use Rattle.sl_model.specs.Pages.{Pages, ArePages, load_at, store_at}
use Rattle.sl_model.specs.Words.{IsWord}
use Rattle.sl_model.specs.Arithmetic.{word_add, immediate_word, upper_word, immediate_value, shift_value, register_value, mul_div_value, load_width, load_value, store_width}
use Rattle.sl_model.specs.State.{State, register}

-- the values of registers, by their numbers
abbrev pub Registers : Type 0
Registers = ℕ → ℕ

-- the value of a register: x0 is 0
abbrev pub read : Registers → ℕ → ℕ
read x r = if r == 0 then 0 else x r

-- the registers after a write
abbrev pub write : Registers → ℕ → ℕ → Registers
write x rd value = λ r. if r == rd then value else x r

pub record Configuration : Type 0 where
  -- how many words of the code stand before the next instruction
  pub place : ℕ
  pub registers : Registers
  pub pages : Pages

abbrev pub at_place : ℕ → Registers → Pages → Configuration
at_place place x pages = record { place = place; registers = x; pages = pages }

-- the address of a load and of a store, and what JALR adds up
abbrev pub address : Registers → ℕ → ℕ → ℕ
address x rs1 offset = word_add (read x rs1) (immediate_word offset)

-- at the next place, with a value in a register
abbrev pub put : Configuration → ℕ → ℕ → Configuration
put c rd value = at_place (c.place + 1) (write c.registers rd value) c.pages

-- at the next place, with these pages
abbrev pub with_pages : Configuration → Pages → Configuration
with_pages c pages = at_place (c.place + 1) c.registers pages

-- What an instruction does in code whose first word stands at an address: None where it is a jump,
-- ends the run or traps.
unfoldable pub does : ℕ → Instr → Configuration → Option Configuration
does start (Lui rd imm) c = Some (put c rd (upper_word imm))
does start (Auipc rd imm) c = Some (put c rd (word_add (start + 4 * c.place) (upper_word imm)))
does start (Jal rd half_offset) c = None
does start (Jalr rd rs1 offset) c = None
does start (Branch op rs1 rs2 half_offset) c = None
does start (Load op rd rs1 offset) c =
    option_map (λ n. put c rd (load_value op n))
    (load_at c.pages (address c.registers rs1 offset) (load_width op))
does start (Store op rs1 rs2 offset) c =
    option_map (with_pages c)
    (store_at c.pages (address c.registers rs1 offset) (store_width op) (read c.registers rs2))
does start (OpImm op rd rs1 imm) c =
    Some (put c rd (immediate_value op (read c.registers rs1) (immediate_word imm)))
does start (Shift op rd rs1 amount) c =
    Some (put c rd (shift_value op (read c.registers rs1) amount))
does start (Op op rd rs1 rs2) c =
    Some (put c rd (register_value op (read c.registers rs1) (read c.registers rs2)))
does start (MulDiv op rd rs1 rs2) c =
    Some (put c rd (mul_div_value op (read c.registers rs1) (read c.registers rs2)))
does start (Fence high rd) c = Some (with_pages c c.pages)
does start Ecall c = None
does start Ebreak c = None

-- what a block of instructions does, one after the other
unfoldable pub exec : ℕ → List Instr → Configuration → Option Configuration
exec start [] c = Some c
exec start (instr ∷ rest) c = option_and_then (exec start rest) (does start instr c)

-- a state of the machine at a configuration, with every number in its range
pub record IsAt (start : ℕ) (c : Configuration) (s : State) : Type 0 where
  pub place : s.pc ≡ start + 4 * c.place
  pub registers : (r : ℕ) → register s r ≡ read c.registers r
  pub pages : s.pages ≡ c.pages
  pub count : length s.x ≡ 32
  pub words : AllByRecursion IsWord s.x
  pub bytes : ArePages c.pages
