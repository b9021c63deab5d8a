-- The blocks of instructions that the code of tracers is made of.
use Rattle.std.specs.Prelude.{ℕ, zero, suc, ◌+◌, ◌-◌, ◌*◌, ◌/◌, ◌%◌, ◌^◌, List, [], ◌∷◌, ◌++◌}
use Rattle.sl_model.specs.declared.bank.TheConstants.{CODE_START, FRAMES_START, LOG_START, OUTPUT_START, COPIED_WORDS, ENTRY_SIZE, MOST_ENTRIES, MOST_OUTPUT_WORDS}
use Rattle.sl_model.specs.declared.instr.BranchOp.{BranchOp}
use Rattle.sl_model.specs.declared.instr.BranchOp.TheVariants.{Beq, Bne, Bltu, Bgeu}
use Rattle.sl_model.specs.declared.instr.ImmediateOp.TheVariants.{Addi}
use Rattle.sl_model.specs.declared.instr.Instr.{Instr}
use Rattle.sl_model.specs.declared.instr.Instr.TheVariants as instr
use Rattle.sl_model.specs.declared.instr.LoadOp.{LoadOp}
use Rattle.sl_model.specs.declared.instr.LoadOp.TheVariants.{Lw, Lbu, Lhu}
use Rattle.sl_model.specs.declared.instr.MulDivOp.TheVariants.{Mul}
use Rattle.sl_model.specs.declared.instr.RegisterOp.TheVariants.{Add}
use Rattle.sl_model.specs.declared.instr.ShiftOp.TheVariants.{Slli}
use Rattle.sl_model.specs.declared.instr.StoreOp.{StoreOp}
use Rattle.sl_model.specs.declared.instr.StoreOp.TheVariants.{Sb, Sh, Sw}
use Rattle.sl_model.specs.declared.layout.TheConstants.{MEMORY_END}
use Rattle.sl_model.specs.Arithmetic.{store_width}
use Rattle.tracer_code.specs.declared.outcomes.TheConstants as number
use Rattle.tracer_lang.specs.declared.tree.Operator.{Operator}
use Rattle.tracer_lang.specs.declared.tree.Operator.TheVariants.{Register, MulDiv, Branch, Exchanged}
use Rattle.tracer_compile.specs.declared.roles.Role.{Role}
use Rattle.tracer_compile.specs.declared.roles.Role.TheVariants.{Zero, Link, Top, First, Second, Third, Frame, Units, Value, Detail, Calls, Break, Fourth, Fifth, Sixth}
use Rattle.tracer_compile.specs.Roles.{number_of}

-- ---- instructions

-- the sum of a register and a number
abbrev pub add_number : Role → Role → ℕ → Instr
add_number rd rs1 n = instr.OpImm Addi (number_of rd) (number_of rs1) (n % 2 ^ 12)

-- a register less a number
abbrev pub take_number : Role → Role → ℕ → Instr
take_number rd rs1 n = add_number rd rs1 (2 ^ 12 - n % 2 ^ 12)

-- the sum of two registers
abbrev pub add : Role → Role → Role → Instr
add rd rs1 rs2 = instr.Op Add (number_of rd) (number_of rs1) (number_of rs2)

-- the product of two registers
abbrev pub multiply : Role → Role → Role → Instr
multiply rd rs1 rs2 = instr.MulDiv Mul (number_of rd) (number_of rs1) (number_of rs2)

-- four times a register
abbrev pub times_four : Role → Role → Instr
times_four rd rs1 = instr.Shift Slli (number_of rd) (number_of rs1) 2

-- a number whose low twelve bits are 0
abbrev pub high_number : Role → ℕ → Instr
high_number rd n = instr.Lui (number_of rd) (n / 2 ^ 12 % 2 ^ 20)

-- the word behind a register's address
abbrev pub load_word : Role → Role → ℕ → Instr
load_word rd rs1 offset = instr.Load Lw (number_of rd) (number_of rs1) (offset % 2 ^ 12)

-- the same before it
abbrev pub load_word_before : Role → Role → ℕ → Instr
load_word_before rd rs1 offset = load_word rd rs1 (2 ^ 12 - offset % 2 ^ 12)

-- the word behind a register's address becomes a register
abbrev pub store_word : Role → Role → ℕ → Instr
store_word rs2 rs1 offset = instr.Store Sw (number_of rs1) (number_of rs2) (offset % 2 ^ 12)

-- to so many words further where a condition of two registers holds
abbrev pub skip_if : BranchOp → Role → Role → ℕ → Instr
skip_if op rs1 rs2 words = instr.Branch op (number_of rs1) (number_of rs2) (2 * words % 2 ^ 12)

-- to so many words further, and back
abbrev pub jump_on : ℕ → Instr
jump_on words = instr.Jal (number_of Zero) (2 * words % 2 ^ 20)

abbrev pub jump_back : ℕ → Instr
jump_back words = instr.Jal (number_of Zero) ((2 ^ 20 - 2 * words % 2 ^ 20) % 2 ^ 20)

-- to the address in a register
abbrev pub jump_to : Role → Instr
jump_to rs1 = instr.Jalr (number_of Zero) (number_of rs1) 0

-- what memory holds at a register's address
abbrev pub load_at_role : LoadOp → Role → Role → Instr
load_at_role op rd rs1 = instr.Load op (number_of rd) (number_of rs1) 0

-- memory at a register's address becomes a register
abbrev pub store_at_role : StoreOp → Role → Role → Instr
store_at_role op rs2 rs1 = instr.Store op (number_of rs1) (number_of rs2) 0

-- ---- numbers and temporaries

-- Any number below 2 ^ 32. The lower part is taken with its sign, so where that is negative the
-- upper one is raised by one.
unfoldable pub constant : Role → ℕ → List Instr
constant rd n =
    instr.Lui (number_of rd) ((n / 2 ^ 12 + n / 2 ^ 11 % 2) % 2 ^ 20) ∷ add_number rd rd n ∷ []

-- a register becomes the topmost temporary
unfoldable pub push : Role → List Instr
push rs2 = store_word rs2 Top 0 ∷ add_number Top Top 4 ∷ []

-- the topmost temporary goes into a register
unfoldable pub pop : Role → List Instr
pop rd = load_word_before rd Top 4 ∷ take_number Top Top 4 ∷ []

-- so many temporaries that are 0
unfoldable pub zeros : ℕ → List Instr
zeros zero = []
zeros (suc count) = push Zero ++ zeros count

-- ---- ends

-- an outcome whose value is there already
unfoldable pub end_with : ℕ → List Instr
end_with number = add_number Value Zero number ∷ instr.Ecall ∷ []

-- an outcome without a value
unfoldable pub end_without : ℕ → List Instr
end_without number = add_number Detail Zero 0 ∷ end_with number

-- ---- expressions

-- one of the words of the machine that stand copied at the head of the frames
unfoldable pub copied_block : ℕ → List Instr
copied_block index = high_number First FRAMES_START ∷ load_word Value First (4 * index) ∷ []

unfoldable pub local_block : ℕ → List Instr
local_block index = load_word Value Frame (4 * index) ∷ []

-- The end with a fault, where an address is beyond the program's memory. Behind it the number of
-- the fault and the address stand where the end of a run has them, so that the access may trap.
unfoldable pub guard_block : ℕ → List Instr
guard_block fault =
    add_number Value Zero fault
    ∷ high_number First MEMORY_END
    ∷ skip_if Bltu Detail First 2
    ∷ instr.Ecall
    ∷ []

-- the value at an address
unfoldable pub load_block : LoadOp → List Instr
load_block op =
    add_number Detail Value 0
    ∷ (guard_block number.LOAD_FAULT ++ load_at_role op Value Detail ∷ [])

-- 1 where a condition of two registers holds, else 0
unfoldable pub truth_block : BranchOp → Role → Role → List Instr
truth_block op rs1 rs2 =
    add_number Second Zero 1
    ∷ skip_if op rs1 rs2 2
    ∷ add_number Second Zero 0
    ∷ add_number Value Second 0
    ∷ []

-- what an operator makes of x5 and the value
unfoldable pub operator_block : Operator → List Instr
operator_block (Register op) =
    instr.Op op (number_of Value) (number_of First) (number_of Value) ∷ []
operator_block (MulDiv op) =
    instr.MulDiv op (number_of Value) (number_of First) (number_of Value) ∷ []
operator_block (Branch op) = truth_block op First Value
operator_block (Exchanged op) = truth_block op Value First

-- the number of the system call that asks for a break
abbrev pub break_call : ℕ
break_call = 214

-- the end where a system call is barred
unfoldable pub barred_block : List Instr
barred_block =
    add_number First Zero break_call ∷ skip_if Beq Detail First 3 ∷ end_with number.BARRED

-- What the break call gives for the value: outside the heap's range the break as it is, beyond the
-- heap's mapped end the end, and else the value, which becomes the break.
unfoldable pub break_block : List Instr
break_block =
    high_number First FRAMES_START
    ∷ load_word Second First 132
    ∷ load_word Third First 136
    ∷ load_word Fourth First 144
    ∷ skip_if Bltu Value Second 6
    ∷ skip_if Bltu Third Value 5
    ∷ skip_if Bgeu Fourth Value 3
    ∷ (end_with number.BARRED
    ++ add_number Break Value 0
    ∷ add_number Value Break 0
    ∷ [])

-- ---- the budget and calls

-- takes a unit, or is the end where none is left
unfoldable pub unit_block : List Instr
unit_block =
    skip_if Bne Units Zero 4 ∷ (end_without number.OVER_BUDGET ++ take_number Units Units 1 ∷ [])

-- the end where no further call may be open
unfoldable pub depth_block : List Instr
depth_block = skip_if Bne Calls Zero 4 ∷ end_without number.TOO_DEEP

-- Enters a body of so many locals, which are the topmost temporaries, at an address. What the body
-- returns to, the last of these instructions, and the caller's frame are saved behind the locals.
unfoldable pub enter_block : ℕ → ℕ → List Instr
enter_block locals address =
    instr.Auipc (number_of Link) 0
    ∷ add_number Link Link 40
    ∷ store_word Link Top 0
    ∷ store_word Frame Top 4
    ∷ take_number Frame Top (4 * locals)
    ∷ add_number Top Top 8
    ∷ take_number Calls Calls 1
    ∷ (constant First address
    ++ jump_to First
    ∷ add_number Calls Calls 1
    ∷ [])

-- leaves a body of so many locals with the value
unfoldable pub return_block : ℕ → List Instr
return_block locals =
    load_word Link Frame (4 * locals)
    ∷ load_word First Frame (4 * locals + 4)
    ∷ add_number Top Frame 0
    ∷ add_number Frame First 0
    ∷ jump_to Link
    ∷ []

-- ---- statements

-- the value becomes a local
unfoldable pub set_block : ℕ → List Instr
set_block index = store_word Value Frame (4 * index) ∷ []

-- emits the value, or is the end where no further word may be emitted
unfoldable pub emit_block : List Instr
emit_block =
    high_number First OUTPUT_START
    ∷ load_word Second First 0
    ∷ add_number Third Zero MOST_OUTPUT_WORDS
    ∷ skip_if Bltu Second Third 4
    ∷ (end_without number.TOO_MANY_WORDS
    ++ times_four Third Second
    ∷ add Third Third First
    ∷ store_word Value Third 4
    ∷ add_number Second Second 1
    ∷ store_word Second First 0
    ∷ [])

-- the load of what a store of the same width overwrites
abbrev pub old_load : StoreOp → LoadOp
old_load Sb = Lbu
old_load Sh = Lhu
old_load Sw = Lw

-- the end where no further store may be done; else x5 is the log's address and x28 the number of
-- its entries
unfoldable pub room_block : List Instr
room_block =
    high_number First LOG_START
    ∷ load_word Fourth First 0
    ∷ high_number Fifth MOST_ENTRIES
    ∷ skip_if Bltu Fourth Fifth 4
    ∷ end_without number.TOO_MANY_STORES

-- writes an entry of the log whole, and then counts it
unfoldable pub log_block : ℕ → List Instr
log_block width =
    add_number Fifth Zero ENTRY_SIZE
    ∷ multiply Fifth Fifth Fourth
    ∷ add Fifth Fifth First
    ∷ store_word Detail Fifth 4
    ∷ add_number Sixth Zero width
    ∷ store_word Sixth Fifth 8
    ∷ store_word Third Fifth 12
    ∷ add_number Fourth Fourth 1
    ∷ store_word Fourth First 0
    ∷ []

-- memory at the address in x11 becomes the value, and what stood there goes into the log before
unfoldable pub store_block : StoreOp → List Instr
store_block op =
    add_number Second Value 0
    ∷ (guard_block number.STORE_FAULT
    ++ load_at_role (old_load op) Third Detail
    ∷ (room_block
    ++ (log_block (store_width op)
    ++ store_at_role op Second Detail
    ∷ [])))

-- ends with the value
unfoldable pub stop_block : List Instr
stop_block = add_number Detail Value 0 ∷ end_with number.USER

-- ---- bodies

-- a tracer before its body of so many locals: its budget, the calls that may be open, its own break
-- and a frame that returns to the first word of the code
unfoldable pub opening_block : ℕ → ℕ → List Instr
opening_block budget locals =
    constant Units budget
    ++ add_number Calls Zero 32
    ∷ high_number First FRAMES_START
    ∷ load_word Break First 140
    ∷ add_number Frame First (4 * COPIED_WORDS)
    ∷ add_number Top Frame (4 * locals + 8)
    ∷ high_number Link CODE_START
    ∷ store_word Link Frame (4 * locals)
    ∷ []
