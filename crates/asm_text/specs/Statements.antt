-- Statements: what a line says, but for what depends on labels.
use Rattle.std.specs.Prelude.{ℕ, ◌+◌, ◌-◌, ◌/◌, ◌%◌, ◌^◌, ◌==◌, ◌||◌, not, nat_lt, nat_le, Bool, false, true, List, [], ◌∷◌, length, Option, Some, None, Result, Ok, Err, if◌then◌else◌}
use Rattle.std.specs.List.{list_any}
use Rattle.sl_model.specs.declared.instr.BranchOp.{BranchOp}
use Rattle.sl_model.specs.declared.instr.LoadOp.{LoadOp}
use Rattle.sl_model.specs.declared.instr.StoreOp.{StoreOp}
use Rattle.sl_model.specs.declared.instr.ImmediateOp.{ImmediateOp}
use Rattle.sl_model.specs.declared.instr.ImmediateOp.TheVariants.{Addi}
use Rattle.sl_model.specs.declared.instr.ShiftOp.{ShiftOp}
use Rattle.sl_model.specs.declared.instr.RegisterOp.{RegisterOp}
use Rattle.sl_model.specs.declared.instr.MulDivOp.{MulDivOp}
use Rattle.sl_model.specs.declared.instr.Instr.{Instr}
use Rattle.sl_model.specs.declared.instr.Instr.TheVariants as instr
use Rattle.asm_text.specs.declared.fault.AsmCause.{AsmCause}
use Rattle.asm_text.specs.declared.fault.AsmCause.TheVariants.{Operand, Range}
use Rattle.asm_text.specs.declared.fault.AsmCause.TheVariants as cause
use Rattle.asm_text.specs.declared.number.Number.{Number}
use Rattle.asm_text.specs.declared.mnemonic.Width.{Width}
use Rattle.asm_text.specs.declared.mnemonic.Width.TheVariants.{Word, Half, Byte}
use Rattle.asm_text.specs.declared.mnemonic.Alignment.TheVariants.{One, Two, Four, Eight, Sixteen}
use Rattle.asm_text.specs.declared.mnemonic.Section.{Section}
use Rattle.asm_text.specs.declared.mnemonic.Mnemonic.{Mnemonic}
use Rattle.asm_text.specs.declared.mnemonic.Mnemonic.TheVariants as mnemonic
use Rattle.asm_text.specs.declared.statement.Statement.{Statement}
use Rattle.asm_text.specs.declared.statement.Statement.TheVariants as statement
use Rattle.asm_text.specs.Bytes.{is_blank, is_all_blank, is_name, name_len}
use Rattle.asm_text.specs.Numbers.{number_of, is_within, word_of}
use Rattle.asm_text.specs.Names.{mnemonic_named}
use Rattle.asm_text.specs.Lines.{front_name, operand_text}
use Rattle.asm_text.specs.Operands.{and_then, pieces, one, number, label, two_registers, three_registers, register_and_number, registers_and_number, register_and_address, register_and_target, registers_and_target, register_and_label}

-- the word of a number from -low to high
abbrev pub ranged : ℕ → ℕ → Number → Result ℕ AsmCause
ranged low high n = if is_within low high n then Ok (word_of n) else Err Range

-- of a signed number of 12 bits
abbrev pub immediate : Number → Result ℕ AsmCause
immediate n = and_then (ranged 2048 2047 n) (λ word. Ok (word % 2 ^ 12))

-- ---- the instructions of RV32IM

unfoldable pub operation_statement : RegisterOp → List ℕ → Result Statement AsmCause
operation_statement op text =
    and_then (three_registers text) (λ r. Ok (statement.One (instr.Op op r.0 r.1 r.2)))

unfoldable pub mul_div_statement : MulDivOp → List ℕ → Result Statement AsmCause
mul_div_statement op text =
    and_then (three_registers text) (λ r. Ok (statement.One (instr.MulDiv op r.0 r.1 r.2)))

unfoldable pub immediate_statement : ImmediateOp → List ℕ → Result Statement AsmCause
immediate_statement op text =
    and_then (registers_and_number text) (λ r.
    and_then (immediate r.2) (λ imm. Ok (statement.One (instr.OpImm op r.0 r.1 imm))))

unfoldable pub shift_statement : ShiftOp → List ℕ → Result Statement AsmCause
shift_statement op text =
    and_then (registers_and_number text) (λ r.
    and_then (ranged 0 31 r.2)
    (λ amount. Ok (statement.One (instr.Shift op r.0 r.1 (amount % 2 ^ 5)))))

unfoldable pub load_statement : LoadOp → List ℕ → Result Statement AsmCause
load_statement op text =
    and_then (register_and_address text) (λ r.
    and_then (immediate r.1) (λ offset. Ok (statement.One (instr.Load op r.0 r.2 offset))))

-- the stored register is named first
unfoldable pub store_statement : StoreOp → List ℕ → Result Statement AsmCause
store_statement op text =
    and_then (register_and_address text) (λ r.
    and_then (immediate r.1) (λ offset. Ok (statement.One (instr.Store op r.2 r.0 offset))))

unfoldable pub jalr_statement : List ℕ → Result Statement AsmCause
jalr_statement text =
    and_then (register_and_address text) (λ r.
    and_then (immediate r.1) (λ offset. Ok (statement.One (instr.Jalr r.0 r.2 offset))))

unfoldable pub lui_statement : List ℕ → Result Statement AsmCause
lui_statement text =
    and_then (register_and_number text) (λ r.
    and_then (ranged 0 (2 ^ 20 - 1) r.1)
    (λ upper. Ok (statement.One (instr.Lui r.0 (upper % 2 ^ 20)))))

unfoldable pub auipc_statement : List ℕ → Result Statement AsmCause
auipc_statement text =
    and_then (register_and_number text) (λ r.
    and_then (ranged 0 (2 ^ 20 - 1) r.1)
    (λ upper. Ok (statement.One (instr.Auipc r.0 (upper % 2 ^ 20)))))

-- how far a branch and `jal` reach back
abbrev pub branch_reach : ℕ
branch_reach = 2 ^ 12

abbrev pub jump_reach : ℕ
jump_reach = 2 ^ 20

unfoldable pub branch_statement : BranchOp → List ℕ → Result Statement AsmCause
branch_statement op text =
    and_then (registers_and_target branch_reach text)
    (λ r. Ok (statement.Branch op r.0 r.1 r.2))

unfoldable pub jal_statement : List ℕ → Result Statement AsmCause
jal_statement text =
    and_then (register_and_target jump_reach text) (λ r. Ok (statement.Jump r.0 r.1))

-- ---- short forms

unfoldable pub move_statement : List ℕ → Result Statement AsmCause
move_statement text =
    and_then (two_registers text) (λ r. Ok (statement.One (instr.OpImm Addi r.0 r.1 0)))

unfoldable pub jump_statement : ℕ → List ℕ → Result Statement AsmCause
jump_statement rd text =
    and_then (one (pieces text)) (λ piece.
    and_then (label piece) (λ target. Ok (statement.Jump rd target)))

unfoldable pub branch_zero_statement : BranchOp → List ℕ → Result Statement AsmCause
branch_zero_statement op text =
    and_then (register_and_label text) (λ r. Ok (statement.Branch op r.0 0 r.1))

-- the upper 20 bits of a word, corrected for the sign of the lower 12
abbrev pub upper_part : ℕ → ℕ
upper_part word = (word + 0x800) / 2 ^ 12 % 2 ^ 20

abbrev pub lower_part : ℕ → ℕ
lower_part word = word % 2 ^ 12

-- the word of a signed number of 12 bits
abbrev pub is_short : ℕ → Bool
is_short word = nat_lt word 0x800 || nat_le (2 ^ 32 - 0x800) word

-- a word put into a register
abbrev pub loaded : ℕ → ℕ → Statement
loaded rd word =
    if is_short word then statement.One (instr.OpImm Addi rd 0 (lower_part word))
    else statement.Two (instr.Lui rd (upper_part word)) (instr.OpImm Addi rd rd (lower_part word))

unfoldable pub load_immediate_statement : List ℕ → Result Statement AsmCause
load_immediate_statement text =
    and_then (register_and_number text) (λ r.
    and_then (ranged (2 ^ 31) (2 ^ 32 - 1) r.1) (λ word. Ok (loaded r.0 word)))

unfoldable pub load_address_statement : List ℕ → Result Statement AsmCause
load_address_statement text =
    and_then (register_and_label text) (λ r. Ok (statement.Address r.0))

-- ---- without operands

abbrev pub alone : List ℕ → Statement → Result Statement AsmCause
alone text said = if is_all_blank text then Ok said else Err Operand

-- ---- directives

-- the numbers that a place of this width takes
abbrev pub lowest : Width → ℕ
lowest Word = 2 ^ 31
lowest Half = 2 ^ 15
lowest Byte = 2 ^ 7

abbrev pub highest : Width → ℕ
highest Word = 2 ^ 32 - 1
highest Half = 2 ^ 16 - 1
highest Byte = 2 ^ 8 - 1

-- an operand is no number, and no label where one may stand
abbrev pub is_malformed_as : Width → Option Number → List ℕ → Bool
is_malformed_as Word None piece = not (is_name piece)
is_malformed_as Half None piece = true
is_malformed_as Byte None piece = true
is_malformed_as width (Some n) piece = false

abbrev pub is_malformed : Width → List ℕ → Bool
is_malformed width piece = is_malformed_as width (number_of piece) piece

abbrev pub is_beyond : Width → Option Number → Bool
is_beyond width None = false
is_beyond width (Some n) = not (is_within (lowest width) (highest width) n)

abbrev pub is_out_of_range : Width → List ℕ → Bool
is_out_of_range width piece = is_beyond width (number_of piece)

unfoldable pub values_statement : Width → List ℕ → Result Statement AsmCause
values_statement width text =
    if list_any (is_malformed width) (pieces text) then Err Operand
    else if list_any (is_out_of_range width) (pieces text) then Err Range
    else Ok (statement.Values width)

abbrev pub one_number : List ℕ → Result Number AsmCause
one_number text = and_then (one (pieces text)) number

unfoldable pub space_statement : List ℕ → Result Statement AsmCause
space_statement text =
    and_then (one_number text) (λ n.
    and_then (ranged 0 (2 ^ 32 - 1) n) (λ size. Ok (statement.Space size)))

abbrev pub aligned_to : ℕ → Result Statement AsmCause
aligned_to n =
    if n == 1 then Ok (statement.Align One)
    else if n == 2 then Ok (statement.Align Two)
    else if n == 4 then Ok (statement.Align Four)
    else if n == 8 then Ok (statement.Align Eight)
    else if n == 16 then Ok (statement.Align Sixteen)
    else Err Range

unfoldable pub align_statement : List ℕ → Result Statement AsmCause
align_statement text = and_then (one_number text) (λ n. and_then (ranged 0 16 n) aligned_to)

unfoldable pub global_statement : List ℕ → Result Statement AsmCause
global_statement text =
    and_then (one (pieces text))
    (λ piece. if is_name piece then Ok statement.Nothing else Err Operand)

-- ---- the whole

unfoldable pub statement_for : Mnemonic → List ℕ → Result Statement AsmCause
statement_for mnemonic.Lui text = lui_statement text
statement_for mnemonic.Auipc text = auipc_statement text
statement_for mnemonic.Jal text = jal_statement text
statement_for mnemonic.Jalr text = jalr_statement text
statement_for (mnemonic.Branch op) text = branch_statement op text
statement_for (mnemonic.Load op) text = load_statement op text
statement_for (mnemonic.Store op) text = store_statement op text
statement_for (mnemonic.Immediate op) text = immediate_statement op text
statement_for (mnemonic.Shift op) text = shift_statement op text
statement_for (mnemonic.Operation op) text = operation_statement op text
statement_for (mnemonic.MulDiv op) text = mul_div_statement op text
statement_for (mnemonic.Alone instr) text = alone text (statement.One instr)
statement_for mnemonic.Move text = move_statement text
statement_for (mnemonic.JumpTo rd) text = jump_statement rd text
statement_for (mnemonic.BranchZero op) text = branch_zero_statement op text
statement_for mnemonic.LoadImmediate text = load_immediate_statement text
statement_for mnemonic.LoadAddress text = load_address_statement text
statement_for (mnemonic.Enter section) text = alone text (statement.Enter section)
statement_for (mnemonic.Values width) text = values_statement width text
statement_for mnemonic.Space text = space_statement text
statement_for mnemonic.Align text = align_statement text
statement_for mnemonic.Global text = global_statement text

-- nothing, or a blank, stands between a name and its operands
abbrev pub is_apart : List ℕ → Bool
is_apart [] = true
is_apart (b ∷ bs) = is_blank b

abbrev pub with_operands : Mnemonic → List ℕ → Result Statement AsmCause
with_operands name text = if is_apart text then statement_for name text else Err Operand

abbrev pub with_name : Option Mnemonic → List ℕ → Result Statement AsmCause
with_name None text = Err cause.Mnemonic
with_name (Some name) text = with_operands name text

-- what a line says behind its labels, or its least cause that depends on no label
unfoldable pub statement_of : List ℕ → Result Statement AsmCause
statement_of text =
    if length text == 0 then Ok statement.Nothing
    else if name_len text == 0 then Err Operand
    else with_name (mnemonic_named (front_name text)) (operand_text text)
