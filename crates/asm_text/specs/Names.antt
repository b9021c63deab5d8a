-- What names stand for: registers, instructions, short forms and directives.
use Rattle.std.specs.Prelude.{ℕ, ◌+◌, ◌-◌, ◌*◌, ◌==◌, ◌&&◌, ◌||◌, not, nat_lt, Bool, List, [], ◌∷◌, codes, bytes_eq, Option, Some, None, position, if◌then◌else◌}
use Rattle.std.specs.Option.{option_map}
use Rattle.sl_model.specs.declared.instr.BranchOp.{BranchOp}
use Rattle.sl_model.specs.declared.instr.BranchOp.TheVariants.{Beq, Bne, Blt, Bge, Bltu, Bgeu}
use Rattle.sl_model.specs.declared.instr.LoadOp.{LoadOp}
use Rattle.sl_model.specs.declared.instr.LoadOp.TheVariants.{Lb, Lh, Lw, Lbu, Lhu}
use Rattle.sl_model.specs.declared.instr.StoreOp.{StoreOp}
use Rattle.sl_model.specs.declared.instr.StoreOp.TheVariants.{Sb, Sh, Sw}
use Rattle.sl_model.specs.declared.instr.ImmediateOp.{ImmediateOp}
use Rattle.sl_model.specs.declared.instr.ImmediateOp.TheVariants.{Addi, Slti, Sltiu, Xori, Ori, Andi}
use Rattle.sl_model.specs.declared.instr.ShiftOp.{ShiftOp}
use Rattle.sl_model.specs.declared.instr.ShiftOp.TheVariants.{Slli, Srli, Srai}
use Rattle.sl_model.specs.declared.instr.RegisterOp.{RegisterOp}
use Rattle.sl_model.specs.declared.instr.RegisterOp.TheVariants.{Add, Sub, Sll, Slt, Sltu, Xor, Srl, Sra, Or, And}
use Rattle.sl_model.specs.declared.instr.MulDivOp.{MulDivOp}
use Rattle.sl_model.specs.declared.instr.MulDivOp.TheVariants.{Mul, Mulh, Mulhsu, Mulhu, Div, Divu, Rem, Remu}
use Rattle.sl_model.specs.declared.instr.Instr.{Instr}
use Rattle.sl_model.specs.declared.instr.Instr.TheVariants.{Jalr, OpImm, Fence, Ecall, Ebreak}
use Rattle.rv_text.specs.Text.{register_names, branch_name, load_name, store_name, immediate_name, shift_name, operation_name, mul_div_name}
use Rattle.asm_text.specs.declared.mnemonic.Width.{Width}
use Rattle.asm_text.specs.declared.mnemonic.Width.TheVariants as width
use Rattle.asm_text.specs.declared.mnemonic.Section.{Section}
use Rattle.asm_text.specs.declared.mnemonic.Section.TheVariants as section
use Rattle.asm_text.specs.declared.mnemonic.Mnemonic.{Mnemonic}
use Rattle.asm_text.specs.declared.mnemonic.Mnemonic.TheVariants as mnemonic
use Rattle.asm_text.specs.Bytes.{is_digit}

-- the first of two that is there
abbrev pub or_else : {A : Type 0} → Option A → Option A → Option A
or_else (Some x) other = Some x
or_else None other = other

-- ---- registers

-- x and a number below 32, without leading zeros
abbrev pub numbered : List ℕ → Option ℕ
numbered (x ∷ d ∷ []) = if x == 120 && is_digit d then Some (d - 48) else None
numbered (x ∷ t ∷ d ∷ []) =
    let n = 10 * (t - 48) + (d - 48) in
    if x == 120 && is_digit t && is_digit d && not (t == 48) && nat_lt n 32 then Some n else None
numbered other = None

-- the names of the calling convention, `fp`, and numbered names
unfoldable pub register_named : List ℕ → Option ℕ
register_named text =
    if bytes_eq text (codes "fp") then Some 8
    else or_else (position (λ name. bytes_eq name text) register_names) (numbered text)

-- ---- operations, by their mnemonics

unfoldable pub branch_named : List ℕ → Option BranchOp
branch_named text =
    if bytes_eq text (branch_name Beq) then Some Beq
    else if bytes_eq text (branch_name Bne) then Some Bne
    else if bytes_eq text (branch_name Blt) then Some Blt
    else if bytes_eq text (branch_name Bge) then Some Bge
    else if bytes_eq text (branch_name Bltu) then Some Bltu
    else if bytes_eq text (branch_name Bgeu) then Some Bgeu
    else None

unfoldable pub load_named : List ℕ → Option LoadOp
load_named text =
    if bytes_eq text (load_name Lb) then Some Lb
    else if bytes_eq text (load_name Lh) then Some Lh
    else if bytes_eq text (load_name Lw) then Some Lw
    else if bytes_eq text (load_name Lbu) then Some Lbu
    else if bytes_eq text (load_name Lhu) then Some Lhu
    else None

unfoldable pub store_named : List ℕ → Option StoreOp
store_named text =
    if bytes_eq text (store_name Sb) then Some Sb
    else if bytes_eq text (store_name Sh) then Some Sh
    else if bytes_eq text (store_name Sw) then Some Sw
    else None

unfoldable pub immediate_named : List ℕ → Option ImmediateOp
immediate_named text =
    if bytes_eq text (immediate_name Addi) then Some Addi
    else if bytes_eq text (immediate_name Slti) then Some Slti
    else if bytes_eq text (immediate_name Sltiu) then Some Sltiu
    else if bytes_eq text (immediate_name Xori) then Some Xori
    else if bytes_eq text (immediate_name Ori) then Some Ori
    else if bytes_eq text (immediate_name Andi) then Some Andi
    else None

unfoldable pub shift_named : List ℕ → Option ShiftOp
shift_named text =
    if bytes_eq text (shift_name Slli) then Some Slli
    else if bytes_eq text (shift_name Srli) then Some Srli
    else if bytes_eq text (shift_name Srai) then Some Srai
    else None

unfoldable pub operation_named : List ℕ → Option RegisterOp
operation_named text =
    if bytes_eq text (operation_name Add) then Some Add
    else if bytes_eq text (operation_name Sub) then Some Sub
    else if bytes_eq text (operation_name Sll) then Some Sll
    else if bytes_eq text (operation_name Slt) then Some Slt
    else if bytes_eq text (operation_name Sltu) then Some Sltu
    else if bytes_eq text (operation_name Xor) then Some Xor
    else if bytes_eq text (operation_name Srl) then Some Srl
    else if bytes_eq text (operation_name Sra) then Some Sra
    else if bytes_eq text (operation_name Or) then Some Or
    else if bytes_eq text (operation_name And) then Some And
    else None

unfoldable pub mul_div_named : List ℕ → Option MulDivOp
mul_div_named text =
    if bytes_eq text (mul_div_name Mul) then Some Mul
    else if bytes_eq text (mul_div_name Mulh) then Some Mulh
    else if bytes_eq text (mul_div_name Mulhsu) then Some Mulhsu
    else if bytes_eq text (mul_div_name Mulhu) then Some Mulhu
    else if bytes_eq text (mul_div_name Div) then Some Div
    else if bytes_eq text (mul_div_name Divu) then Some Divu
    else if bytes_eq text (mul_div_name Rem) then Some Rem
    else if bytes_eq text (mul_div_name Remu) then Some Remu
    else None

-- ---- instructions without operands

-- addi zero, zero, 0
abbrev pub no_operation : Instr
no_operation = OpImm Addi 0 0 0

-- jalr zero, 0(ra)
abbrev pub return_to_ra : Instr
return_to_ra = Jalr 0 1 0

-- the word 0x0FF0000F
abbrev pub full_fence : Instr
full_fence = Fence 0x1FE0 0

unfoldable pub alone_named : List ℕ → Option Instr
alone_named text =
    if bytes_eq text (codes "fence") then Some full_fence
    else if bytes_eq text (codes "ecall") then Some Ecall
    else if bytes_eq text (codes "ebreak") then Some Ebreak
    else if bytes_eq text (codes "nop") then Some no_operation
    else if bytes_eq text (codes "ret") then Some return_to_ra
    else None

-- ---- mnemonics

unfoldable pub plain_named : List ℕ → Option Mnemonic
plain_named text =
    if bytes_eq text (codes "lui") then Some mnemonic.Lui
    else if bytes_eq text (codes "auipc") then Some mnemonic.Auipc
    else if bytes_eq text (codes "jal") then Some mnemonic.Jal
    else if bytes_eq text (codes "jalr") then Some mnemonic.Jalr
    else None

unfoldable pub short_named : List ℕ → Option Mnemonic
short_named text =
    if bytes_eq text (codes "mv") then Some mnemonic.Move
    else if bytes_eq text (codes "j") then Some (mnemonic.JumpTo 0)
    else if bytes_eq text (codes "call") then Some (mnemonic.JumpTo 1)
    else if bytes_eq text (codes "beqz") then Some (mnemonic.BranchZero Beq)
    else if bytes_eq text (codes "bnez") then Some (mnemonic.BranchZero Bne)
    else if bytes_eq text (codes "li") then Some mnemonic.LoadImmediate
    else if bytes_eq text (codes "la") then Some mnemonic.LoadAddress
    else None

unfoldable pub directive_named : List ℕ → Option Mnemonic
directive_named text =
    if bytes_eq text (codes ".text") then Some (mnemonic.Enter section.Text)
    else if bytes_eq text (codes ".data") then Some (mnemonic.Enter section.Data)
    else if bytes_eq text (codes ".word") then Some (mnemonic.Values width.Word)
    else if bytes_eq text (codes ".half") then Some (mnemonic.Values width.Half)
    else if bytes_eq text (codes ".byte") then Some (mnemonic.Values width.Byte)
    else if bytes_eq text (codes ".space") then Some mnemonic.Space
    else if bytes_eq text (codes ".balign") then Some mnemonic.Align
    else if bytes_eq text (codes ".globl") then Some mnemonic.Global
    else None

-- what a name at the front of a statement stands for
unfoldable pub mnemonic_named : List ℕ → Option Mnemonic
mnemonic_named text =
    or_else (option_map mnemonic.Operation (operation_named text))
    (or_else (option_map mnemonic.Immediate (immediate_named text))
    (or_else (option_map mnemonic.Load (load_named text))
    (or_else (option_map mnemonic.Store (store_named text))
    (or_else (option_map mnemonic.Branch (branch_named text))
    (or_else (short_named text)
    (or_else (option_map mnemonic.Shift (shift_named text))
    (or_else (option_map mnemonic.MulDiv (mul_div_named text))
    (or_else (option_map mnemonic.Alone (alone_named text))
    (or_else (plain_named text) (directive_named text))))))))))
