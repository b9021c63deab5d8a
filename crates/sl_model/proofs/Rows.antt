-- The definitions on rows that were worked by hand from the RISC-V manual.
use Rattle.std.proofs.Common.{◌≡◌, ℕ, List, [], ◌∷◌, replicate, Some, None, refl}
use Rattle.std.specs.Ordering.{nat_cmp}
use Rattle.std.specs.FinMap.{empty, from_sorted, get, get-empty, get-from_sorted}
use Rattle.std.specs.Prelude.{slice_set, pos, negsuc}
use Rattle.sl_model.specs.declared.instr.BranchOp.TheVariants.{Beq, Bne}
use Rattle.sl_model.specs.declared.instr.LoadOp.TheVariants.{Lb, Lw}
use Rattle.sl_model.specs.declared.instr.ImmediateOp.TheVariants.{Addi, Sltiu}
use Rattle.sl_model.specs.declared.instr.ShiftOp.TheVariants.{Srai}
use Rattle.sl_model.specs.declared.instr.RegisterOp.TheVariants.{Sub, Sll, Slt, Sra}
use Rattle.sl_model.specs.declared.instr.MulDivOp.TheVariants.{Mul, Mulh, Mulhsu, Mulhu, Div, Rem}
use Rattle.sl_model.specs.declared.instr.Instr.TheVariants.{Lui, Jal, Jalr, Branch, Load, OpImm, Shift, Ecall, Ebreak}
use Rattle.sl_model.specs.declared.run_state.RunState.TheVariants.{Running}
use Rattle.sl_model.specs.Pages.{Pages, byte_at, bytes_at, load_at}
use Rattle.sl_model.specs.Words.{meaning, branch_meaning, branch_op, immediate_meaning, shift_op, immediate_op, fence_meaning, system_meaning}
use Rattle.sl_model.specs.Arithmetic.{word_of, mul_div_value, register_value, shift_value, immediate_value, immediate_word, branch_word, jump_word, load_value}
use Rattle.sl_model.specs.State.{State}
use Rattle.sl_model.specs.Step.{Stepped, Called, Trapped, execute, step}

-- the least number by -1, and division by zero
least_by_minus_one : mul_div_value Div 0x80000000 0xffffffff ≡ 0x80000000
least_by_minus_one = refl

rest_of_least : mul_div_value Rem 0x80000000 0xffffffff ≡ 0
rest_of_least = refl

by_zero : mul_div_value Div 5 0 ≡ 0xffffffff
by_zero = refl

rest_by_zero : mul_div_value Rem 0x80000000 0 ≡ 0x80000000
rest_by_zero = refl

-- -7 by 2 is -3, and leaves -1
towards_zero : mul_div_value Div 0xfffffff9 2 ≡ 0xfffffffd
towards_zero = refl

sign_of_dividend : mul_div_value Rem 0xfffffff9 2 ≡ 0xffffffff
sign_of_dividend = refl

-- -1 times 2 ^ 32 - 1 is -2 ^ 32 + 1
mixed_of_ones : mul_div_value Mulhsu 0xffffffff 0xffffffff ≡ 0xffffffff
mixed_of_ones = refl

high_of_ones : mul_div_value Mulh 0xffffffff 0xffffffff ≡ 0
high_of_ones = refl

high_of_least : mul_div_value Mulh 0x80000000 0x80000000 ≡ 0x40000000
high_of_least = refl

unsigned_of_ones : mul_div_value Mulhu 0xffffffff 0xffffffff ≡ 0xfffffffe
unsigned_of_ones = refl

low_of_ones : mul_div_value Mul 0xffffffff 0xffffffff ≡ 1
low_of_ones = refl

-- shifts
keeps_sign : shift_value Srai 0x80000000 31 ≡ 0xffffffff
keeps_sign = refl

five_bits : register_value Sll 1 33 ≡ 2
five_bits = refl

five_bits_right : register_value Sra 0x80000000 36 ≡ 0xf8000000
five_bits_right = refl

ones_right : register_value Sra 0xffffffff 1 ≡ 0xffffffff
ones_right = refl

-- whole numbers as words
above_words : word_of (pos 0x100000005) ≡ 5
above_words = refl

minus_one_word : word_of (negsuc 0) ≡ 0xffffffff
minus_one_word = refl

below_words : word_of (negsuc 0x100000000) ≡ 0xffffffff
below_words = refl

wraps : register_value Sub 0 1 ≡ 0xffffffff
wraps = refl

signed_less : register_value Slt 0x80000000 0x7fffffff ≡ 1
signed_less = refl

-- the immediate of SLTIU is extended by its sign and compared without one
compares_unsigned : immediate_value Sltiu 5 (immediate_word 0xfff) ≡ 1
compares_unsigned = refl

minus_one : immediate_word 0xfff ≡ 0xffffffff
minus_one = refl

greatest_immediate : immediate_word 0x7ff ≡ 2047
greatest_immediate = refl

back_by_eight : branch_word 0xffc ≡ 0xfffffff8
back_by_eight = refl

furthest_back : jump_word 0x80000 ≡ 0xfff00000
furthest_back = refl

negative_byte : load_value Lb 0x80 ≡ 0xffffff80
negative_byte = refl

-- words: li a0, 5; li a7, 93; ecall; and neighbors that mean nothing
li_a0_5 : meaning 0x00500513 ≡ Some (OpImm Addi 10 0 5)
unfolding meaning immediate_meaning immediate_op
li_a0_5 = refl

srai_is_no_srli : meaning 0x4010d093 ≡ Some (Shift Srai 1 1 1)
unfolding meaning immediate_meaning shift_op
srai_is_no_srli = refl

jal_back : meaning 0xff9ff06f ≡ Some (Jal 0 0xffffc)
unfolding meaning
jal_back = refl

beq_back : meaning 0xfe000ee3 ≡ Some (Branch Beq 0 0 0xffe)
unfolding meaning branch_meaning branch_op
beq_back = refl

fence_i : meaning 0x0000100f ≡ None
unfolding meaning fence_meaning
fence_i = refl

zeros : meaning 0 ≡ None
unfolding meaning
zeros = refl

ones : meaning 0xffffffff ≡ None
unfolding meaning
ones = refl

breakpoint : meaning 0x00100073 ≡ Some Ebreak
unfolding meaning system_meaning
breakpoint = refl

-- a machine with nothing mapped, at 0x10000
abbrev bare : List ℕ → State
bare x = record { pc = 0x10000; x = x; pages = empty; brk = 0; brk_end = 0; next_call = 0; status = Running; count = 7; layout = record { brk_start = 0; heap_limit = 0 } }

abbrev zeros_32 : List ℕ
zeros_32 = replicate 32 0

unmapped : step (bare zeros_32) ≡ Trapped 1
unfolding step load_at bytes_at byte_at
unmapped = rw (get-empty nat_cmp 0x10) refl

-- a taken branch to pc + 2 traps, and one that isn't taken goes on
misaligned_branch : execute (bare zeros_32) (Branch Beq 0 0 1) ≡ Trapped 0
unfolding execute
misaligned_branch = refl

untaken_branch : execute (bare zeros_32) (Branch Bne 0 0 1) ≡ Stepped (record (bare zeros_32) { pc = 0x10004; count = 8 })
unfolding execute
untaken_branch = refl

-- JALR reads its register before it writes it, and clears bit 0
jalr_same : execute (bare (slice_set zeros_32 1 0x20000)) (Jalr 1 1 5) ≡ Stepped (record (bare (slice_set zeros_32 1 0x10004)) { pc = 0x20004; count = 8 })
unfolding execute
jalr_same = refl

x0_stays : execute (bare zeros_32) (Lui 0 1) ≡ Stepped (record (bare zeros_32) { pc = 0x10004; count = 8 })
unfolding execute
x0_stays = refl

no_load : execute (bare zeros_32) (Load Lw 1 0 0xffe) ≡ Trapped 5
unfolding execute load_at bytes_at byte_at
no_load = rw (get-empty nat_cmp 0xfffff) refl

abbrev page_of_ones : List ℕ
page_of_ones = replicate 4096 1

-- the last page of the address space
abbrev pages_of_it : List (ℕ × List ℕ)
pages_of_it = (0xfffff, page_of_ones) ∷ []

abbrev last_page : Pages
last_page = from_sorted pages_of_it

last_is_mapped : get last_page 0xfffff ≡ Some page_of_ones
last_is_mapped = get-from_sorted nat_cmp pages_of_it 0xfffff tt

-- a byte from 2 ^ 32 on is mapped nowhere, and addresses do not wrap within an access
across_the_end : load_at last_page 0xfffffffe 4 ≡ None
unfolding load_at bytes_at byte_at
across_the_end = rw (last_is_mapped, get-from_sorted nat_cmp pages_of_it 0x100000 tt) refl

up_to_the_end : load_at last_page 0xfffffffc 4 ≡ Some 0x01010101
unfolding load_at bytes_at byte_at
up_to_the_end = rw last_is_mapped refl

exits : execute (bare zeros_32) Ecall ≡ Called
unfolding execute
exits = refl
