-- Rows that were worked by hand: what small blocks come to.
use Rattle.std.specs.Prelude.{IsSome}
use Rattle.std.specs.FinMap.{empty}
use Rattle.std.specs.Option.{option_map}
use Rattle.std.proofs.Common.{◌≡◌, ℕ, ◌+◌, ◌^◌, ◌<◌, [], ◌∷◌, Some, None, refl, arith}
use Rattle.sl_model.specs.declared.instr.ImmediateOp.TheVariants.{Addi}
use Rattle.sl_model.specs.declared.instr.ShiftOp.TheVariants.{Slli}
use Rattle.sl_model.specs.declared.instr.RegisterOp.TheVariants.{Sub}
use Rattle.sl_model.specs.declared.instr.LoadOp.TheVariants.{Lw}
use Rattle.sl_model.specs.declared.instr.StoreOp.TheVariants.{Sw}
use Rattle.sl_model.specs.declared.instr.Instr.TheVariants.{Auipc, Jal, Load, Store, OpImm, Shift, Op}
use Rattle.sl_model.specs.Pages.{Pages, ArePages, load_at}
use Rattle.sl_model.specs.Stores.{IsStored}
use Rattle.word_blocks.specs.Configuration.{Registers, at_place, read, does, exec}
use Rattle.word_blocks.specs.Jumps.{jump_between}
use Rattle.word_blocks.specs.Ways.{Promise}
use Rattle.word_blocks.proofs.Bytes.{load_at-word}
use Rattle.word_blocks.proofs.Blocks.{Does}

-- ---- what blocks do: li a0, 7; slli a1, a0, 2; sub a2, a1, a0

three_sevens : option_map (λ c. read c.registers 12) (exec 0xC0000000 (OpImm Addi 10 0 7 ∷ Shift Slli 11 10 2 ∷ Op Sub 12 11 10 ∷ []) (at_place 5 (λ r. 0) empty)) ≡ Some 21
unfolding exec does
three_sevens = refl

-- auipc a0, 1 at the sixth word of the code
place_known : option_map (λ c. read c.registers 10) (exec 0xC0000000 (Auipc 10 1 ∷ []) (at_place 5 (λ r. 0) empty)) ≡ Some 0xC0001014
unfolding exec does
place_known = refl

-- a write of x0 is lost
zero_stays : option_map (λ c. read c.registers 0) (exec 0xC0000000 (OpImm Addi 0 0 7 ∷ []) (at_place 5 (λ r. 0) empty)) ≡ Some 0
unfolding exec does
zero_stays = refl

-- nothing is done at a jump, nor at a load of bytes that are not mapped
none_at_jump : exec 0xC0000000 (Jal 0 2 ∷ []) (at_place 5 (λ r. 0) empty) ≡ None
unfolding exec does
none_at_jump = refl

-- ---- offsets: one word back, and two words on

one_back : jump_between 7 6 ≡ 0xFFFFE
one_back = refl

two_on : jump_between 7 9 ≡ 4
two_on = refl

-- ---- a block with memory: sw a0, 0(sp); addi sp, sp, 4; lw a1, -4(sp)

pushed : (p : Promise) (place top value : ℕ) (x : Registers) (m : Pages) → x 2 ≡ top → top + 4 < 2 ^ 32 → x 10 ≡ value → value < 2 ^ 32
    → p.may_store m (top, 4) → IsSome (load_at m top 4) → ((m' : Pages) → IsStored top 4 (x 10) m m' → ArePages m' → p.holds m')
    → Does p place (Store Sw 2 10 0 ∷ OpImm Addi 2 2 4 ∷ Load Lw 11 2 0xFFC ∷ []) x m (λ y m'. (y 2 ≡ top + 4) × (y 11 ≡ value) × (y 10 ≡ value))
pushed p place top value x m top_is fits value_is small may mapped holds =
    (top, omega arith, may, mapped, λ m' is are. (holds m' is are, (top, omega arith, x 10, load_at-word top (x 10) m m' is (omega arith), (omega arith, value_is, value_is))))
