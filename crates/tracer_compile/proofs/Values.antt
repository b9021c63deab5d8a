-- Expressions whose value is there: numbers, locals, copied words.
use Rattle.std.specs.Prelude.{slice_index, slice_index_or}
use Rattle.std.proofs.Common.{◌≡◌, ℕ, ◌+◌, ◌-◌, ◌*◌, ◌/◌, ◌%◌, ◌^◌, ◌<◌, ◌≤◌, [], ◌∷◌, length, refl, subst, arith}
use Rattle.std.proofs.Math.ListN.{get_or-append}
use Rattle.std.proofs.lemmas.Bool.Decides.{nat_tests}
use Rattle.std.proofs.lemmas.List.{get_or-append_right}
use Rattle.sl_model.specs.declared.bank.TheConstants.{FRAMES_START, FRAMES_SIZE}
use Rattle.sl_model.specs.Bank.{copied_words}
use Rattle.sl_model.specs.Arithmetic.{word_add, immediate_word, upper_word}
use Rattle.sl_model.specs.State.{register}
use Rattle.tracer_lang.specs.Meaning.{Goes}
use Rattle.tracer_compile.specs.declared.roles.Role.TheVariants.{Value}
use Rattle.tracer_compile.specs.Blocks.{constant, copied_block, local_block}
use Rattle.tracer_compile.proofs.Relation.{World, Body, any, holds_value, Runs}
use Rattle.tracer_compile.proofs.Standing.{Kept-none}
use Rattle.tracer_compile.proofs.Running.{Roles-kept, Leads-straight}

-- a number in its two parts
pub two_parts : (n : ℕ) → n < 2 ^ 32 → word_add (upper_word ((n / 2 ^ 12 + n / 2 ^ 11 % 2) % 2 ^ 20)) (immediate_word (n % 2 ^ 12)) ≡ n
two_parts n small = grind (arith, nat_tests)

-- a small number
pub number_added : (n : ℕ) → n < 2 ^ 11 → word_add 0 (immediate_word (n % 2 ^ 12)) ≡ n
number_added n small = grind (arith, nat_tests)

-- an address behind a register's
pub offset_added : (held base offset : ℕ) → held ≡ base → offset < 2 ^ 11 → base + offset < 2 ^ 32 → word_add held (immediate_word (offset % 2 ^ 12)) ≡ base + offset
offset_added held base offset is small fits = grind (arith, nat_tests)

-- an address before it
pub offset_taken : (held base offset : ℕ) → held ≡ base + offset → 0 < offset → offset < 2 ^ 11 → base + offset < 2 ^ 32 → word_add held (immediate_word ((2 ^ 12 - offset % 2 ^ 12) % 2 ^ 12)) ≡ base
offset_taken held base offset is some small fits = grind (arith, nat_tests)

module _ (w : World) (b : Body) (depth : ℕ) where
  pub number-runs : (n : ℕ) → n < 2 ^ 32 → Runs w b any holds_value depth (constant Value n) (Goes n)
  unfolding constant
  number-runs n small place top limit after now x m has is_given room roles stands enough =
      Leads-straight w b holds_value (constant Value n) place (place + 2) top after n limit x m m now.units now (omega arith) stands.holds has refl enough
      (Roles-kept b top now x _ roles (refl, refl, refl, refl, refl), stands, two_parts n small, Kept-none b top m)

  pub local-runs : (index : ℕ) → index < b.locals → Runs w b any holds_value depth (local_block index) (λ now. Goes (slice_index now.locals index) now)
  unfolding local_block
  local-runs index below place top limit after now x m has is_given room roles stands enough =
      let few : b.locals ≤ 16 = stands.body.few_locals in
      let within : b.frame + 4608 * (b.calls + 1) ≤ FRAMES_START + FRAMES_SIZE = stands.body.room in
      Leads-straight w b holds_value (local_block index) place (place + 1) top after (slice_index now.locals index) limit x m m now.units now (omega arith) stands.holds has refl enough (
        b.frame + 4 * index,
        offset_added (x 8) b.frame (4 * index) roles.frame_is (omega arith) (omega arith),
        slice_index now.locals index,
        stands.locals index below,
        (Roles-kept b top now x _ roles (refl, refl, refl, refl, refl), stands, refl, Kept-none b top m),
      )

  -- one of the copied words
  copied-runs : (index : ℕ) → index < 37 → Runs w b any holds_value depth (copied_block index) (Goes (slice_index_or (copied_words w.s) index 0))
  unfolding copied_block
  copied-runs index below place top limit after now x m has is_given room roles stands enough =
      Leads-straight w b holds_value (copied_block index) place (place + 2) top after (slice_index_or (copied_words w.s) index 0) limit x m m now.units now (omega arith) stands.holds has refl enough (
        FRAMES_START + 4 * index,
        offset_added FRAMES_START FRAMES_START (4 * index) refl (omega arith) (omega arith),
        slice_index_or (copied_words w.s) index 0,
        stands.holds.copies index below,
        (Roles-kept b top now x _ roles (refl, refl, refl, refl, refl), stands, refl, Kept-none b top m),
      )

  register_copied : (index : ℕ) → index < 32 → slice_index_or (copied_words w.s) index 0 ≡ register w.s index
  register_copied index below =
      let count : length w.s.x ≡ 32 = w.observed.state.registers in
      get_or-append w.s.x _ 0 index (omega arith)

  pc_copied : slice_index_or (copied_words w.s) 32 0 ≡ w.s.pc
  pc_copied =
      let count : length w.s.x ≡ 32 = w.observed.state.registers in
      get_or-append_right w.s.x (w.s.pc ∷ w.s.layout.brk_start ∷ w.s.layout.heap_limit ∷ w.s.brk ∷ w.s.brk_end ∷ []) 32 32 0 count (omega arith)

  pub register-runs : (index : ℕ) → index < 32 → Runs w b any holds_value depth (copied_block index) (Goes (register w.s index))
  register-runs index below = subst (λ n. Runs w b any holds_value depth (copied_block index) (Goes n)) (register_copied index below) (copied-runs index (omega arith))

  pub pc-runs : Runs w b any holds_value depth (copied_block 32) (Goes w.s.pc)
  pc-runs = subst (λ n. Runs w b any holds_value depth (copied_block 32) (Goes n)) pc_copied (copied-runs 32 (omega arith))
