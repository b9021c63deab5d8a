-- Where runs end, and that a way to an end is the whole run.
use Rattle.std.specs.Prelude.{Option, is_some, slice_get, IsTrue}
use Rattle.std.proofs.Common.{◌≡◌, ℕ, false, List, Some, None, refl, ap, ◌∙◌}
use Rattle.sl_model.specs.declared.instr.LoadOp.{LoadOp}
use Rattle.sl_model.specs.declared.instr.StoreOp.{StoreOp}
use Rattle.sl_model.specs.declared.instr.Instr.{Instr}
use Rattle.sl_model.specs.declared.instr.Instr.TheVariants.{Load, Store, Ecall}
use Rattle.sl_model.specs.declared.traps.TheConstants.{LOAD_FAULT, STORE_FAULT}
use Rattle.sl_model.specs.Pages.{Pages, load_at, store_at}
use Rattle.sl_model.specs.Arithmetic.{word_add, immediate_word, load_width, store_width}
use Rattle.sl_model.specs.State.{State, register}
use Rattle.sl_model.specs.Step.{Called, Trapped, step, execute, loaded, stored, address as step_address}
use Rattle.sl_model.specs.Runs.{ends_at, is_end, EndsAfter}
use Rattle.sl_model.proofs.Memory.{is_some-store_at}
use Rattle.word_blocks.specs.Code.{CodeStands}
use Rattle.word_blocks.specs.Configuration.{Configuration, address, IsAt}
use Rattle.word_blocks.specs.Ways.{Promise, Comes}
use Rattle.word_blocks.proofs.Instructions.{step-execute}
use Rattle.word_blocks.proofs.Ways.{Comes-steps, Comes-keeps}

module _ (start : ℕ) (code : List Instr) (c : Configuration) (s : State) (stands : CodeStands start code c.pages) (is : IsAt start c s) where
  pub step-ecall : slice_get code c.place ≡ Some Ecall → step s ≡ Called
  unfolding execute
  step-ecall here = step-execute start code Ecall c s stands here is

  -- a load of bytes of which one is not mapped
  pub step-load_fault : (op : LoadOp) (rd rs1 offset : ℕ) → slice_get code c.place ≡ Some (Load op rd rs1 offset) → load_at c.pages (address c.registers rs1 offset) (load_width op) ≡ None
      → step s ≡ Trapped LOAD_FAULT
  unfolding execute
  step-load_fault op rd rs1 offset here none =
      let at : step_address s rs1 offset ≡ address c.registers rs1 offset = ap (λ a. word_add a (immediate_word offset)) (is.registers rs1) in
      let fails : load_at s.pages (step_address s rs1 offset) (load_width op) ≡ None = rw (at, is.pages) none in
      step-execute start code (Load op rd rs1 offset) c s stands here is ∙ ap (loaded s op rd) fails

  -- a store to bytes of which one is not mapped
  pub step-store_fault : (op : StoreOp) (rs1 rs2 offset : ℕ) → slice_get code c.place ≡ Some (Store op rs1 rs2 offset) → load_at c.pages (address c.registers rs1 offset) (store_width op) ≡ None
      → step s ≡ Trapped STORE_FAULT
  unfolding execute
  step-store_fault op rs1 rs2 offset here none =
      let at : step_address s rs1 offset ≡ address c.registers rs1 offset = ap (λ a. word_add a (immediate_word offset)) (is.registers rs1) in
      let fails : store_at s.pages (step_address s rs1 offset) (store_width op) (register s rs2) ≡ None =
      rw (at, is.pages) (none_stored (store_at c.pages (address c.registers rs1 offset) (store_width op) (register s rs2)) (is_some-store_at c.pages (address c.registers rs1 offset) (store_width op) (register s rs2) ∙ ap is_some none)) in
      step-execute start code (Store op rs1 rs2 offset) c s stands here is ∙ ap (stored s) fails
    where
      none_stored : (o : Option Pages) → is_some o ≡ false → o ≡ None
      none_stored None fails = refl
      none_stored (Some m) fails = absurd cc

-- a way to a state at which a run ends is the run
pub EndsAfter-comes : (p : Promise) (n : ℕ) (s t : State) → Comes p n s t → IsTrue (is_end t) → EndsAfter n s
EndsAfter-comes p n s t way ends = record {
  end = rw (Comes-steps p n s t way) ends;
  first = λ k below. ap ends_at (Comes-keeps p n s t way k below).1;
}
