-- Operators, and the test for 0.
use Rattle.std.specs.Prelude.{Bool, ◌==◌}
use Rattle.std.proofs.Common.{◌≡◌, ℕ, ◌+◌, ◌≤◌, true, false, [], ◌∷◌, length, refl, subst, arith}
use Rattle.sl_model.specs.declared.instr.BranchOp.{BranchOp}
use Rattle.sl_model.specs.declared.instr.BranchOp.TheVariants.{Beq}
use Rattle.sl_model.specs.Arithmetic.{truth, is_taken, register_value, mul_div_value}
use Rattle.tracer_lang.specs.declared.tree.Operator.{Operator}
use Rattle.tracer_lang.specs.declared.tree.Operator.TheVariants.{Register, MulDiv, Branch, Exchanged}
use Rattle.tracer_lang.specs.Meaning.{Goes, operator_value}
use Rattle.word_blocks.specs.Configuration.{Registers, Configuration, read, write, at_place}
use Rattle.word_blocks.specs.Code.{HasBlock}
use Rattle.word_blocks.specs.Ways.{Leads}
use Rattle.word_blocks.proofs.Blocks.{Leads-block}
use Rattle.word_blocks.proofs.Jumps.{Leads-taken, Leads-passed}
use Rattle.tracer_compile.specs.declared.roles.Role.{Role}
use Rattle.tracer_compile.specs.declared.roles.Role.TheVariants.{Zero, First, Value, Second}
use Rattle.tracer_compile.specs.Roles.{number_of}
use Rattle.tracer_compile.specs.Blocks.{add_number, truth_block, operator_block}
use Rattle.tracer_compile.proofs.Relation.{World, promise, Body, Reaches, holds_value, Runs}
use Rattle.tracer_compile.proofs.Standing.{Kept-none}
use Rattle.tracer_compile.proofs.Running.{Roles-kept, Leads-straight, HasBlock-inside}

module _ (w : World) (b : Body) (depth : ℕ) where
  -- 1 where the condition holds, else 0
  pub truth-runs : (op : BranchOp) (rs1 rs2 : Role) (first second : ℕ)
      → Runs w b (λ x. (v : ℕ) → (read (write x 6 v) (number_of rs1) ≡ first) × (read (write x 6 v) (number_of rs2) ≡ second)) holds_value depth (truth_block op rs1 rs2) (Goes (truth (is_taken op first second)))
  unfolding truth_block
  truth-runs op rs1 rs2 first second place top limit after now x m has given room roles stands enough =
      let one : Registers = write x 6 1 in
      let same : is_taken op (read one (number_of rs1)) (read one (number_of rs2)) ≡ is_taken op first second = rw ((given 1).0, (given 1).1) refl in
      Leads-block (promise w) (add_number Second Zero 1 ∷ []) place limit x m (λ y n. (y ≡ one) × (n ≡ m)) _ stands.holds (has.0, tt) (omega (arith, enough)) (refl, refl)
      (λ left y n counted holds reached. rw (reached.0, reached.1) (chosen (is_taken op first second) same left counted))
    where
      goal : ℕ → ℕ → Configuration → Type 0
      goal value = Reaches w b holds_value (place + 4) top after m now.units (Goes value now)

      chosen : (t : Bool) → is_taken op (read (write x 6 1) (number_of rs1)) (read (write x 6 1) (number_of rs2)) ≡ t → (left : ℕ) → left + 1 ≡ limit → Leads (promise w) left (at_place (place + 1) (write x 6 1) m) (goal (truth t))
      chosen true taken left counted =
          let inside : place + 4 ≤ length w.code = HasBlock-inside w.code place (truth_block op rs1 rs2) has (omega arith) in
          let there : place + 1 + 1 + 1 ≡ place + 1 + 2 = omega arith in
          let last : HasBlock w.code (place + 1 + 2) (add_number Value Second 0 ∷ []) = subst (λ q. HasBlock w.code q (add_number Value Second 0 ∷ [])) there has.1.1.1 in
          Leads-taken (promise w) (place + 1) left (write x 6 1) m (goal 1) stands.holds (omega (arith, enough)) op (number_of rs1) (number_of rs2) 2 has.1.0 (omega arith) (omega arith) taken
          (λ rest less. Leads-straight w b holds_value (add_number Value Second 0 ∷ []) (place + 1 + 2) (place + 4) top after 1 rest (write x 6 1) m m now.units now (omega arith) stands.holds last (omega arith) (omega (arith, enough))
          (Roles-kept b top now x _ roles (refl, refl, refl, refl, refl), stands, refl, Kept-none b top m))
      chosen false passed left counted =
          let inside : place + 4 ≤ length w.code = HasBlock-inside w.code place (truth_block op rs1 rs2) has (omega arith) in
          Leads-passed (promise w) (place + 1) left (write x 6 1) m (goal 0) stands.holds (omega (arith, enough)) op (number_of rs1) (number_of rs2) 2 has.1.0 (omega arith) (omega arith) passed
          (λ rest less. Leads-straight w b holds_value (add_number Second Zero 0 ∷ add_number Value Second 0 ∷ []) (place + 1 + 1) (place + 4) top after 0 rest (write x 6 1) m m now.units now (omega arith) stands.holds has.1.1 (omega arith) (omega (arith, enough))
          (Roles-kept b top now x _ roles (refl, refl, refl, refl, refl), stands, refl, Kept-none b top m))

  -- what an operator makes of x5 and x10
  pub operator-runs : (operator : Operator) (first second : ℕ) → Runs w b (λ x. (x 5 ≡ first) × (x 10 ≡ second)) holds_value depth (operator_block operator) (Goes (operator_value operator first second))
  unfolding operator_block
  operator-runs (Register op) first second place top limit after now x m has given room roles stands enough =
      Leads-straight w b holds_value (operator_block (Register op)) place (place + 1) top after (register_value op first second) limit x m m now.units now (omega arith) stands.holds has refl enough
      (Roles-kept b top now x _ roles (refl, refl, refl, refl, refl), stands, rw (given.0, given.1) refl, Kept-none b top m)
  operator-runs (MulDiv op) first second place top limit after now x m has given room roles stands enough =
      Leads-straight w b holds_value (operator_block (MulDiv op)) place (place + 1) top after (mul_div_value op first second) limit x m m now.units now (omega arith) stands.holds has refl enough
      (Roles-kept b top now x _ roles (refl, refl, refl, refl, refl), stands, rw (given.0, given.1) refl, Kept-none b top m)
  operator-runs (Branch op) first second place top limit after now x m has given room roles stands enough =
      truth-runs op First Value first second place top limit after now x m has (λ v. given) room roles stands enough
  operator-runs (Exchanged op) first second place top limit after now x m has given room roles stands enough =
      truth-runs op Value First second first place top limit after now x m has (λ v. (given.1, given.0)) room roles stands enough

  -- 1 where x10 is 0, else 0
  pub is_zero-runs : (value : ℕ) → Runs w b (holds_value value) holds_value depth (truth_block Beq Value Zero) (Goes (truth (value == 0)))
  is_zero-runs value place top limit after now x m has given room roles stands enough =
      truth-runs Beq Value Zero value 0 place top limit after now x m has (λ v. (given, refl)) room roles stands enough
