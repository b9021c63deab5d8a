-- Where jumps and branches lead.
use Rattle.std.specs.Prelude.{if◌then◌else◌, slice_get, slice_index}
use Rattle.std.proofs.Common.{◌≡◌, ℕ, ◌+◌, ◌*◌, ◌%◌, ◌^◌, ◌<◌, ◌≤◌, Bool, true, false, List, length, Some, None, refl, ap, ◌∙◌, arith}
use Rattle.std.proofs.lemmas.Bool.Decides.{nat_tests}
use Rattle.std.proofs.lemmas.Option.{slice_get_within}
use Rattle.sl_model.specs.declared.instr.BranchOp.{BranchOp}
use Rattle.sl_model.specs.declared.instr.Instr.{Instr}
use Rattle.sl_model.specs.declared.instr.Instr.TheVariants.{Jal, Jalr, Branch}
use Rattle.sl_model.specs.Pages.{Pages}
use Rattle.sl_model.specs.Words.{HasBits}
use Rattle.sl_model.specs.Arithmetic.{word_add, immediate_word, branch_word, jump_word, is_taken}
use Rattle.sl_model.specs.NextStore.{store_by}
use Rattle.sl_model.specs.State.{State}
use Rattle.sl_model.specs.Step.{Stepped, step, execute, put_register, gone_to, after, even, jump, branch, pass, address as step_address}
use Rattle.word_blocks.specs.Code.{CodeStands}
use Rattle.word_blocks.specs.Configuration.{Registers, read, write, Configuration, at_place, address, IsAt}
use Rattle.word_blocks.specs.Jumps.{jump_between, words_further}
use Rattle.word_blocks.specs.Ways.{Promise, Leads}
use Rattle.word_blocks.proofs.Instructions.{step-execute, next_store-at, bits_of, read-write, Follows, IsAt-next}
use Rattle.word_blocks.proofs.Ways.{Leads-step}

-- ---- offsets

pub jump_word-between : (start from to : ℕ) → to < from + 2 ^ 18 → from ≤ to + 2 ^ 18 → start + 4 * from < 2 ^ 32 → start + 4 * to < 2 ^ 32
    → word_add (start + 4 * from) (jump_word (jump_between from to)) ≡ start + 4 * to
jump_word-between start from to near_after near_before from_fits to_fits = grind (arith, nat_tests)

pub branch_word-further : (start from count : ℕ) → count < 2 ^ 10 → start + 4 * (from + count) < 2 ^ 32
    → word_add (start + 4 * from) (branch_word (words_further count)) ≡ start + 4 * (from + count)
branch_word-further start from count near fits = grind (arith, nat_tests)

-- ---- steps

module _ (start : ℕ) (code : List Instr) (c : Configuration) (s : State) (stands : CodeStands start code c.pages) (is : IsAt start c s) where
  -- the next word and the others up to a place lie in memory
  within : (to : ℕ) → to ≤ length code → start + 4 * to < 2 ^ 32
  within to inside = omega (arith, stands.within)

  link : c.place < length code → after s ≡ start + 4 * (c.place + 1)
  link inside = omega (arith, is.place, stands.within)

  jump-leads : (rd to target : ℕ) → target ≡ start + 4 * to → jump s rd target ≡ Stepped (gone_to (put_register s rd (after s)) (start + 4 * to))
  jump-leads rd to target there =
      let aligned : (start + 4 * to) % 4 ≡ 0 = omega (arith, stands.aligned) in
      rw (there, aligned) refl

  branch-leads : (to target : ℕ) → target ≡ start + 4 * to → branch s target ≡ Stepped (gone_to s (start + 4 * to))
  branch-leads to target there =
      let aligned : (start + 4 * to) % 4 ≡ 0 = omega (arith, stands.aligned) in
      rw (there, aligned) refl

  -- a jump that leaves the next place in a register
  jumped : (instr : Instr) (rd to target : ℕ) → slice_get code c.place ≡ Some instr → rd < 32 → execute s instr ≡ jump s rd target → target ≡ start + 4 * to
      → (t : State) × (step s ≡ Stepped t) × IsAt start (at_place to (write c.registers rd (start + 4 * (c.place + 1))) c.pages) t
  jumped instr rd to target here fits jumps there =
      let inside : c.place < length code = slice_get_within code c.place instr here in
      let t : State = gone_to (put_register s rd (after s)) (start + 4 * to) in
      let led : step s ≡ Stepped t = step-execute start code instr c s stands here is ∙ jumps ∙ jump-leads rd to target there in
      let follows : Follows start (at_place to (write c.registers rd (start + 4 * (c.place + 1))) c.pages) t = record {
        place = refl;
        registers = λ r. rw (← link inside) (read-write s.x c.registers rd (after s) r (rw is.count fits) is.registers);
        pages = is.pages;
      } in
      (t, led, IsAt-next start c _ s t is (within c.place (omega (arith, inside))) led follows)

  word_here : (instr : Instr) → slice_get code c.place ≡ Some instr → (word : ℕ) × HasBits word instr
  word_here instr here = ((stands.words c.place instr here).0, bits_of _ instr (stands.words c.place instr here).2)

  pub step-jal : (rd to : ℕ) → slice_get code c.place ≡ Some (Jal rd (jump_between c.place to)) → to ≤ length code → to < c.place + 2 ^ 18 → c.place ≤ to + 2 ^ 18
      → (t : State) × (step s ≡ Stepped t) × IsAt start (at_place to (write c.registers rd (start + 4 * (c.place + 1))) c.pages) t
  unfolding execute
  step-jal rd to here inside near_after near_before =
      let has = word_here (Jal rd (jump_between c.place to)) here in
      let there : word_add s.pc (jump_word (jump_between c.place to)) ≡ start + 4 * to =
      ap (λ pc. word_add pc (jump_word (jump_between c.place to))) is.place
      ∙ jump_word-between start c.place to near_after near_before (within c.place (omega (arith, slice_get_within code c.place _ here))) (within to inside) in
      jumped (Jal rd (jump_between c.place to)) rd to (word_add s.pc (jump_word (jump_between c.place to))) here (omega (arith, has.1.1)) refl there

  pub step-jalr : (rd rs1 offset to : ℕ) → slice_get code c.place ≡ Some (Jalr rd rs1 offset) → address c.registers rs1 offset ≡ start + 4 * to → to ≤ length code
      → (t : State) × (step s ≡ Stepped t) × IsAt start (at_place to (write c.registers rd (start + 4 * (c.place + 1))) c.pages) t
  unfolding execute
  step-jalr rd rs1 offset to here at inside =
      let has = word_here (Jalr rd rs1 offset) here in
      let added : step_address s rs1 offset ≡ start + 4 * to = ap (λ a. word_add a (immediate_word offset)) (is.registers rs1) ∙ at in
      let there : even (step_address s rs1 offset) ≡ start + 4 * to = omega (arith, added, stands.aligned) in
      jumped (Jalr rd rs1 offset) rd to (even (step_address s rs1 offset)) here (omega (arith, has.1.2)) refl there

  -- where a branch leads
  abbrev pub branch_place : BranchOp → ℕ → ℕ → ℕ → ℕ
  branch_place op rs1 rs2 count = if is_taken op (read c.registers rs1) (read c.registers rs2) then c.place + count else c.place + 1

  chosen : (b : Bool) (count : ℕ) → count < 2 ^ 10 → c.place + count ≤ length code → c.place < length code
      → (if b then branch s (word_add s.pc (branch_word (words_further count))) else pass s) ≡ Stepped (gone_to s (start + 4 * (if b then c.place + count else c.place + 1)))
  chosen true count near inside here =
      branch-leads (c.place + count) (word_add s.pc (branch_word (words_further count)))
      (ap (λ pc. word_add pc (branch_word (words_further count))) is.place ∙ branch_word-further start c.place count near (within (c.place + count) inside))
  chosen false count near inside here = ap (λ pc. Stepped (gone_to s pc)) (link here)

  pub step-branch : (op : BranchOp) (rs1 rs2 count : ℕ) → slice_get code c.place ≡ Some (Branch op rs1 rs2 (words_further count)) → count < 2 ^ 10 → c.place + count ≤ length code
      → (t : State) × (step s ≡ Stepped t) × IsAt start (at_place (branch_place op rs1 rs2 count) c.registers c.pages) t
  unfolding execute
  step-branch op rs1 rs2 count here near inside =
      let below : c.place < length code = slice_get_within code c.place _ here in
      let t : State = gone_to s (start + 4 * branch_place op rs1 rs2 count) in
      let same : is_taken op (slice_index s.x rs1) (slice_index s.x rs2) ≡ is_taken op (read c.registers rs1) (read c.registers rs2) = rw (is.registers rs1, is.registers rs2) in
      let goes : execute s (Branch op rs1 rs2 (words_further count)) ≡ Stepped t = rw same (chosen (is_taken op (read c.registers rs1) (read c.registers rs2)) count near inside below) in
      let led : step s ≡ Stepped t = step-execute start code (Branch op rs1 rs2 (words_further count)) c s stands here is ∙ goes in
      let follows : Follows start (at_place (branch_place op rs1 rs2 count) c.registers c.pages) t = record { place = refl; registers = is.registers; pages = is.pages } in
      (t, led, IsAt-next start c _ s t is (within c.place (omega (arith, below))) led follows)

-- ---- as the beginning of a way

module _ (p : Promise) (place limit : ℕ) (x : Registers) (m : Pages) (goal : ℕ → Configuration → Type 0) (holds : p.holds m) (enough : 1 ≤ limit) where
  -- an instruction that stores nothing, and leads from here to another place
  pub Leads-further : (instr : Instr) (d : Configuration) → slice_get p.code place ≡ Some instr → ((s : State) → store_by s (Some instr) ≡ None)
      → ((s : State) → IsAt p.start (at_place place x m) s → (t : State) × (step s ≡ Stepped t) × IsAt p.start d t)
      → ((left : ℕ) → left + 1 ≡ limit → Leads p left d goal) → Leads p limit (at_place place x m) goal
  Leads-further instr d here still step_to further =
      Leads-step p limit (at_place place x m) d goal enough
      (λ s is. (rw is.pages holds, rw (next_store-at p.start p.code instr (at_place place x m) s (p.stands m holds) here is, still s) tt))
      step_to further

  pub Leads-jal : (rd to : ℕ) → slice_get p.code place ≡ Some (Jal rd (jump_between place to)) → to ≤ length p.code → to < place + 2 ^ 18 → place ≤ to + 2 ^ 18
      → ((left : ℕ) → left + 1 ≡ limit → Leads p left (at_place to (write x rd (p.start + 4 * (place + 1))) m) goal) → Leads p limit (at_place place x m) goal
  Leads-jal rd to here inside near_after near_before =
      Leads-further (Jal rd (jump_between place to)) (at_place to (write x rd (p.start + 4 * (place + 1))) m) here (λ s. refl)
      (λ s is. step-jal p.start p.code (at_place place x m) s (p.stands m holds) is rd to here inside near_after near_before)

  pub Leads-jalr : (rd rs1 offset to : ℕ) → slice_get p.code place ≡ Some (Jalr rd rs1 offset) → address x rs1 offset ≡ p.start + 4 * to → to ≤ length p.code
      → ((left : ℕ) → left + 1 ≡ limit → Leads p left (at_place to (write x rd (p.start + 4 * (place + 1))) m) goal) → Leads p limit (at_place place x m) goal
  Leads-jalr rd rs1 offset to here at inside =
      Leads-further (Jalr rd rs1 offset) (at_place to (write x rd (p.start + 4 * (place + 1))) m) here (λ s. refl)
      (λ s is. step-jalr p.start p.code (at_place place x m) s (p.stands m holds) is rd rs1 offset to here at inside)

  -- a branch whose condition holds
  pub Leads-taken : (op : BranchOp) (rs1 rs2 count : ℕ) → slice_get p.code place ≡ Some (Branch op rs1 rs2 (words_further count)) → count < 2 ^ 10 → place + count ≤ length p.code
      → is_taken op (read x rs1) (read x rs2) ≡ true
      → ((left : ℕ) → left + 1 ≡ limit → Leads p left (at_place (place + count) x m) goal) → Leads p limit (at_place place x m) goal
  Leads-taken op rs1 rs2 count here near inside taken =
      Leads-further (Branch op rs1 rs2 (words_further count)) (at_place (place + count) x m) here (λ s. refl)
      (λ s is. rw taken at (step-branch p.start p.code (at_place place x m) s (p.stands m holds) is op rs1 rs2 count here near inside))

  -- a branch whose condition does not hold
  pub Leads-passed : (op : BranchOp) (rs1 rs2 count : ℕ) → slice_get p.code place ≡ Some (Branch op rs1 rs2 (words_further count)) → count < 2 ^ 10 → place + count ≤ length p.code
      → is_taken op (read x rs1) (read x rs2) ≡ false
      → ((left : ℕ) → left + 1 ≡ limit → Leads p left (at_place (place + 1) x m) goal) → Leads p limit (at_place place x m) goal
  Leads-passed op rs1 rs2 count here near inside passed =
      Leads-further (Branch op rs1 rs2 (words_further count)) (at_place (place + 1) x m) here (λ s. refl)
      (λ s is. rw passed at (step-branch p.start p.code (at_place place x m) s (p.stands m holds) is op rs1 rs2 count here near inside))
