-- What a block of instructions that go straight on does, as facts that stand in order of execution,
-- and that the machine does it.
use Rattle.std.specs.Prelude.{slice_get, IsSome, IfSome, is_some}
use Rattle.std.proofs.Common.{◌≡◌, ℕ, suc, ◌+◌, ◌-◌, ◌*◌, ◌≤◌, List, [], ◌∷◌, length, Option, Some, None, true, refl, ap, ◌∙◌, subst, arith}
use Rattle.sl_model.specs.declared.instr.Instr.{Instr}
use Rattle.sl_model.specs.declared.instr.Instr.TheVariants.{Lui, Auipc, Jal, Jalr, Branch, Load, Store, OpImm, Shift, Op, MulDiv, Fence, Ecall, Ebreak}
use Rattle.sl_model.specs.Pages.{Pages, ArePages, load_at, store_at}
use Rattle.sl_model.specs.Stores.{IsStored}
use Rattle.sl_model.specs.Arithmetic.{word_add, immediate_word, upper_word, immediate_value, shift_value, register_value, mul_div_value, load_width, load_value, store_width}
use Rattle.sl_model.specs.NextStore.{store_by}
use Rattle.sl_model.specs.State.{State}
use Rattle.sl_model.specs.Step.{address as step_address}
use Rattle.sl_model.proofs.Memory.{is_some-store_at, IsStored-stored, ArePages-stored}
use Rattle.word_blocks.specs.Code.{CodeStands, HasBlock}
use Rattle.word_blocks.specs.Configuration.{Registers, read, write, Configuration, at_place, address, does, IsAt}
use Rattle.word_blocks.specs.Ways.{Promise, Keeps, Comes, Arrives, Leads}
use Rattle.word_blocks.proofs.Instructions.{step-does, next_store-at}
use Rattle.word_blocks.proofs.Ways.{Comes-then}

-- ---- what a block does

-- From these registers and this memory a block comes to what is as it is to be. A load wants its
-- address in the form in which memory is known there, and what stands there. A store wants the
-- same of its address, that it may store there and that it can, and the rest for whatever memory
-- has the value stored.
abbrev pub Does : Promise → ℕ → List Instr → Registers → Pages → (Registers → Pages → Type 0) → Type 0
Does p place [] x m goal = goal x m
Does p place (Lui rd imm ∷ rest) x m goal = Does p (place + 1) rest (write x rd (upper_word imm)) m goal
Does p place (Auipc rd imm ∷ rest) x m goal =
    Does p (place + 1) rest (write x rd (word_add (p.start + 4 * place) (upper_word imm))) m goal
Does p place (Jal rd half_offset ∷ rest) x m goal = ⊥
Does p place (Jalr rd rs1 offset ∷ rest) x m goal = ⊥
Does p place (Branch op rs1 rs2 half_offset ∷ rest) x m goal = ⊥
Does p place (Load op rd rs1 offset ∷ rest) x m goal =
    (at : ℕ) × (address x rs1 offset ≡ at)
    × (n : ℕ) × (load_at m at (load_width op) ≡ Some n)
    × Does p (place + 1) rest (write x rd (load_value op n)) m goal
Does p place (Store op rs1 rs2 offset ∷ rest) x m goal =
    (at : ℕ) × (address x rs1 offset ≡ at)
    × p.may_store m (at, store_width op) × IsSome (load_at m at (store_width op))
    × ((m' : Pages) → IsStored at (store_width op) (read x rs2) m m' → ArePages m'
    → p.holds m' × Does p (place + 1) rest x m' goal)
Does p place (OpImm op rd rs1 imm ∷ rest) x m goal =
    Does p (place + 1) rest (write x rd (immediate_value op (read x rs1) (immediate_word imm))) m goal
Does p place (Shift op rd rs1 amount ∷ rest) x m goal =
    Does p (place + 1) rest (write x rd (shift_value op (read x rs1) amount)) m goal
Does p place (Op op rd rs1 rs2 ∷ rest) x m goal =
    Does p (place + 1) rest (write x rd (register_value op (read x rs1) (read x rs2))) m goal
Does p place (MulDiv op rd rs1 rs2 ∷ rest) x m goal =
    Does p (place + 1) rest (write x rd (mul_div_value op (read x rs1) (read x rs2))) m goal
Does p place (Fence high rd ∷ rest) x m goal = Does p (place + 1) rest x m goal
Does p place (Ecall ∷ rest) x m goal = ⊥
Does p place (Ebreak ∷ rest) x m goal = ⊥

-- ---- one instruction of it

-- where a run from a state has come to, so many words further
record Passed (p : Promise) (count place : ℕ) (goal : Registers → Pages → Type 0) (s : State) : Type 0 where
  state : State
  x : Registers
  m : Pages
  comes : Comes p count s state
  is_at : IsAt p.start (at_place (place + count) x m) state
  holds : p.holds m
  reached : goal x m

module _ (p : Promise) where
  -- one instruction, and the others after it
  passed : (place n : ℕ) (instr : Instr) (x y : Registers) (m m' : Pages) (goal : Registers → Pages → Type 0) (s : State)
      → p.holds m → slice_get p.code place ≡ Some instr → IsAt p.start (at_place place x m) s
      → IfSome (store_by s (Some instr)) (p.may_store m)
      → does p.start instr (at_place place x m) ≡ Some (at_place (place + 1) y m')
      → ((t : State) → IsAt p.start (at_place (place + 1) y m') t → Passed p n (place + 1) goal t)
      → Passed p (suc n) place goal s
  passed place n instr x y m m' goal s holds here is may done rest =
      let stands : CodeStands p.start p.code m = p.stands m holds in
      let led = step-does p.start p.code instr (at_place place x m) (at_place (place + 1) y m') s stands here is done in
      let keeps : Keeps p s = (rw is.pages holds, rw (next_store-at p.start p.code instr (at_place place x m) s stands here is, is.pages) may) in
      let after : Passed p n (place + 1) goal led.0 = rest led.0 led.2 in
      let further : place + 1 + n ≡ place + suc n = omega arith in
      record {
        state = after.state;
        x = after.x;
        m = after.m;
        comes = (keeps, led.0, led.1, after.comes);
        is_at = subst (λ q. IsAt p.start (at_place q after.x after.m) after.state) further after.is_at;
        holds = after.holds;
        reached = after.reached;
      }

  -- where a store is done
  stored_pages : (m : Pages) (at width value : ℕ) → IsSome (load_at m at width) → (m' : Pages) × (store_at m at width value ≡ Some m')
  stored_pages m at width value mapped = of (store_at m at width value) refl (is_some-store_at m at width value ∙ mapped)
    where
      of : (o : Option Pages) → store_at m at width value ≡ o → is_some o ≡ true → (m' : Pages) × (store_at m at width value ≡ Some m')
      of None found some = absurd cc
      of (Some m') found some = (m', found)

  -- the machine does what a block does
  does-passed : (block : List Instr) (place : ℕ) (x : Registers) (m : Pages) (goal : Registers → Pages → Type 0) → Does p place block x m goal
      → p.holds m → HasBlock p.code place block → (s : State) → IsAt p.start (at_place place x m) s → Passed p (length block) place goal s
  unfolding does
  does-passed [] place x m goal doing holds has s is =
      let stays : place ≡ place + 0 = omega arith in
      record {
        state = s;
        x = x;
        m = m;
        comes = refl;
        is_at = subst (λ q. IsAt p.start (at_place q x m) s) stays is;
        holds = holds;
        reached = doing;
      }
  does-passed (Lui rd imm ∷ rest) place x m goal doing holds has s is =
      passed place (length rest) (Lui rd imm) x _ m m goal s holds has.0 is tt refl (does-passed rest (place + 1) _ m goal doing holds has.1)
  does-passed (Auipc rd imm ∷ rest) place x m goal doing holds has s is =
      passed place (length rest) (Auipc rd imm) x _ m m goal s holds has.0 is tt refl (does-passed rest (place + 1) _ m goal doing holds has.1)
  does-passed (Jal rd half_offset ∷ rest) place x m goal doing holds has s is = absurd doing
  does-passed (Jalr rd rs1 offset ∷ rest) place x m goal doing holds has s is = absurd doing
  does-passed (Branch op rs1 rs2 half_offset ∷ rest) place x m goal doing holds has s is = absurd doing
  does-passed (Load op rd rs1 offset ∷ rest) place x m goal doing holds has s is =
      let done : does p.start (Load op rd rs1 offset) (at_place place x m) ≡ Some (at_place (place + 1) (write x rd (load_value op doing.2)) m) = rw (doing.1, doing.3) refl in
      passed place (length rest) (Load op rd rs1 offset) x _ m m goal s holds has.0 is tt done (does-passed rest (place + 1) _ m goal doing.4 holds has.1)
  does-passed (Store op rs1 rs2 offset ∷ rest) place x m goal doing holds has s is =
      let led = stored_pages m doing.0 (store_width op) (read x rs2) doing.3 in
      let done : does p.start (Store op rs1 rs2 offset) (at_place place x m) ≡ Some (at_place (place + 1) x led.0) = rw (doing.1, led.1) refl in
      let there : step_address s rs1 offset ≡ doing.0 = ap (λ a. word_add a (immediate_word offset)) (is.registers rs1) ∙ doing.1 in
      let after = doing.4 led.0 (IsStored-stored m doing.0 (store_width op) (read x rs2) led.0 led.1) (ArePages-stored m doing.0 (store_width op) (read x rs2) led.0 led.1 is.bytes) in
      passed place (length rest) (Store op rs1 rs2 offset) x x m led.0 goal s holds has.0 is (rw there doing.2) done (does-passed rest (place + 1) x led.0 goal after.1 after.0 has.1)
  does-passed (OpImm op rd rs1 imm ∷ rest) place x m goal doing holds has s is =
      passed place (length rest) (OpImm op rd rs1 imm) x _ m m goal s holds has.0 is tt refl (does-passed rest (place + 1) _ m goal doing holds has.1)
  does-passed (Shift op rd rs1 amount ∷ rest) place x m goal doing holds has s is =
      passed place (length rest) (Shift op rd rs1 amount) x _ m m goal s holds has.0 is tt refl (does-passed rest (place + 1) _ m goal doing holds has.1)
  does-passed (Op op rd rs1 rs2 ∷ rest) place x m goal doing holds has s is =
      passed place (length rest) (Op op rd rs1 rs2) x _ m m goal s holds has.0 is tt refl (does-passed rest (place + 1) _ m goal doing holds has.1)
  does-passed (MulDiv op rd rs1 rs2 ∷ rest) place x m goal doing holds has s is =
      passed place (length rest) (MulDiv op rd rs1 rs2) x _ m m goal s holds has.0 is tt refl (does-passed rest (place + 1) _ m goal doing holds has.1)
  does-passed (Fence high rd ∷ rest) place x m goal doing holds has s is =
      passed place (length rest) (Fence high rd) x x m m goal s holds has.0 is tt refl (does-passed rest (place + 1) x m goal doing holds has.1)
  does-passed (Ecall ∷ rest) place x m goal doing holds has s is = absurd doing
  does-passed (Ebreak ∷ rest) place x m goal doing holds has s is = absurd doing

  -- a block as the beginning of a way: it takes a step for each instruction
  pub Leads-block : (block : List Instr) (place limit : ℕ) (x : Registers) (m : Pages) (middle : Registers → Pages → Type 0) (goal : ℕ → Configuration → Type 0)
      → p.holds m → HasBlock p.code place block → length block ≤ limit → Does p place block x m middle
      → ((left : ℕ) (y : Registers) (m' : Pages) → left + length block ≡ limit → p.holds m' → middle y m' → Leads p left (at_place (place + length block) y m') goal)
      → Leads p limit (at_place place x m) goal
  Leads-block block place limit x m middle goal holds has enough doing further s is =
      let half : Passed p (length block) place middle s = does-passed block place x m middle doing holds has s is in
      let left : ℕ = limit - length block in
      let whole : Arrives p left goal half.state = further left half.x half.m (omega arith) half.holds half.reached half.state half.is_at in
      record {
        steps = length block + whole.steps;
        left = whole.left;
        counted = omega (arith, whole.counted);
        state = whole.state;
        comes = Comes-then p (length block) whole.steps s half.state whole.state half.comes whole.comes;
        configuration = whole.configuration;
        is_at = whole.is_at;
        reached = whole.reached;
      }
