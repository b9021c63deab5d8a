-- What a step keeps: the ranges of every number, the layout, and which pages are mapped.
use Rattle.std.specs.Prelude.{if◌then◌else◌, nat_eq, Option, IfSome, is_some, slice_index, slice_set}
use Rattle.std.specs.List.{AllByRecursion}
use Rattle.std.specs.FinMap.{get}
use Rattle.std.proofs.Common.{◌≡◌, ℕ, zero, suc, ◌+◌, ◌%◌, ◌^◌, ◌<◌, Bool, true, false, List, [], ◌∷◌, length, Some, None, refl, sym, subst, ◌∙◌, arith}
use Rattle.std.proofs.lemmas.Bool.{eqb-false}
use Rattle.std.proofs.lemmas.List.{get_or-set_other}
use Rattle.std.proofs.Math.ListN.{length-set, set}
use Rattle.sl_model.specs.declared.instr.LoadOp.{LoadOp}
use Rattle.sl_model.specs.declared.instr.Instr.{Instr}
use Rattle.sl_model.specs.declared.instr.Instr.TheVariants.{Lui, Auipc, Jal, Jalr, Branch, Load, Store, OpImm, Shift, Op, MulDiv, Fence, Ecall, Ebreak}
use Rattle.sl_model.specs.Pages.{Pages, ArePages, load_at, store_at}
use Rattle.sl_model.proofs.PagesLaws.{AreWhole}
use Rattle.sl_model.specs.Words.{IsWord, HasBits, meaning}
use Rattle.sl_model.specs.Arithmetic.{word_add, branch_word, is_taken, load_width, load_value, store_width, upper_word, immediate_word, immediate_value, shift_value, register_value, mul_div_value, jump_word}
use Rattle.sl_model.specs.State.{State, IsState, register, set_register}
use Rattle.sl_model.specs.Step.{Next, Stepped, Called, Trapped, step, execute, execute_word, execute_fetched, put_register, gone_to, after, even, address, jump, branch, pass, loaded, stored}
use Rattle.sl_model.proofs.Meanings.{meaning_has}
use Rattle.sl_model.proofs.Memory.{load_at-small, ArePages-stored, is_some-stored, AreWhole-stored}
use Rattle.sl_model.proofs.Values.{IsWord-immediate, IsWord-immediate_value, IsWord-shift_value, IsWord-register_value, IsWord-mul_div_value, IsWord-load_value}

-- ---- what an instruction may change: registers but x0, bytes of memory, pc, and the count by one

pub record IsNext (s t : State) : Type 0 where
  pub count : t.count ≡ s.count + 1
  pub registers : length t.x ≡ length s.x
  pub zero : register t 0 ≡ register s 0
  pub layout : t.layout ≡ s.layout
  pub brk : t.brk ≡ s.brk
  pub brk_end : t.brk_end ≡ s.brk_end
  pub next_call : t.next_call ≡ s.next_call
  pub status : t.status ≡ s.status
  pub mapped : (number : ℕ) → is_some (get t.pages number) ≡ is_some (get s.pages number)
  pub whole : AreWhole s.pages → AreWhole t.pages

abbrev LeadsOn : State → Next → Type 0
LeadsOn s (Stepped t) = IsNext s t
LeadsOn s Called = Unit {0}
LeadsOn s (Trapped number) = Unit {0}

pub length-set_register : (x : List ℕ) (r value : ℕ) → length (set_register x r value) ≡ length x
length-set_register x r value = chosen (nat_eq r 0)
  where
    chosen : (b : Bool) → length (if b then x else slice_set x r value) ≡ length x
    chosen true = refl
    chosen false = length-set x r value

pub zero-set_register : (x : List ℕ) (r value : ℕ) → slice_index (set_register x r value) 0 ≡ slice_index x 0
zero-set_register x r value = chosen (nat_eq r 0) refl
  where
    chosen : (b : Bool) → nat_eq r 0 ≡ b → slice_index (if b then x else slice_set x r value) 0 ≡ slice_index x 0
    chosen true is = refl
    chosen false is = get_or-set_other x r 0 value 0 (λ same. eqb-false r 0 is (sym same))

-- the state with another value of a register, at another place, one instruction later
pub IsNext-register : (s : State) (rd value pc : ℕ) → IsNext s (gone_to (put_register s rd value) pc)
IsNext-register s rd value pc = record {
  count = refl;
  registers = length-set_register s.x rd value;
  zero = zero-set_register s.x rd value;
  layout = refl;
  brk = refl;
  brk_end = refl;
  next_call = refl;
  status = refl;
  mapped = λ number. refl;
  whole = λ whole. whole;
}

pub IsNext-place : (s : State) (pc : ℕ) → IsNext s (gone_to s pc)
IsNext-place s pc = record { count = refl; registers = refl; zero = refl; layout = refl; brk = refl; brk_end = refl; next_call = refl; status = refl; mapped = λ number. refl; whole = λ whole. whole }

IsNext-pages : (s : State) (pages : Pages) (pc : ℕ) → ((number : ℕ) → is_some (get pages number) ≡ is_some (get s.pages number)) → (AreWhole s.pages → AreWhole pages) → IsNext s (gone_to (record s { pages = pages }) pc)
IsNext-pages s pages pc mapped whole = record { count = refl; registers = refl; zero = refl; layout = refl; brk = refl; brk_end = refl; next_call = refl; status = refl; mapped = mapped; whole = whole }

either : (s : State) (b : Bool) (x y : Next) → LeadsOn s x → LeadsOn s y → LeadsOn s (if b then x else y)
either s true x y first second = first
either s false x y first second = second

LeadsOn-jump : (s : State) (rd target : ℕ) → LeadsOn s (jump s rd target)
LeadsOn-jump s rd target = either s (nat_eq (target % 4) 0) _ _ (IsNext-register s rd (after s) target) tt

LeadsOn-branch : (s : State) (target : ℕ) → LeadsOn s (branch s target)
LeadsOn-branch s target = either s (nat_eq (target % 4) 0) _ _ (IsNext-place s target) tt

LeadsOn-loaded : (s : State) (op : LoadOp) (rd : ℕ) (o : Option ℕ) → LeadsOn s (loaded s op rd o)
LeadsOn-loaded s op rd None = tt
LeadsOn-loaded s op rd (Some n) = IsNext-register s rd _ _

LeadsOn-stored : (s : State) (address width value : ℕ) (o : Option Pages) → store_at s.pages address width value ≡ o → LeadsOn s (stored s o)
LeadsOn-stored s address width value None done = tt
LeadsOn-stored s address width value (Some pages) done = IsNext-pages s pages (after s) (is_some-stored s.pages address width value pages done) (AreWhole-stored s.pages address width value pages done)

LeadsOn-chosen : (s : State) (taken : Bool) (target : ℕ) → LeadsOn s (if taken then branch s target else pass s)
LeadsOn-chosen s taken target = either s taken (branch s target) (pass s) (LeadsOn-branch s target) (IsNext-place s (after s))

LeadsOn-execute : (s : State) (instr : Instr) → LeadsOn s (execute s instr)
unfolding execute
LeadsOn-execute s (Lui rd imm) = IsNext-register s rd _ _
LeadsOn-execute s (Auipc rd imm) = IsNext-register s rd _ _
LeadsOn-execute s (Jal rd offset) = LeadsOn-jump s rd _
LeadsOn-execute s (Jalr rd rs1 offset) = LeadsOn-jump s rd _
LeadsOn-execute s (Branch op rs1 rs2 offset) = LeadsOn-chosen s (is_taken op (register s rs1) (register s rs2)) (word_add s.pc (branch_word offset))
LeadsOn-execute s (Load op rd rs1 offset) = LeadsOn-loaded s op rd _
LeadsOn-execute s (Store op rs1 rs2 offset) = LeadsOn-stored s (address s rs1 offset) (store_width op) (register s rs2) _ refl
LeadsOn-execute s (OpImm op rd rs1 imm) = IsNext-register s rd _ _
LeadsOn-execute s (Shift op rd rs1 amount) = IsNext-register s rd _ _
LeadsOn-execute s (Op op rd rs1 rs2) = IsNext-register s rd _ _
LeadsOn-execute s (MulDiv op rd rs1 rs2) = IsNext-register s rd _ _
LeadsOn-execute s (Fence high rd) = IsNext-place s (after s)
LeadsOn-execute s Ecall = tt
LeadsOn-execute s Ebreak = tt

LeadsOn-word : (s : State) (instr : Option Instr) → LeadsOn s (execute_word s instr)
LeadsOn-word s None = tt
LeadsOn-word s (Some instr) = LeadsOn-execute s instr

LeadsOn-fetched : (s : State) (word : Option ℕ) → LeadsOn s (execute_fetched s word)
LeadsOn-fetched s None = tt
LeadsOn-fetched s (Some word) = LeadsOn-word s (meaning word)

LeadsOn-step : (s : State) → LeadsOn s (step s)
unfolding step
LeadsOn-step s = either s (nat_eq (s.pc % 4) 0) _ _ (LeadsOn-fetched s (load_at s.pages s.pc 4)) tt

pub IsNext-step : (s t : State) → step s ≡ Stepped t → IsNext s t
IsNext-step s t steps = subst (LeadsOn s) steps (LeadsOn-step s)

-- ---- every number stays in its range

-- what an instruction adds to that, where the next place, the registers and the pages are as they are to be
pub record HasRanges (t : State) : Type 0 where
  pub pc : IsWord t.pc
  pub words : AllByRecursion IsWord t.x
  pub pages : ArePages t.pages

abbrev InRanges : Next → Type 0
InRanges (Stepped t) = HasRanges t
InRanges Called = Unit {0}
InRanges (Trapped number) = Unit {0}

pub IsWord-index : (x : List ℕ) (r : ℕ) → AllByRecursion IsWord x → IsWord (slice_index x r)
IsWord-index [] r all = omega arith
IsWord-index (a ∷ xs) zero all = all.0
IsWord-index (a ∷ xs) (suc r) all = IsWord-index xs r all.1

pub words-set : (x : List ℕ) (r value : ℕ) → AllByRecursion IsWord x → IsWord value → AllByRecursion IsWord (slice_set x r value)
words-set [] r value all word = tt
words-set (a ∷ xs) zero value all word = (word, all.1)
words-set (a ∷ xs) (suc r) value all word = (all.0, words-set xs r value all.1 word)

pub words-set_register : (x : List ℕ) (r value : ℕ) → AllByRecursion IsWord x → IsWord value → AllByRecursion IsWord (set_register x r value)
words-set_register x r value all word = chosen (nat_eq r 0)
  where
    chosen : (b : Bool) → AllByRecursion IsWord (if b then x else slice_set x r value)
    chosen true = all
    chosen false = words-set x r value all word

module _ (s : State) (is : HasRanges s) where
  register_word : (r : ℕ) → IsWord (register s r)
  register_word r = IsWord-index s.x r is.words

  ranges-register : (rd value pc : ℕ) → IsWord value → IsWord pc → HasRanges (gone_to (put_register s rd value) pc)
  ranges-register rd value pc word place = record { pc = place; words = words-set_register s.x rd value is.words word; pages = is.pages }

  ranges-place : (pc : ℕ) → IsWord pc → HasRanges (gone_to s pc)
  ranges-place pc place = record { pc = place; words = is.words; pages = is.pages }

  in_either : (b : Bool) (x y : Next) → InRanges x → InRanges y → InRanges (if b then x else y)
  in_either true x y first second = first
  in_either false x y first second = second

  ranges-jump : (rd target : ℕ) → IsWord target → InRanges (jump s rd target)
  ranges-jump rd target word = in_either (nat_eq (target % 4) 0) _ _ (ranges-register rd (after s) target (omega arith) word) tt

  ranges-branch : (target : ℕ) → IsWord target → InRanges (branch s target)
  ranges-branch target word = in_either (nat_eq (target % 4) 0) _ _ (ranges-place target word) tt

  ranges-loaded : (op : LoadOp) (rd : ℕ) (o : Option ℕ) → IfSome o (λ n. n < 256 ^ load_width op) → InRanges (loaded s op rd o)
  ranges-loaded op rd None small = tt
  ranges-loaded op rd (Some n) small = ranges-register rd (load_value op n) (after s) (IsWord-load_value op n small) (omega arith)

  ranges-stored : (addr width value : ℕ) (o : Option Pages) → store_at s.pages addr width value ≡ o → InRanges (stored s o)
  ranges-stored addr width value None done = tt
  ranges-stored addr width value (Some pages) done = record { pc = omega arith; words = is.words; pages = ArePages-stored s.pages addr width value pages done is.pages }

  ranges-chosen : (taken : Bool) (target : ℕ) → IsWord target → InRanges (if taken then branch s target else pass s)
  ranges-chosen taken target word = in_either taken (branch s target) (pass s) (ranges-branch target word) (ranges-place (after s) (omega arith))

  ranges-execute : (word : ℕ) (instr : Instr) → HasBits word instr → InRanges (execute s instr)
  unfolding execute
  ranges-execute word (Lui rd imm) has = ranges-register rd (upper_word imm) (after s) (omega (arith, has.2)) (omega arith)
  ranges-execute word (Auipc rd imm) has = ranges-register rd (word_add s.pc (upper_word imm)) (after s) (omega arith) (omega arith)
  ranges-execute word (Jal rd offset) has = ranges-jump rd (word_add s.pc (jump_word offset)) (omega arith)
  ranges-execute word (Jalr rd rs1 offset) has = ranges-jump rd (even (address s rs1 offset)) (omega arith)
  ranges-execute word (Branch op rs1 rs2 offset) has = ranges-chosen (is_taken op (register s rs1) (register s rs2)) (word_add s.pc (branch_word offset)) (omega arith)
  ranges-execute word (Load op rd rs1 offset) has = ranges-loaded op rd (load_at s.pages (address s rs1 offset) (load_width op)) (load_at-small s.pages (address s rs1 offset) (load_width op) is.pages)
  ranges-execute word (Store op rs1 rs2 offset) has = ranges-stored (address s rs1 offset) (store_width op) (register s rs2) _ refl
  ranges-execute word (OpImm op rd rs1 imm) has =
      ranges-register rd (immediate_value op (register s rs1) (immediate_word imm)) (after s) (IsWord-immediate_value op (register s rs1) (immediate_word imm) (register_word rs1) (IsWord-immediate imm (omega (arith, has.4)))) (omega arith)
  ranges-execute word (Shift op rd rs1 amount) has = ranges-register rd (shift_value op (register s rs1) amount) (after s) (IsWord-shift_value op (register s rs1) amount (register_word rs1)) (omega arith)
  ranges-execute word (Op op rd rs1 rs2) has =
      ranges-register rd (register_value op (register s rs1) (register s rs2)) (after s) (IsWord-register_value op (register s rs1) (register s rs2) (register_word rs1) (register_word rs2)) (omega arith)
  ranges-execute word (MulDiv op rd rs1 rs2) has =
      ranges-register rd (mul_div_value op (register s rs1) (register s rs2)) (after s) (IsWord-mul_div_value op (register s rs1) (register s rs2) (register_word rs1) (register_word rs2)) (omega arith)
  ranges-execute word (Fence high rd) has = ranges-place (after s) (omega arith)
  ranges-execute word Ecall has = tt
  ranges-execute word Ebreak has = tt

  ranges-word : (word : ℕ) (instr : Option Instr) → IfSome instr (HasBits word) → InRanges (execute_word s instr)
  ranges-word word None has = tt
  ranges-word word (Some instr) has = ranges-execute word instr has

  ranges-fetched : (word : Option ℕ) → InRanges (execute_fetched s word)
  ranges-fetched None = tt
  ranges-fetched (Some word) = ranges-word word (meaning word) (meaning_has word)

  ranges-step : InRanges (step s)
  unfolding step
  ranges-step = in_either (nat_eq (s.pc % 4) 0) _ _ (ranges-fetched (load_at s.pages s.pc 4)) tt

pub HasRanges-step : (s t : State) → HasRanges s → step s ≡ Stepped t → HasRanges t
HasRanges-step s t is steps = subst InRanges steps (ranges-step s is)

-- a step leads from a state to a state, below the end of the count
pub IsState-step : (s t : State) → IsState s → s.count + 1 < 2 ^ 64 → step s ≡ Stepped t → IsState t
IsState-step s t is below steps =
    let next : IsNext s t = IsNext-step s t steps in
    let ranges : HasRanges t = HasRanges-step s t (record { pc = is.pc; words = is.words; pages = is.pages }) steps in
    record {
      pc = ranges.pc;
      registers = next.registers ∙ is.registers;
      words = ranges.words;
      zero = next.zero ∙ is.zero;
      pages = ranges.pages;
      brk = rw next.brk is.brk;
      brk_end = rw next.brk_end is.brk_end;
      next_call = rw next.next_call is.next_call;
      status = rw next.status is.status;
      count = omega (arith, next.count);
      layout = rw next.layout is.layout;
    }
