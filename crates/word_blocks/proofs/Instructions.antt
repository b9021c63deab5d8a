-- A step does what the instruction at its place does to a configuration.
use Rattle.std.specs.Prelude.{if◌then◌else◌, nat_eq, slice_get, slice_index, slice_set, IfSome}
use Rattle.std.specs.Option.{option_map}
use Rattle.std.proofs.Common.{◌≡◌, ℕ, ◌+◌, ◌*◌, ◌%◌, ◌^◌, ◌<◌, Bool, true, false, List, length, Option, Some, None, refl, sym, subst, ap, ◌∙◌, arith}
use Rattle.std.proofs.lemmas.Bool.{eqb-true, eqb-false}
use Rattle.std.proofs.lemmas.Option.{slice_get_within}
use Rattle.std.proofs.lemmas.List.{get_or-set_same, get_or-set_other}
use Rattle.sl_model.specs.declared.instr.Instr.{Instr}
use Rattle.sl_model.specs.declared.instr.Instr.TheVariants.{Lui, Auipc, Jal, Jalr, Branch, Load, Store, OpImm, Shift, Op, MulDiv, Fence, Ecall, Ebreak}
use Rattle.sl_model.specs.declared.instr.LoadOp.{LoadOp}
use Rattle.sl_model.specs.Pages.{Pages, load_at, store_at}
use Rattle.sl_model.specs.Words.{HasBits, meaning}
use Rattle.sl_model.specs.Arithmetic.{word_add, immediate_word, upper_word, immediate_value, shift_value, load_width, load_value, store_width}
use Rattle.sl_model.specs.NextStore.{store_by, next_store}
use Rattle.sl_model.specs.State.{State, register, set_register}
use Rattle.sl_model.specs.Step.{Next, Stepped, Called, Trapped, step, execute, loaded, stored, put_register, gone_to, after, address as step_address}
use Rattle.sl_model.proofs.Meanings.{meaning_has}
use Rattle.sl_model.proofs.Steps.{HasRanges, HasRanges-step, IsNext, IsNext-step}
use Rattle.word_blocks.specs.Code.{CodeStands}
use Rattle.word_blocks.specs.Configuration.{Registers, read, write, Configuration, address, put, with_pages, does, IsAt}

-- ---- the instruction at a place

-- what stands at a place of the code is what the step at it does
pub step-execute : (start : ℕ) (code : List Instr) (instr : Instr) (c : Configuration) (s : State) → CodeStands start code c.pages → slice_get code c.place ≡ Some instr → IsAt start c s → step s ≡ execute s instr
unfolding step
step-execute start code instr c s stands here is =
    let found = stands.words c.place instr here in
    let aligned : s.pc % 4 ≡ 0 = omega (arith, is.place, stands.aligned) in
    let fetched : load_at s.pages s.pc 4 ≡ Some found.0 = rw (is.pages, is.place) found.1 in
    rw (aligned, fetched, found.2) refl

-- the store that comes next is that of the instruction at the place
pub next_store-at : (start : ℕ) (code : List Instr) (instr : Instr) (c : Configuration) (s : State) → CodeStands start code c.pages → slice_get code c.place ≡ Some instr → IsAt start c s
    → next_store s ≡ store_by s (Some instr)
unfolding next_store
next_store-at start code instr c s stands here is =
    let found = stands.words c.place instr here in
    let aligned : s.pc % 4 ≡ 0 = omega (arith, is.place, stands.aligned) in
    let fetched : load_at s.pages s.pc 4 ≡ Some found.0 = rw (is.pages, is.place) found.1 in
    rw (aligned, fetched, found.2) refl

-- the bits of the word that stands at a place
pub bits_of : (word : ℕ) (instr : Instr) → meaning word ≡ Some instr → HasBits word instr
bits_of word instr means = subst (λ o. IfSome o (HasBits word)) means (meaning_has word)

-- ---- registers

-- a register after a write that fits the machine's registers
pub read-write : (xs : List ℕ) (x : Registers) (rd value r : ℕ) → rd < length xs → ((q : ℕ) → slice_index xs q ≡ read x q)
    → slice_index (set_register xs rd value) r ≡ read (write x rd value) r
read-write xs x rd value r fits same = chosen (nat_eq rd 0) (nat_eq r 0) (nat_eq r rd) refl refl refl
  where
    chosen : (to_zero is_zero is_it : Bool) → nat_eq rd 0 ≡ to_zero → nat_eq r 0 ≡ is_zero → nat_eq r rd ≡ is_it
        → slice_index (if to_zero then xs else slice_set xs rd value) r ≡ (if is_zero then 0 else if is_it then value else x r)
    chosen true true is_it rd_is r_is it_is = rw r_is at (same r)
    chosen true false true rd_is r_is it_is = absurd (eqb-false r 0 r_is (eqb-true r rd it_is ∙ eqb-true rd 0 rd_is))
    chosen true false false rd_is r_is it_is = rw r_is at (same r)
    chosen false true true rd_is r_is it_is = absurd (eqb-false rd 0 rd_is (sym (eqb-true r rd it_is) ∙ eqb-true r 0 r_is))
    chosen false true false rd_is r_is it_is = get_or-set_other xs rd r value 0 (eqb-false r rd it_is) ∙ rw r_is at (same r)
    chosen false false true rd_is r_is it_is = rw (eqb-true r rd it_is) (get_or-set_same xs rd value 0 fits)
    chosen false false false rd_is r_is it_is = get_or-set_other xs rd r value 0 (eqb-false r rd it_is) ∙ rw r_is at (same r)

-- ---- what a step comes to

-- what a configuration says of a state but for the ranges of numbers, which every step keeps
pub record Follows (start : ℕ) (d : Configuration) (t : State) : Type 0 where
  pub place : t.pc ≡ start + 4 * d.place
  pub registers : (r : ℕ) → register t r ≡ read d.registers r
  pub pages : t.pages ≡ d.pages

pub IsAt-next : (start : ℕ) (c d : Configuration) (s t : State) → IsAt start c s → start + 4 * c.place < 2 ^ 32 → step s ≡ Stepped t → Follows start d t → IsAt start d t
IsAt-next start c d s t is below led follows =
    let kept : IsNext s t = IsNext-step s t led in
    let ranges : HasRanges t = HasRanges-step s t (record { pc = omega (arith, is.place, below); words = is.words; pages = rw is.pages is.bytes }) led in
    record {
      place = follows.place;
      registers = follows.registers;
      pages = follows.pages;
      count = kept.registers ∙ is.count;
      words = ranges.words;
      bytes = rw follows.pages at ranges.pages;
    }

abbrev FollowsTo : ℕ → Option Configuration → Next → Type 0
FollowsTo start None next = Unit {0}
FollowsTo start (Some d) (Stepped t) = Follows start d t
FollowsTo start (Some d) Called = ⊥
FollowsTo start (Some d) (Trapped number) = ⊥

module _ (start : ℕ) (c : Configuration) (s : State) (is : IsAt start c s) (further : start + 4 * (c.place + 1) < 2 ^ 32) where
  next_place : after s ≡ start + 4 * (c.place + 1)
  next_place = omega (arith, is.place, further)

  address_is : (rs1 offset : ℕ) → step_address s rs1 offset ≡ address c.registers rs1 offset
  address_is rs1 offset = ap (λ a. word_add a (immediate_word offset)) (is.registers rs1)

  put-follows : (rd value same : ℕ) → rd < 32 → value ≡ same → Follows start (put c rd same) (gone_to (put_register s rd value) (after s))
  put-follows rd value same fits e = record {
    place = next_place;
    registers = λ r. rw (← e) (read-write s.x c.registers rd value r (rw is.count fits) is.registers);
    pages = is.pages;
  }

  loaded-follows : (op : LoadOp) (rd : ℕ) (o : Option ℕ) → rd < 32 → FollowsTo start (option_map (λ n. put c rd (load_value op n)) o) (loaded s op rd o)
  loaded-follows op rd None fits = tt
  loaded-follows op rd (Some n) fits = put-follows rd (load_value op n) (load_value op n) fits refl

  stored-follows : (o : Option Pages) → FollowsTo start (option_map (with_pages c) o) (stored s o)
  stored-follows None = tt
  stored-follows (Some pages) = record { place = next_place; registers = is.registers; pages = refl }

  execute-follows : (word : ℕ) (instr : Instr) → HasBits word instr → FollowsTo start (does start instr c) (execute s instr)
  unfolding does execute
  execute-follows word (Lui rd imm) has = put-follows rd _ _ (omega (arith, has.1)) refl
  execute-follows word (Auipc rd imm) has = put-follows rd _ _ (omega (arith, has.1)) (ap (λ p. word_add p (upper_word imm)) is.place)
  execute-follows word (Jal rd half_offset) has = tt
  execute-follows word (Jalr rd rs1 offset) has = tt
  execute-follows word (Branch op rs1 rs2 half_offset) has = tt
  execute-follows word (Load op rd rs1 offset) has =
      let same : load_at s.pages (step_address s rs1 offset) (load_width op) ≡ load_at c.pages (address c.registers rs1 offset) (load_width op) = rw (address_is rs1 offset, is.pages) in
      rw same (loaded-follows op rd _ (omega (arith, has.2)))
  execute-follows word (Store op rs1 rs2 offset) has =
      let same : store_at s.pages (step_address s rs1 offset) (store_width op) (register s rs2) ≡ store_at c.pages (address c.registers rs1 offset) (store_width op) (read c.registers rs2) =
      rw (address_is rs1 offset, is.pages, is.registers rs2) in
      rw same (stored-follows _)
  execute-follows word (OpImm op rd rs1 imm) has = put-follows rd _ _ (omega (arith, has.2)) (ap (λ a. immediate_value op a (immediate_word imm)) (is.registers rs1))
  execute-follows word (Shift op rd rs1 amount) has = put-follows rd _ _ (omega (arith, has.3)) (ap (λ a. shift_value op a amount) (is.registers rs1))
  execute-follows word (Op op rd rs1 rs2) has = put-follows rd _ _ (omega (arith, has.3)) (rw (is.registers rs1, is.registers rs2))
  execute-follows word (MulDiv op rd rs1 rs2) has = put-follows rd _ _ (omega (arith, has.3)) (rw (is.registers rs1, is.registers rs2))
  execute-follows word (Fence high rd) has = record { place = next_place; registers = is.registers; pages = is.pages }
  execute-follows word Ecall has = tt
  execute-follows word Ebreak has = tt

-- ---- the law

followed : (start : ℕ) (d : Configuration) (next : Next) → FollowsTo start (Some d) next → (t : State) × (next ≡ Stepped t) × Follows start d t
followed start d (Stepped t) follows = (t, refl, follows)
followed start d Called follows = absurd follows
followed start d (Trapped number) follows = absurd follows

-- where an instruction does something to a configuration, the step does it
pub step-does : (start : ℕ) (code : List Instr) (instr : Instr) (c d : Configuration) (s : State) → CodeStands start code c.pages → slice_get code c.place ≡ Some instr → IsAt start c s
    → does start instr c ≡ Some d → (t : State) × (step s ≡ Stepped t) × IsAt start d t
step-does start code instr c d s stands here is done =
    let inside : c.place < length code = slice_get_within code c.place instr here in
    let word : ℕ = (stands.words c.place instr here).0 in
    let has : HasBits word instr = bits_of word instr (stands.words c.place instr here).2 in
    let further : start + 4 * (c.place + 1) < 2 ^ 32 = omega (arith, stands.within, inside) in
    let follows : FollowsTo start (Some d) (execute s instr) = subst (λ o. FollowsTo start o (execute s instr)) done (execute-follows start c s is further word instr has) in
    let next = followed start d (execute s instr) follows in
    let steps : step s ≡ Stepped next.0 = step-execute start code instr c s stands here is ∙ next.1 in
    (next.0, steps, IsAt-next start c d s next.0 is (omega (arith, further)) steps next.2)

-- an instruction leads to the next place
pub does-place : (start : ℕ) (instr : Instr) (c d : Configuration) → does start instr c ≡ Some d → d.place ≡ c.place + 1
unfolding does
does-place start instr c d done = is_next (does start instr c) (next instr) done
  where
    is_next : (o : Option Configuration) → IfSome o (λ e. e.place ≡ c.place + 1) → o ≡ Some d → d.place ≡ c.place + 1
    is_next o all found = rw found at all

    mapped : (o : Option ℕ) (f : ℕ → Configuration) → ((n : ℕ) → (f n).place ≡ c.place + 1) → IfSome (option_map f o) (λ e. e.place ≡ c.place + 1)
    mapped None f each = tt
    mapped (Some n) f each = each n

    stored_at : (o : Option Pages) → IfSome (option_map (with_pages c) o) (λ e. e.place ≡ c.place + 1)
    stored_at None = tt
    stored_at (Some m) = refl

    next : (i : Instr) → IfSome (does start i c) (λ e. e.place ≡ c.place + 1)
    next (Lui rd imm) = refl
    next (Auipc rd imm) = refl
    next (Jal rd half_offset) = tt
    next (Jalr rd rs1 offset) = tt
    next (Branch op rs1 rs2 half_offset) = tt
    next (Load op rd rs1 offset) = mapped _ _ (λ n. refl)
    next (Store op rs1 rs2 offset) = stored_at _
    next (OpImm op rd rs1 imm) = refl
    next (Shift op rd rs1 amount) = refl
    next (Op op rd rs1 rs2) = refl
    next (MulDiv op rd rs1 rs2) = refl
    next (Fence high rd) = refl
    next Ecall = tt
    next Ebreak = tt
