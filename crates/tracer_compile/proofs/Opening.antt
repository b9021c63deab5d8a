-- From the start of a tracer to the first word of its body.
use Rattle.std.specs.Prelude.{Option, IsSome, is_some, unwrap_or, Bool, ◌==◌, if◌then◌else◌, replicate, slice_get, slice_index}
use Rattle.std.specs.FinMap.{get}
use Rattle.std.specs.List.{AllByRecursion}
use Rattle.std.specs.Option.{option_and_then}
use Rattle.std.proofs.Common.{◌≡◌, ℕ, zero, suc, ◌+◌, ◌-◌, ◌*◌, ◌/◌, ◌%◌, ◌^◌, ◌<◌, ◌≤◌, inl, inr, ⊎_elim, true, false, List, [], ◌∷◌, length, Some, None, refl, ap, ◌∙◌, sym, subst, arith, length-append}
use Rattle.std.proofs.lemmas.Bool.{cases_lt}
use Rattle.std.proofs.lemmas.List.{get_or_past, length-replicate}
use Rattle.sl_model.specs.declared.bank.TheConstants.{CODE_START, FRAMES_START, FRAMES_SIZE, LOG_START, LOG_SIZE, OUTPUT_START, OUTPUT_SIZE}
use Rattle.sl_model.specs.declared.layout.TheConstants.{MEMORY_END, PROGRAM_PAGES}
use Rattle.sl_model.specs.Bank.{IsArea, IsBankPage, copied_words, IsBankMemory, bank_start, words_at, output_count}
use Rattle.sl_model.specs.Pages.{Pages, ArePages, byte_at, load_at}
use Rattle.sl_model.specs.State.{State}
use Rattle.sl_model.specs.Undo.{undone, entries_at, log_count, log_of}
use Rattle.sl_model.specs.Words.{IsWord}
use Rattle.sl_model.proofs.PagesLaws.{is_some-byte_at, bytes_at-mapped, byte_at-none}
use Rattle.sl_model.proofs.Memory.{AreWhole-pages}
use Rattle.tracer_lang.specs.Meaning.{Now, opening_now}
use Rattle.tracer_lang.specs.Tree.{ScriptTree, TracepointTree}
use Rattle.word_blocks.specs.Code.{HasBlock}
use Rattle.word_blocks.specs.Configuration.{Registers, Configuration, read, at_place, IsAt}
use Rattle.word_blocks.specs.Ways.{Leads}
use Rattle.word_blocks.proofs.Blocks.{Leads-block}
use Rattle.word_blocks.proofs.Bytes.{SameBytes, load_at-elsewhere, load_at-word}
use Rattle.tracer_compile.specs.Blocks.{constant, opening_block}
use Rattle.tracer_compile.proofs.Relation.{World, Mapped, Holds, promise, Body, Room, Roles, Matches, Stands}
use Rattle.tracer_compile.proofs.Standing.{load_at-mapped, Beside, Beside-frames}
use Rattle.tracer_compile.proofs.Storing.{is_some-loaded}
use Rattle.tracer_compile.proofs.SystemCalls.{bound_copied}
use Rattle.tracer_compile.proofs.Values.{two_parts, offset_added}

-- ---- areas

-- the bytes of an area are mapped
Mapped-area : (start size : ℕ) (words : List ℕ) (m : Pages) → ArePages m → IsArea start size words m → Mapped start size m
Mapped-area start size words m are area a from before =
    let index : ℕ = (a - start) / 4 in
    let k : ℕ = (a - start) % 4 in
    let there : start + 4 * index + k ≡ a = omega arith in
    let mapped : IsSome (get m ((start + 4 * index + k) / 4096)) = bytes_at-mapped m (start + 4 * index) 4 (is_some-loaded m (start + 4 * index) 4 _ (area index (omega arith))) k (omega arith) in
    is_some-byte_at m a (AreWhole-pages m are) ∙ subst (λ q. is_some (get m (q / 4096)) ≡ true) there mapped

-- ---- the start

zero_words : (count : ℕ) → AllByRecursion IsWord (replicate count 0)
zero_words zero = tt
zero_words (suc count) = (omega arith, zero_words count)

zero_at : (count r : ℕ) → slice_index (replicate count 0) r ≡ 0
zero_at zero r = refl
zero_at (suc count) zero = refl
zero_at (suc count) (suc r) = zero_at count r

both_zero : (b : Bool) → ◌≡◌ {A = ℕ} (if b then 0 else 0) 0
both_zero true = refl
both_zero false = refl

-- all registers are 0
no_registers : (r : ℕ) → slice_index (replicate 32 0) r ≡ read (λ q. 0) r
no_registers r = zero_at 32 r ∙ sym (both_zero (r == 0))

abbrev pub zeroed : Registers
zeroed r = 0

pub IsAt-start : (place : ℕ) (m : Pages) (s : State) → ArePages m → IsAt CODE_START (at_place place zeroed m) (bank_start place m s)
IsAt-start place m s are = record {
  place = refl;
  registers = no_registers;
  pages = refl;
  count = refl;
  words = zero_words 32;
  bytes = are;
}

-- the page behind the program's is none of the bank's
not_bank : (words : List ℕ) (page : ℕ) → page ≡ PROGRAM_PAGES → IsBankPage words page → ⊥
not_bank words page is (inl within) = omega (arith, is, within.0)
not_bank words page is (inr (inl within)) = omega (arith, is, within.0)
not_bank words page is (inr (inr (inl within))) = omega (arith, is, within.0)
not_bank words page is (inr (inr (inr within))) = omega (arith, is, within.0)

no_page : (o : Option (List ℕ)) → (is_some o ≡ true → ⊥) → o ≡ None
no_page None none = refl
no_page (Some page) none = absurd (none refl)

module _ (w : World) (m : Pages) (is : IsBankMemory w.words w.s m) where
  no_log : log_count m ≡ 0
  no_log = ap (λ o. unwrap_or o 0) (is.bank.log 0 (omega arith))

  no_output : output_count m ≡ 0
  no_output = ap (λ o. unwrap_or o 0) (is.bank.output 0 (omega arith))

  -- the program's bytes are those of the state
  program_bytes : SameBytes 0 (MEMORY_END + 4) m w.s.pages
  unfolding byte_at
  program_bytes a from before = ⊎_elim
      (λ (below : a < MEMORY_END). ap (option_and_then (λ page. slice_get page (a % 4096))) (is.program (a / 4096) (omega arith)))
      (λ (above : MEMORY_END ≤ a).
      let last : a / 4096 ≡ PROGRAM_PAGES = omega arith in
      let here : get m (a / 4096) ≡ None = no_page (get m (a / 4096)) (λ mapped. not_bank w.words (a / 4096) last (is.bank.only (a / 4096) (omega arith) mapped)) in
      let there : get w.s.pages (a / 4096) ≡ None = no_page (get w.s.pages (a / 4096)) (λ mapped. let below : a / 4096 < PROGRAM_PAGES = w.observed.pages_below (a / 4096) mapped in omega arith) in
      byte_at-none m a here ∙ sym (byte_at-none w.s.pages a there))
      (cases_lt a MEMORY_END)

  opening_holds : Holds w m
  unfolding entries_at undone
  opening_holds =
      let entries : log_of m ≡ [] = ap (entries_at m) no_log in
      record {
        contained = record {
          undone = λ page below. ap (λ l. get (undone l m) page) entries ∙ is.program page below;
          few_entries = omega (arith, no_log);
          few_words = omega (arith, no_output);
          code = is.bank.code;
        };
        frames = Mapped-area FRAMES_START FRAMES_SIZE (copied_words w.s) m is.bank.are is.bank.frames;
        log = Mapped-area LOG_START LOG_SIZE [] m is.bank.are is.bank.log;
        output = Mapped-area OUTPUT_START OUTPUT_SIZE [] m is.bank.are is.bank.output;
        copies = λ index below. is.bank.frames index (omega arith);
      }

  opening_matches : (script : ScriptTree) (t : TracepointTree) → Matches (opening_now script t w.s) m
  unfolding words_at
  opening_matches script t = record {
    words = ap (words_at m (OUTPUT_START + 4)) no_output;
    stores = no_log;
    program = program_bytes;
    are = w.observed.state.pages;
    below = w.observed.pages_below;
  }

  -- behind the copied words the frames are 0
  no_frames : (at : ℕ) → FRAMES_START + 148 ≤ at → at % 4 ≡ 0 → at < FRAMES_START + FRAMES_SIZE → load_at m at 4 ≡ Some 0
  no_frames at behind aligned before =
      let index : ℕ = (at - FRAMES_START) / 4 in
      let there : FRAMES_START + 4 * index ≡ at = omega arith in
      let count : length w.s.x ≡ 32 = w.observed.state.registers in
      let copies : length (copied_words w.s) ≡ 37 = omega (arith, length-append w.s.x (w.s.pc ∷ w.s.layout.brk_start ∷ w.s.layout.heap_limit ∷ w.s.brk ∷ w.s.brk_end ∷ [])) in
      ap (λ a. load_at m a 4) (sym there) ∙ is.bank.frames index (omega arith) ∙ ap Some (get_or_past (copied_words w.s) index 0 (omega arith))

-- ---- the tracer's own body

-- its frame lies right behind the copied words, and it returns to the first word of the code
abbrev pub outer : ℕ → Body
outer locals = record { frame = FRAMES_START + 148; locals = locals; calls = 32; place = 0; caller = 0 }

abbrev pub outer_top : ℕ → ℕ
outer_top locals = FRAMES_START + 148 + (4 * locals + 8)

pub outer_room : (locals depth : ℕ) → locals ≤ 16 → depth ≤ 64 → Room (outer locals) (outer_top locals) depth
outer_room locals depth few shallow = record { behind = omega arith; fits = omega arith }

module _ (w : World) (script : ScriptTree) (t : TracepointTree) where
  -- The opening block leads from a started bank to the body, before its first statement.
  pub Leads-opening : (place limit : ℕ) (m : Pages) (goal : ℕ → Configuration → Type 0) → IsBankMemory w.words w.s m → script.budget < 2 ^ 32 → t.locals ≤ 16 → HasBlock w.code place (opening_block script.budget t.locals) → 9 ≤ limit
      → ((left : ℕ) (y : Registers) (n : Pages) → left + 9 ≡ limit → Roles (outer t.locals) (outer_top t.locals) (opening_now script t w.s) y → Stands w (outer t.locals) (opening_now script t w.s) n → Leads (promise w) left (at_place (place + 9) y n) goal)
      → Leads (promise w) limit (at_place place zeroed m) goal
  unfolding opening_block constant
  Leads-opening place limit m goal is small few has enough further =
      let locals : ℕ = t.locals in
      let now : Now = opening_now script t w.s in
      let holds : Holds w m = opening_holds w m is in
      let at : ℕ = FRAMES_START + 148 + 4 * locals in
      let there = offset_added (FRAMES_START + 148) (FRAMES_START + 148) (4 * locals) refl (omega arith) (omega arith) in
      Leads-block (promise w) (opening_block script.budget locals) place limit zeroed m (λ y n. Roles (outer locals) (outer_top locals) now y × Stands w (outer locals) now n) goal holds has enough (
        FRAMES_START + 140,
        refl,
        w.s.brk,
        holds.copies 35 (omega arith) ∙ ap Some (bound_copied w 35 (omega arith)),
        (
          at,
          there,
          inl (omega arith, omega arith),
          load_at-mapped m at 4 (λ a from before. holds.frames a (omega arith) (omega arith)),
          λ n stored are.
              let beside : Beside w m n = Beside-frames w at 4 CODE_START m n is.bank.are are stored (omega arith) (omega arith) holds in
              let stands : Stands w (outer locals) now n = record {
                holds = beside.holds;
                body = record { few_locals = few; behind = omega arith; room = omega arith; inside = omega arith };
                matches = beside.matches now (opening_matches w m is script t);
                count = length-replicate (locals - 0) 0 ∙ omega arith;
                locals = λ index below. load_at-elsewhere (FRAMES_START + 148 + 4 * index) 4 at 4 CODE_START m n stored (inl (omega arith)) ∙ no_frames w m is (FRAMES_START + 148 + 4 * index) (omega arith) (omega arith) (omega arith) ∙ ap Some (sym (zero_at (locals - 0) index));
                place = load_at-word at CODE_START m n stored (omega arith);
                caller = load_at-elsewhere (FRAMES_START + 148 + (4 * locals + 4)) 4 at 4 CODE_START m n stored (inr (omega arith)) ∙ no_frames w m is (FRAMES_START + 148 + (4 * locals + 4)) (omega arith) (omega arith) (omega arith);
              } in
              let roles : Roles (outer locals) (outer_top locals) now _ = record {
                top_is = offset_added (FRAMES_START + 148) (FRAMES_START + 148) (4 * locals + 8) refl (omega arith) (omega arith);
                frame_is = refl;
                units_is = two_parts script.budget small;
                calls_is = refl;
                break_is = refl;
              } in
              (beside.holds, (roles, stands)),
        ),
      )
      (λ left y n counted holds' reached. further left y n counted reached.0 reached.1)
