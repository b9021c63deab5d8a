-- The memory of a bank over that of a program: what each part of it is, and what a run that keeps
-- the code leaves.
use Rattle.std.specs.Prelude.{Option, IsSome, is_some, unwrap_or, ◌⊎◌, slice_get}
use Rattle.std.specs.Ordering.{nat_cmp}
use Rattle.std.specs.Option.{option_and_then, option_map}
use Rattle.std.specs.Cmp.{nat_cmp_total}
use Rattle.std.specs.FinMap.{get, insert, empty, gets, get-empty, same_map, nat_cmp-IsAntisymmetric}
use Rattle.std.proofs.Common.{◌≡◌, ◌≢◌, ℕ, zero, suc, ◌+◌, ◌*◌, ◌/◌, ◌%◌, ◌<◌, ◌≤◌, List, [], length, take, drop, Some, None, refl, ap, ◌∙◌, sym, arith, inl, inr, ⊎_elim}
use Rattle.std.proofs.lemmas.Bool.{cases_eq, cases_lt}
use Rattle.std.proofs.lemmas.Grind.{common_steps}
use Rattle.sl_model.specs.declared.bank.TheConstants.{CODE_START, FRAMES_START, FRAMES_SIZE, LOG_START, LOG_SIZE, OUTPUT_START, OUTPUT_SIZE}
use Rattle.sl_model.specs.declared.layout.TheConstants.{PROGRAM_PAGES, MEMORY_END}
use Rattle.sl_model.specs.Pages.{Pages, ArePages, byte_at, load_at}
use Rattle.sl_model.specs.State.{State}
use Rattle.sl_model.specs.Bank.{IsArea, IsWithin, IsBankPage, IsStartedBank, HaveOneProgram, IsBankMemory, copied_words, code_size, words_at, output_count, output_of}
use Rattle.sl_model.specs.Undo.{word_at, entry_address, entries_at, log_count, log_of}
use Rattle.undo_bank.specs.Areas.{Areas, AreAreas, lay, lay_at, areas_over, bank_pages, IsProgram, IsMadeFrom, IsStarted}
use Rattle.undo_bank.proofs.LayLaws.{ArePages-lay_at, get-lay_elsewhere}
use Rattle.undo_bank.proofs.AreasLaws.{get-below, bytes-same}
use Rattle.undo_bank.proofs.LogLaws.{entries-same, same_entry}

-- ---- the program's part

pub HaveOneProgram-over : (a : Areas) (base : Pages) → HaveOneProgram (areas_over a base) base
HaveOneProgram-over a base page below = get-below a base page (omega arith)

-- programs' memories that are one below the end of a program's memory are one
pub same_program : (first second : Pages) → IsProgram first → IsProgram second → HaveOneProgram first second → first ≡ second
same_program first second is is' same = same_map nat_cmp_total nat_cmp-IsAntisymmetric first second (λ page. ⊎_elim
    (λ (below : page < PROGRAM_PAGES). same page below)
    (λ (above : PROGRAM_PAGES ≤ page). none first is page above ∙ sym (none second is' page above))
    (cases_lt page PROGRAM_PAGES))
  where
    none : (pages : Pages) → IsProgram pages → (page : ℕ) → PROGRAM_PAGES ≤ page → get pages page ≡ None
    none pages program page above = of (get pages page) refl
      where
        of : (o : Option (List ℕ)) → get pages page ≡ o → get pages page ≡ None
        of None found = found
        of (Some bytes) found = let below = program page (ap is_some found) in absurd (omega arith)

-- a program's memory is that part of the memory over it
pub program-over : (a : Areas) (base pages : Pages) → IsProgram base → IsProgram pages → HaveOneProgram (areas_over a base) pages → base ≡ pages
program-over a base pages is is' same = same_program base pages is is' (λ page below. sym (HaveOneProgram-over a base page below) ∙ same page below)

-- ---- the bank's part

insert-same_here : (p q : Pages) (number k : ℕ) (page : List ℕ) → get p k ≡ get q k → get (insert p number page) k ≡ get (insert q number page) k
insert-same_here p q number k page same = ⊎_elim
    (λ (here : k ≡ number).
    let left : get (insert p number page) k ≡ Some page = grind (arith, gets, common_steps, here) in
    let right : get (insert q number page) k ≡ Some page = grind (arith, gets, common_steps, here) in
    left ∙ sym right)
    (λ (apart : k ≢ number).
    let left : get (insert p number page) k ≡ get p k = grind (arith, gets, common_steps, apart) in
    let right : get (insert q number page) k ≡ get q k = grind (arith, gets, common_steps, apart) in
    left ∙ same ∙ sym right)
    (cases_eq k number)

lay-same : (first count : ℕ) (bytes : List ℕ) (p q : Pages) (k : ℕ) → get p k ≡ get q k → get (lay first count bytes p) k ≡ get (lay first count bytes q) k
unfolding lay
lay-same first zero bytes p q k same = same
lay-same first (suc count) bytes p q k same = insert-same_here (lay (first + 1) count (drop 4096 bytes) p) (lay (first + 1) count (drop 4096 bytes) q) first k (take 4096 bytes) (lay-same (first + 1) count (drop 4096 bytes) p q k same)

-- above the program's memory, it is that of the bank alone
pub get-above : (a : Areas) (base : Pages) (page : ℕ) → IsProgram base → PROGRAM_PAGES ≤ page → get (areas_over a base) page ≡ get (bank_pages a) page
unfolding areas_over
get-above a base page program above =
    lay-same 0xC0000 (length a.code / 4096) a.code _ _ page (lay-same 0xD0000 (length a.frames / 4096) a.frames _ _ page
    (lay-same 0xE0000 (length a.log / 4096) a.log _ _ page (lay-same 0xF0000 (length a.output / 4096) a.output base empty page (of (get base page) refl))))
  where
    of : (o : Option (List ℕ)) → get base page ≡ o → get base page ≡ get (empty {R = nat_cmp}) page
    of None found = found ∙ sym (get-empty nat_cmp page)
    of (Some bytes) found = let below = program page (ap is_some found) in absurd (omega arith)

byte-above : (a : Areas) (base : Pages) (address : ℕ) → IsProgram base → MEMORY_END ≤ address → byte_at (areas_over a base) address ≡ byte_at (bank_pages a) address
unfolding byte_at
byte-above a base address program above = ap (option_and_then (λ page. slice_get page (address % 4096))) (get-above a base (address / 4096) program (omega arith))

pub load-over : (a : Areas) (base : Pages) (address width : ℕ) → IsProgram base → MEMORY_END ≤ address → load_at (areas_over a base) address width ≡ load_at (bank_pages a) address width
unfolding load_at
load-over a base address width program above =
    ap (option_map _) (bytes-same (areas_over a base) (bank_pages a) address width (λ k below. byte-above a base (address + k) program (omega arith)))

word-over : (a : Areas) (base : Pages) (address : ℕ) → IsProgram base → MEMORY_END ≤ address → word_at (areas_over a base) address ≡ word_at (bank_pages a) address
word-over a base address program above = ap (λ o. unwrap_or o 0) (load-over a base address 4 program above)

pub IsArea-over : (start size : ℕ) (words : List ℕ) (a : Areas) (base : Pages) → IsProgram base → MEMORY_END ≤ start → IsArea start size words (bank_pages a) → IsArea start size words (areas_over a base)
IsArea-over start size words a base program above is index below = load-over a base (start + 4 * index) 4 program (omega arith) ∙ is index below

pub IsArea-alone : (start size : ℕ) (words : List ℕ) (a : Areas) (base : Pages) → IsProgram base → MEMORY_END ≤ start → IsArea start size words (areas_over a base) → IsArea start size words (bank_pages a)
IsArea-alone start size words a base program above is index below = sym (load-over a base (start + 4 * index) 4 program (omega arith)) ∙ is index below

-- its log and its output are those of the bank
pub log_of-over : (a : Areas) (base : Pages) → IsProgram base → log_of (areas_over a base) ≡ log_of (bank_pages a)
log_of-over a base program =
    ap (entries_at (areas_over a base)) (word-over a base LOG_START program (omega arith))
    ∙ entries-same (areas_over a base) (bank_pages a) (log_count (bank_pages a)) (λ index below.
    same_entry _ _ _ _ _ _ (word-over a base (entry_address index) program (omega arith)) (word-over a base (entry_address index + 4) program (omega arith)) (word-over a base (entry_address index + 8) program (omega arith)))

words-over : (a : Areas) (base : Pages) (address count : ℕ) → IsProgram base → MEMORY_END ≤ address → words_at (areas_over a base) address count ≡ words_at (bank_pages a) address count
unfolding words_at
words-over a base address zero program above = refl
words-over a base address (suc count) program above = rw (word-over a base address program above, words-over a base (address + 4) count program (omega arith)) refl

pub output_of-over : (a : Areas) (base : Pages) → IsProgram base → output_of (areas_over a base) ≡ output_of (bank_pages a)
output_of-over a base program =
    ap (words_at (areas_over a base) (OUTPUT_START + 4)) (word-over a base OUTPUT_START program (omega arith))
    ∙ words-over a base (OUTPUT_START + 4) (output_count (bank_pages a)) program (omega arith)

-- ---- a bank that is started

pub ArePages-over : (a : Areas) (base : Pages) → AreAreas a → ArePages base → ArePages (areas_over a base)
unfolding areas_over
ArePages-over a base are whole =
    let code = are.code_size in
    let frames = are.frames_size in
    let log = are.log_size in
    let output = are.output_size in
    ArePages-lay_at CODE_START a.code _ are.code.whole are.code.bytes (omega arith)
    (ArePages-lay_at FRAMES_START a.frames _ are.frames.whole are.frames.bytes (omega arith)
    (ArePages-lay_at LOG_START a.log _ are.log.whole are.log.bytes (omega arith)
    (ArePages-lay_at OUTPUT_START a.output base are.output.whole are.output.bytes (omega arith) whole)))

-- a page of an area, or one of the memory below it
laid_page : (start size : ℕ) (area : List ℕ) (pages : Pages) (page : ℕ) → start % 4096 ≡ 0 → length area % 4096 ≡ 0 → length area ≡ size → IsSome (get (lay_at start area pages) page) → IsWithin start size page ⊎ IsSome (get pages page)
laid_page start size area pages page aligned whole long some = ⊎_elim
    (λ (before : page < start / 4096). inr (ap is_some (sym (get-lay_elsewhere (start / 4096) (length area / 4096) area pages page (inl before))) ∙ some))
    (λ (from : start / 4096 ≤ page). ⊎_elim
    (λ (inside : page < start / 4096 + length area / 4096). inl (omega arith, omega arith))
    (λ (behind : start / 4096 + length area / 4096 ≤ page). inr (ap is_some (sym (get-lay_elsewhere (start / 4096) (length area / 4096) area pages page (inr behind))) ∙ some))
    (cases_lt page (start / 4096 + length area / 4096)))
    (cases_lt page (start / 4096))

bank_page : (words : List ℕ) (a : Areas) (base : Pages) → AreAreas a → IsProgram base → length a.code ≡ code_size words → (page : ℕ) → PROGRAM_PAGES ≤ page → IsSome (get (areas_over a base) page) → IsBankPage words page
unfolding areas_over
bank_page words a base are program size page above some = ⊎_elim
    (λ (code : IsWithin CODE_START (code_size words) page). inl code)
    (λ (rest : IsSome (get (lay_at FRAMES_START a.frames (lay_at LOG_START a.log (lay_at OUTPUT_START a.output base))) page)). ⊎_elim
    (λ (frames : IsWithin FRAMES_START FRAMES_SIZE page). inr (inl frames))
    (λ (rest : IsSome (get (lay_at LOG_START a.log (lay_at OUTPUT_START a.output base)) page)). ⊎_elim
    (λ (log : IsWithin LOG_START LOG_SIZE page). inr (inr (inl log)))
    (λ (rest : IsSome (get (lay_at OUTPUT_START a.output base) page)). ⊎_elim
    (λ (output : IsWithin OUTPUT_START OUTPUT_SIZE page). inr (inr (inr output)))
    (λ (rest : IsSome (get base page)). let below = program page rest in absurd (omega arith))
    (laid_page OUTPUT_START OUTPUT_SIZE a.output base page refl are.output.whole are.output_size rest))
    (laid_page LOG_START LOG_SIZE a.log (lay_at OUTPUT_START a.output base) page refl are.log.whole are.log_size rest))
    (laid_page FRAMES_START FRAMES_SIZE a.frames (lay_at LOG_START a.log (lay_at OUTPUT_START a.output base)) page refl are.frames.whole are.frames_size rest))
    (laid_page CODE_START (code_size words) a.code (lay_at FRAMES_START a.frames (lay_at LOG_START a.log (lay_at OUTPUT_START a.output base))) page refl are.code.whole size some)

pub IsStartedBank-over : (words copies : List ℕ) (a : Areas) (base : Pages) → AreAreas a → IsMadeFrom words a → IsStarted copies a → IsProgram base → ArePages base → IsStartedBank words copies (areas_over a base)
IsStartedBank-over words copies a base are made started program whole = record {
  are = ArePages-over a base are whole;
  code = IsArea-over CODE_START (code_size words) words a base program (omega arith) made.code;
  frames = IsArea-over FRAMES_START FRAMES_SIZE copies a base program (omega arith) started.frames;
  log = IsArea-over LOG_START LOG_SIZE [] a base program (omega arith) started.log;
  output = IsArea-over OUTPUT_START OUTPUT_SIZE [] a base program (omega arith) started.output;
  only = bank_page words a base are program made.size;
}

-- over a program's memory it is the memory in which a tracer starts
pub IsBankMemory-over : (words : List ℕ) (s : State) (a : Areas) → AreAreas a → IsMadeFrom words a → IsStarted (copied_words s) a → IsProgram s.pages → ArePages s.pages → IsBankMemory words s (areas_over a s.pages)
IsBankMemory-over words s a are made started program whole = record {
  program = HaveOneProgram-over a s.pages;
  bank = IsStartedBank-over words (copied_words s) a s.pages are made started program whole;
}

-- a bank whose code stands still is made from the same words
pub IsMadeFrom-kept : (words : List ℕ) (before after : Areas) (base : Pages) → IsMadeFrom words before → IsProgram base → length after.code ≡ length before.code → IsArea CODE_START (code_size words) words (areas_over after base) → IsMadeFrom words after
IsMadeFrom-kept words before after base made program size code = record {
  size = size ∙ made.size;
  code = IsArea-alone CODE_START (code_size words) words after base program (omega arith) code;
}
