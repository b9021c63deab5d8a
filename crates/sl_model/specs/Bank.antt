-- The bank: its areas beside the memory of the program, and the state in which a tracer starts.
use Rattle.std.specs.Prelude.{◌≡◌, ℕ, zero, suc, ◌+◌, ◌-◌, ◌*◌, ◌/◌, ◌<◌, ◌≤◌, ◌⊎◌, List, [], ◌∷◌, ◌++◌, length, replicate, Some, IsSome, slice_index_or}
use Rattle.std.specs.FinMap.{get}
use Rattle.sl_model.specs.declared.bank.TheConstants.{CODE_START, FRAMES_START, FRAMES_SIZE, LOG_START, LOG_SIZE, OUTPUT_START, OUTPUT_SIZE}
use Rattle.sl_model.specs.declared.layout.TheConstants.{PAGE_SIZE, PROGRAM_PAGES}
use Rattle.sl_model.specs.declared.run_state.RunState.TheVariants.{Running}
use Rattle.sl_model.specs.Pages.{Pages, ArePages, load_at}
use Rattle.sl_model.specs.State.{State}
use Rattle.sl_model.specs.Undo.{word_at}

-- the bytes of the pages that so many words of code take
abbrev pub code_size : List ℕ → ℕ
code_size words = (4 * length words + (PAGE_SIZE - 1)) / PAGE_SIZE * PAGE_SIZE

-- An area of whole pages begins with these words, and every further word of it is 0.
abbrev pub IsArea : ℕ → ℕ → List ℕ → Pages → Type 0
IsArea start size words pages =
    (index : ℕ) → 4 * index < size
    → load_at pages (start + 4 * index) 4 ≡ Some (slice_index_or words index 0)

-- a page of an area
abbrev pub IsWithin : ℕ → ℕ → ℕ → Type 0
IsWithin start size page = (start ≤ page * PAGE_SIZE) × (page * PAGE_SIZE < start + size)

-- a page of the bank for code of these words
abbrev pub IsBankPage : List ℕ → ℕ → Type 0
IsBankPage words page =
    IsWithin CODE_START (code_size words) page ⊎ IsWithin FRAMES_START FRAMES_SIZE page
    ⊎ IsWithin LOG_START LOG_SIZE page ⊎ IsWithin OUTPUT_START OUTPUT_SIZE page

-- The bank before a tracer's first instruction: the code holds its words, the frames begin with
-- the copied ones, log and output are empty, and beyond the program's pages nothing else is mapped.
pub record IsStartedBank (words copies : List ℕ) (pages : Pages) : Type 0 where
  pub are : ArePages pages
  pub code : IsArea CODE_START (code_size words) words pages
  pub frames : IsArea FRAMES_START FRAMES_SIZE copies pages
  pub log : IsArea LOG_START LOG_SIZE [] pages
  pub output : IsArea OUTPUT_START OUTPUT_SIZE [] pages
  pub only : (page : ℕ) → PROGRAM_PAGES ≤ page → IsSome (get pages page) → IsBankPage words page

-- two memories have the same program: the same pages below the end of a program's memory
abbrev pub HaveOneProgram : Pages → Pages → Type 0
HaveOneProgram first second =
    (page : ℕ) → page < PROGRAM_PAGES → get first page ≡ get second page

-- ---- the start of a tracer

-- the words of a state that a tracer reads: x0 to x31, pc, both bounds of the heap, the break and
-- the mapped end of the heap
abbrev pub copied_words : State → List ℕ
copied_words s =
    s.x ++ s.pc ∷ s.layout.brk_start ∷ s.layout.heap_limit ∷ s.brk ∷ s.brk_end ∷ []

-- memory in which a tracer starts at a state: the program's and a started bank's
pub record IsBankMemory (words : List ℕ) (s : State) (pages : Pages) : Type 0 where
  pub program : HaveOneProgram pages s.pages
  pub bank : IsStartedBank words (copied_words s) pages

-- a state at a word of the code, with such a memory, before its first instruction: all registers
-- are 0
abbrev pub bank_start : ℕ → Pages → State → State
bank_start place pages s = record s {
  pc = CODE_START + 4 * place;
  x = replicate 32 0;
  pages = pages;
  status = Running;
  count = 0;
}

-- ---- what a tracer leaves

-- so many words from an address on
unfoldable pub words_at : Pages → ℕ → ℕ → List ℕ
words_at pages address zero = []
words_at pages address (suc count) = word_at pages address ∷ words_at pages (address + 4) count

-- how many words of output there are
abbrev pub output_count : Pages → ℕ
output_count pages = word_at pages OUTPUT_START

-- the words of output
abbrev pub output_of : Pages → List ℕ
output_of pages = words_at pages (OUTPUT_START + 4) (output_count pages)
