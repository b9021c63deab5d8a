-- The areas of a bank, and the memory that they make, alone and over that of a program.
use Rattle.std.specs.Prelude.{◌≡◌, ℕ, zero, suc, ◌+◌, ◌*◌, ◌/◌, ◌%◌, ◌<◌, ◌≤◌, ◌==◌, List, [], length, take, drop, Option, None, IsSome, if◌then◌else◌, refl}
use Rattle.std.specs.List.{All}
use Rattle.std.specs.Option.{option_map}
use Rattle.std.specs.FinMap.{get, insert, empty}
use Rattle.std.specs.Coded.{Coded, code_by, coded×, coded_ℕ, coded_list}
use Rattle.sl_model.specs.declared.bank.TheConstants.{CODE_START, MOST_CODE_WORDS, FRAMES_START, FRAMES_SIZE, LOG_START, LOG_SIZE, OUTPUT_START, OUTPUT_SIZE}
use Rattle.sl_model.specs.declared.layout.TheConstants.{PAGE_SIZE, PROGRAM_PAGES}
use Rattle.sl_model.specs.Pages.{Pages}
use Rattle.sl_model.specs.Bank.{IsArea, code_size}
use Rattle.undo_bank.specs.declared.regions.TheConstants.{REGION, CODE, FRAMES, LOG, OUTPUT}
use Rattle.undo_bank.specs.Dense.{load_in, store_in}

-- what a bank holds: the bytes of its areas, and how many entries the last undo put back
pub record Areas : Type 0 where
  pub code : List ℕ
  pub frames : List ℕ
  pub log : List ℕ
  pub output : List ℕ
  pub last_log_len : ℕ

-- it is stored as the tuple of its fields
abbrev pub areas_code : Coded Areas
areas_code =
    code_by (List ℕ × (List ℕ × (List ℕ × (List ℕ × ℕ))))
    (coded× (coded_list coded_ℕ) (coded× (coded_list coded_ℕ)
    (coded× (coded_list coded_ℕ) (coded× (coded_list coded_ℕ) coded_ℕ))))
    (λ a. (a.code, (a.frames, (a.log, (a.output, a.last_log_len)))))
    (λ p. record {
      code = p.0;
      frames = p.1.0;
      log = p.1.1.0;
      output = p.1.1.1.0;
      last_log_len = p.1.1.1.1;
    })
    (λ _. refl)

-- bytes in whole pages
pub record IsDense (area : List ℕ) : Type 0 where
  pub whole : length area % PAGE_SIZE ≡ 0
  pub bytes : All (λ b. b < 256) area

-- what holds of the areas of every bank
pub record AreAreas (a : Areas) : Type 0 where
  pub code : IsDense a.code
  pub frames : IsDense a.frames
  pub log : IsDense a.log
  pub output : IsDense a.output
  pub code_size : length a.code ≤ 4 * MOST_CODE_WORDS
  pub frames_size : length a.frames ≡ FRAMES_SIZE
  pub log_size : length a.log ≡ LOG_SIZE
  pub output_size : length a.output ≡ OUTPUT_SIZE

-- ---- as memory

-- so many pages from one on, with these bytes, over other memory
unfoldable pub lay : ℕ → ℕ → List ℕ → Pages → Pages
lay first zero bytes pages = pages
lay first (suc count) bytes pages =
    insert (lay (first + 1) count (drop PAGE_SIZE bytes) pages) first (take PAGE_SIZE bytes)

-- an area from an address on, over other memory
abbrev pub lay_at : ℕ → List ℕ → Pages → Pages
lay_at start bytes pages = lay (start / PAGE_SIZE) (length bytes / PAGE_SIZE) bytes pages

-- the memory of the areas over that of a program
unfoldable pub areas_over : Areas → Pages → Pages
areas_over a pages =
    lay_at CODE_START a.code (lay_at FRAMES_START a.frames
    (lay_at LOG_START a.log (lay_at OUTPUT_START a.output pages)))

-- the memory of the areas alone
abbrev pub bank_pages : Areas → Pages
bank_pages a = areas_over a empty

-- what a load of bytes of the areas gives, or None where one of them is in no area
unfoldable pub load_from : Areas → ℕ → ℕ → Option ℕ
load_from a address width =
    let offset : ℕ = address % REGION in
    if address / REGION == CODE then load_in a.code offset width
    else if address / REGION == FRAMES then load_in a.frames offset width
    else if address / REGION == LOG then load_in a.log offset width
    else if address / REGION == OUTPUT then load_in a.output offset width
    else None

-- the areas after a store to bytes of theirs, or None where one of them is in no area
unfoldable pub store_to : Areas → ℕ → ℕ → ℕ → Option Areas
store_to a address width value =
    let offset : ℕ = address % REGION in
    if address / REGION == CODE
    then option_map (λ bytes. record a { code = bytes }) (store_in a.code offset width value)
    else if address / REGION == FRAMES
    then option_map (λ bytes. record a { frames = bytes }) (store_in a.frames offset width value)
    else if address / REGION == LOG
    then option_map (λ bytes. record a { log = bytes }) (store_in a.log offset width value)
    else if address / REGION == OUTPUT
    then option_map (λ bytes. record a { output = bytes }) (store_in a.output offset width value)
    else None

-- memory of a program: none of its pages is a bank's
abbrev pub IsProgram : Pages → Type 0
IsProgram pages = (page : ℕ) → IsSome (get pages page) → page < PROGRAM_PAGES

-- ---- what a bank is made from, and how it starts

-- the code area is that of these words
pub record IsMadeFrom (words : List ℕ) (a : Areas) : Type 0 where
  pub size : length a.code ≡ code_size words
  pub code : IsArea CODE_START (code_size words) words (bank_pages a)

-- the frames begin with these words, and every other word of frames, log and output is 0
pub record IsStarted (copies : List ℕ) (a : Areas) : Type 0 where
  pub frames : IsArea FRAMES_START FRAMES_SIZE copies (bank_pages a)
  pub log : IsArea LOG_START LOG_SIZE [] (bank_pages a)
  pub output : IsArea OUTPUT_START OUTPUT_SIZE [] (bank_pages a)
