-- What a recording records at its checkpoints: the pages, and the state as far as it can be one.
-- Checkpoint 0 is the opening state, those from 1 on are listed, and the last is that of the end.
use Rattle.std.specs.Prelude.{ℕ, zero, suc, ◌+◌, ◌-◌, ◌*◌, ◌/◌, ◌==◌, ◌||◌, Bool, false, List, [], ◌∷◌, ◌++◌, length, take, min, max, unwrap_or, slice_get, if◌then◌else◌}
use Rattle.std.specs.FinMap.{get, insert, contains_key}
use Rattle.sl_model.specs.declared.run_state.RunState.TheVariants.{Running}
use Rattle.sl_model.specs.Pages.{Pages}
use Rattle.sl_model.specs.Mapping.{zero_page, map_pages}
use Rattle.sl_model.specs.State.{State}
use Rattle.rec_format.specs.declared.recording.Recording.{Recording}
use Rattle.rec_format.specs.declared.recording.CheckpointData.{CheckpointData}
use Rattle.rec_format.specs.declared.recording.ListedPage.{ListedPage}
use Rattle.rec_format.specs.Rules.{listings}

-- ---- the checkpoints by their numbers

-- those from 1 on
abbrev pub all_checkpoints : Recording → List CheckpointData
all_checkpoints rec = rec.checkpoints ++ rec.last ∷ []

-- the number of the end's, which is the number of intervals between neighbors
abbrev pub end_place : Recording → ℕ
end_place rec = length rec.checkpoints + 1

-- checkpoint k, of those from 1 on, and the one of the end for every number behind it
abbrev pub checkpoint_at : Recording → ℕ → CheckpointData
checkpoint_at rec k = unwrap_or (slice_get rec.checkpoints (k - 1)) rec.last

-- how many instructions were done at checkpoint k
abbrev pub recorded_count : Recording → ℕ → ℕ
recorded_count rec zero = 0
recorded_count rec (suc k) = (checkpoint_at rec (suc k)).count

-- ---- the pages that a checkpoint records

-- the pages that are listed at or before a checkpoint, the first listed one first
abbrev pub listed_to : Recording → ℕ → List ListedPage
listed_to rec k = listings (take k (all_checkpoints rec))

-- the bytes of the last listing of a page, or others where there is none
abbrev pub last_listing : List ℕ → List ListedPage → ℕ → List ℕ
last_listing bytes [] number = bytes
last_listing bytes (page ∷ pages) number =
    last_listing (if page.number == number then page.bytes else bytes) pages number

abbrev pub is_listed : List ListedPage → ℕ → Bool
is_listed [] number = false
is_listed (page ∷ pages) number = page.number == number || is_listed pages number

-- the page that a checkpoint records: its last listing, else its opening content, else zeros
abbrev pub recorded_page : Pages → Recording → ℕ → ℕ → List ℕ
recorded_page opened rec k number =
    last_listing (unwrap_or (get opened number) zero_page) (listed_to rec k) number

-- ---- the state that a checkpoint records

-- The heap end that a checkpoint records. One that no run has, which is no multiple of 4,096 from
-- the heap's start to its limit, stands for the greatest such number below it, or for the heap's
-- start where there is none.
abbrev pub recorded_end : State → ℕ → ℕ
recorded_end opened brk_end =
    max opened.layout.brk_start (min opened.layout.heap_limit (brk_end / 4096 * 4096))

-- a listed page in memory; one that is not mapped is passed over
abbrev pub put_listed : Pages → ListedPage → Pages
put_listed pages page =
    if contains_key pages page.number then insert pages page.number page.bytes else pages

-- the same for listed pages in order
unfoldable pub put_all_listed : Pages → List ListedPage → Pages
put_all_listed pages [] = pages
put_all_listed pages (page ∷ listed) = put_all_listed (put_listed pages page) listed

-- the opening memory, with zeros up to a heap end where nothing is mapped
abbrev pub opened_to : State → ℕ → Pages
opened_to opened brk_end =
    let start = opened.layout.brk_start in
    map_pages opened.pages (start / 4096) ((brk_end - start) / 4096)

-- the memory of checkpoint k with this heap end: every mapped page as it was last listed
abbrev pub recorded_pages : Recording → State → ℕ → ℕ → Pages
recorded_pages rec opened k brk_end = put_all_listed (opened_to opened brk_end) (listed_to rec k)

-- the state that these data of checkpoint k record: a program that runs
unfoldable pub recorded_state_of : Recording → State → ℕ → CheckpointData → State
recorded_state_of rec opened k checkpoint =
    record {
      pc = checkpoint.pc;
      x = 0 ∷ checkpoint.x;
      pages = recorded_pages rec opened k (recorded_end opened checkpoint.brk_end);
      brk = checkpoint.brk;
      brk_end = recorded_end opened checkpoint.brk_end;
      next_call = checkpoint.next_call;
      status = Running;
      count = checkpoint.count;
      layout = opened.layout;
    }

-- the state at checkpoint k: the opening state for 0
abbrev pub recorded_state : Recording → State → ℕ → State
recorded_state rec opened zero = opened
recorded_state rec opened (suc k) = recorded_state_of rec opened (suc k) (checkpoint_at rec (suc k))
