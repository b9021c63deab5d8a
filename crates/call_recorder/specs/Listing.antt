-- The checkpoints of some states: what each of them lists, and how many of them are kept.
use Rattle.std.specs.Prelude.{ℕ, ◌-◌, List, [], ◌∷◌, length, take, drop, Option, Some, None, unwrap_or, nat_le, if◌then◌else◌}
use Rattle.std.specs.List.{flat_map}
use Rattle.std.specs.FinMap.{get}
use Rattle.std.specs.Str.{bytes_eq}
use Rattle.sl_model.specs.Pages.{Pages}
use Rattle.sl_model.specs.Mapping.{zero_page}
use Rattle.sl_model.specs.State.{State}
use Rattle.rec_format.specs.declared.limits.TheConstants.{MOST_CHECKPOINTS}
use Rattle.rec_format.specs.declared.recording.CheckpointData.{CheckpointData}
use Rattle.rec_format.specs.declared.recording.ListedPage.{ListedPage}
use Rattle.rec_format.specs.Compared.{PAGE_NUMBERS}
use Rattle.rec_format.specs.Spelling.{checkpoint}

-- ---- the pages of a checkpoint

-- the bytes of a page in a memory; zeros where it is not mapped
abbrev pub page_in : Pages → ℕ → List ℕ
page_in pages number = unwrap_or (get pages number) zero_page

-- a page, as it is listed where it is mapped and has other bytes than those recorded before
abbrev pub listed_over : List ℕ → ℕ → Option (List ℕ) → List ListedPage
listed_over recorded number None = []
listed_over recorded number (Some bytes) =
    if bytes_eq recorded bytes then [] else record { number = number; bytes = bytes } ∷ []

abbrev pub changed_page : (ℕ → List ℕ) → Pages → ℕ → List ListedPage
changed_page recorded now number = listed_over (recorded number) number (get now number)

-- the pages of a memory that differ from those recorded before, by rising number
unfoldable pub changed_pages : (ℕ → List ℕ) → Pages → List ListedPage
changed_pages recorded now = flat_map (changed_page recorded now) PAGE_NUMBERS

-- ---- checkpoints

-- a state as the checkpoint that lists these pages
abbrev pub checkpoint_with : State → List ListedPage → CheckpointData
checkpoint_with s pages =
    record {
      count = s.count;
      pc = s.pc;
      x = drop 1 s.x;
      brk = s.brk;
      brk_end = s.brk_end;
      next_call = s.next_call;
      pages = pages;
    }

-- a state as the checkpoint behind one that records these pages
abbrev pub checkpoint_of : (ℕ → List ℕ) → State → CheckpointData
checkpoint_of recorded s = checkpoint_with s (changed_pages recorded s.pages)

-- the checkpoints of some states in order, each of which lists what changed since the one before
abbrev pub checkpoints_of : (ℕ → List ℕ) → List State → List CheckpointData
checkpoints_of recorded [] = []
checkpoints_of recorded (s ∷ states) =
    checkpoint_of recorded s ∷ checkpoints_of (page_in s.pages) states

-- ---- how many of them are kept

-- the most bytes that all checkpoints before the end take in a recording: half of its greatest
-- length
abbrev pub MOST_CHECKPOINT_BYTES : ℕ
MOST_CHECKPOINT_BYTES = 134217728

-- the first of some checkpoints, as far as so many bytes go
unfoldable pub within_bytes : ℕ → List CheckpointData → List CheckpointData
within_bytes room [] = []
within_bytes room (c ∷ cs) =
    let size = length (checkpoint c) in
    if nat_le size room then c ∷ within_bytes (room - size) cs else []

-- the first of some checkpoints, as far as their number and their bytes go
abbrev pub kept_of : List CheckpointData → List CheckpointData
kept_of checkpoints = take MOST_CHECKPOINTS (within_bytes MOST_CHECKPOINT_BYTES checkpoints)
