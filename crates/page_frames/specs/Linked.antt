-- Frames that are linked by their indexes.
use Rattle.std.specs.Prelude.{◌≡◌, ℕ, zero, suc, ◌%◌, ◌<◌, ◌≤◌, nat_eq, if◌then◌else◌}
use Rattle.std.specs.Prelude.{List, ◌++◌, length, Bool, false, slice_get}
use Rattle.std.specs.Prelude.{slice_index_or, Option, Some, None, IfSome}
use Rattle.std.specs.Option.{option_and_then}
use Rattle.std.specs.FinMap.{empty, insert}
use Rattle.sl_model.specs.Pages.{Pages, IsPage}
use Rattle.sl_model.specs.declared.layout.TheConstants.{PROGRAM_PAGES, MOST_PAGES}
use Rattle.page_frames.specs.declared.frame.Frame.{Frame}
use Rattle.page_frames.specs.declared.table.Table.{Table}
use Rattle.page_frames.specs.declared.table.TheConstants.{BUCKETS}

-- ---- chains

-- the greatest number below n that a test takes
abbrev pub newest : (ℕ → Bool) → ℕ → Option ℕ
newest test zero = None
newest test (suc n) = if test n then Some n else newest test n

-- whether a frame is that of a page
abbrev pub is_of_page : ℕ → Option Frame → Bool
is_of_page page None = false
is_of_page page (Some f) = nat_eq f.page page

-- whether it stands in a bucket
abbrev pub is_in_bucket : ℕ → Option Frame → Bool
is_in_bucket bucket None = false
is_in_bucket bucket (Some f) = nat_eq (f.page % BUCKETS) bucket

-- the index of the frame of a page among the first n frames
abbrev pub index_of : List Frame → ℕ → ℕ → Option ℕ
index_of frames n page = newest (λ i. is_of_page page (slice_get frames i)) n

-- the index of the first frame of a bucket among them
abbrev pub first_of : List Frame → ℕ → ℕ → Option ℕ
first_of frames n bucket = newest (λ i. is_in_bucket bucket (slice_get frames i)) n

-- ---- what the frames in use hold

-- the frame of a page
abbrev pub frame_of : Table → ℕ → Option Frame
frame_of t page =
    option_and_then (λ i. slice_get t.frames.items i) (index_of t.frames.items t.used page)

-- the place of a page in the list of dirty pages, as its frame tells it
abbrev pub place_of : Table → ℕ → Option ℕ
place_of table page = option_and_then (λ f. f.place) (frame_of table page)

abbrev pub with_frame : Option Frame → Pages → Pages
with_frame None pages = pages
with_frame (Some f) pages = insert pages f.page f.bytes

-- the pages of the first n frames
abbrev pub pages_below : List Frame → ℕ → Pages
pages_below frames zero = empty
pages_below frames (suc n) = with_frame (slice_get frames n) (pages_below frames n)

abbrev pub pages_of : Table → Pages
pages_of t = pages_below t.frames.items t.used

-- ---- what holds of them

-- A frame in use leads to the next one of its bucket below it, and no frame below it is of its
-- page. So it stands in the chain of its bucket once, and in no other.
pub record IsFrame (frames : List Frame) (i : ℕ) (f : Frame) : Type 0 where
  pub next : f.next ≡ first_of frames i (f.page % BUCKETS)
  pub alone : index_of frames i f.page ≡ None
  pub whole : IsPage f.bytes
  pub below : f.page < PROGRAM_PAGES

pub record IsTable (t : Table) : Type 0 where
  -- each bucket begins with its newest frame in use, so that no spare frame is reached
  pub heads : (bucket : ℕ) → bucket < BUCKETS
      → slice_index_or t.heads bucket None ≡ first_of t.frames.items t.used bucket
  pub linked : (i : ℕ) → i < t.used
      → IfSome (slice_get t.frames.items i) (IsFrame t.frames.items i)
  pub buckets : length t.heads ≡ BUCKETS
  pub within : t.used ≤ length t.frames.items
  pub few : t.used ≤ MOST_PAGES

-- ---- changes

-- further spare frames
pub record IsGrown (before after : Table) : Type 0 where
  pub heads : after.heads ≡ before.heads
  pub used : after.used ≡ before.used
  pub frames : (more : List Frame) × (after.frames.items ≡ before.frames.items ++ more)

-- a page has a frame, and each other page the one that it had
pub record Puts (before : Table) (page : ℕ) (new : Frame) (after : Table) : Type 0 where
  pub got : (q : ℕ) → frame_of after q
      ≡ (if nat_eq page q then Some new else frame_of before q)
