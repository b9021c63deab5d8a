-- What the recorder keeps of the checkpoints of a run as it goes on.
use Rattle.std.specs.Prelude.{◌≡◌, ℕ, ◌-◌, ◌<◌, ◌≤◌, ◌⊎◌, Bool, true, false, List, [], ◌∷◌, ◌++◌, length, take, Option, Contains, unwrap_or}
use Rattle.std.specs.Ordering.{nat_cmp}
use Rattle.std.specs.List.{AllByRecursion}
use Rattle.std.specs.BTreeMap.{get as find}
use Rattle.std.specs.FinMap.{get}
use Rattle.sl_model.specs.Pages.{Pages}
use Rattle.sl_model.specs.State.{State}
use Rattle.rec_format.specs.declared.recording.CheckpointData.{CheckpointData}
use Rattle.page_frames.specs.MarkedPages.{MarkedPages}
use Rattle.rec_format.specs.Rules.{IsCheckpoint}
use Rattle.call_recorder.specs.declared.memory.RecordedMemory.{RecordedMemory}
use Rattle.call_recorder.specs.declared.kept.Kept.{Kept}
use Rattle.call_recorder.specs.declared.kept.Finished.{Finished}
use Rattle.call_recorder.specs.Listing.{page_in, changed_page, checkpoint_of, checkpoints_of, kept_of, within_bytes, MOST_CHECKPOINT_BYTES}

-- the bytes that are recorded of a page: its last listing, else its opening content, else zeros
abbrev pub recorded_in : RecordedMemory → ℕ → List ℕ
recorded_in memory number = unwrap_or (find nat_cmp memory.listed number) (page_in memory.opening.pages number)

-- only marked pages differ from those recorded before
abbrev pub OnlyMarked : (ℕ → List ℕ) → MarkedPages → Type 0
OnlyMarked recorded f =
    (page : ℕ) → (changed_page recorded f.pages page ≡ []) ⊎ Contains f.dirty page

-- memory as the last of some states has it, and before the first one
abbrev pub memory_after : Pages → List State → Pages
memory_after pages [] = pages
memory_after pages (s ∷ states) = memory_after s.pages states

-- each page is as it was in a memory, or it is marked
abbrev pub ChangesAreMarked : Pages → MarkedPages → Type 0
ChangesAreMarked pages f =
    (page : ℕ) → (get f.pages page ≡ get pages page) ⊎ Contains f.dirty page

-- The checkpoints are all of some, and there is room for so many more bytes.
pub record HasRoom (checkpoints given : List CheckpointData) (room : ℕ) : Type 0 where
  pub all : checkpoints ≡ given
  pub fits : (more : List CheckpointData)
      → within_bytes MOST_CHECKPOINT_BYTES (checkpoints ++ more)
      ≡ checkpoints ++ within_bytes room more

-- What is kept once these states were offered in order, of a program that opened with this memory
-- and has this one now.
pub record AreKept (opened : Pages) (states : List State) (kept : Kept) (f : MarkedPages) : Type 0 where
  -- the checkpoints of the states, as far as they go
  pub listed : kept.checkpoints ≡ kept_of (checkpoints_of (page_in opened) states)
  pub each : AllByRecursion IsCheckpoint kept.checkpoints
  -- what the last of them records, and that all changes since are marked
  pub recorded : (q : ℕ) → recorded_in kept.memory q
      ≡ page_in (memory_after opened (take (length kept.checkpoints) states)) q
  pub marked : ChangesAreMarked (memory_after opened (take (length kept.checkpoints) states)) f
  -- as long as each had room, they are all; and once one had none, there are no more
  pub going : kept.is_full ≡ false
      → HasRoom kept.checkpoints (checkpoints_of (page_in opened) states) kept.room
  pub full : kept.is_full ≡ true → (more : List State)
      → kept_of (checkpoints_of (page_in opened) (states ++ more)) ≡ kept.checkpoints

-- the last of some checkpoints is at this count
abbrev pub EndsAt : List CheckpointData → ℕ → Type 0
EndsAt checkpoints count =
    (before : List CheckpointData) × (last : CheckpointData)
    × (checkpoints ≡ before ++ last ∷ []) × (last.count ≡ count)

-- the checkpoints of a run that ended with this state, after those others
pub record AreDone (opened : Pages) (states : List State) (s : State) (done : Finished) : Type 0 where
  pub listed : done.checkpoints ≡ kept_of (checkpoints_of (page_in opened) states)
  pub last : done.last
      ≡ checkpoint_of (page_in (memory_after opened (take (length done.checkpoints) states))) s
  pub each : AllByRecursion IsCheckpoint done.checkpoints
  pub is : IsCheckpoint done.last

-- Whether the state of the end was offered or not: those before it count.
pub record AreFinished (opened : Pages) (states : List State) (s : State) (done : Finished) : Type 0 where
  pub apart : AllByRecursion (λ t. t.count < s.count) states → AreDone opened states s done
  pub offered : (before : List State) → states ≡ before ++ s ∷ []
      → AllByRecursion (λ t. t.count < s.count) before → AreDone opened before s done
