-- What the marks of changed pages tell where a memory is compared with a checkpoint.
use Rattle.std.specs.Prelude.{◌≡◌, ℕ, ◌-◌, ◌<◌, ◌≤◌, ◌⊎◌, ◌||◌, ◌&&◌, not, Bool, nat_eq}
use Rattle.std.specs.Prelude.{IfSome, IsSome, Contains, filter}
use Rattle.std.specs.List.{list_any}
use Rattle.std.specs.FinMap.{get, contains_key}
use Rattle.sl_model.specs.Pages.{Pages}
use Rattle.sl_model.specs.State.{State, IsOpening}
use Rattle.page_frames.specs.MarkedPages.{MarkedPages}
use Rattle.rec_format.specs.declared.recording.Recording.{Recording}
use Rattle.rec_format.specs.Recorded.{end_place, checkpoint_at, listed_to, is_listed, recorded_page}
use Rattle.rec_format.specs.Recorded.{recorded_state}
use Rattle.rec_format.specs.Compared.{pages_diff, PAGE_NUMBERS}

-- each mapped page holds what checkpoint k records, or is dirty
abbrev pub HoldsRecorded : Pages → Recording → ℕ → MarkedPages → Type 0
HoldsRecorded opened rec k memory = (page : ℕ) → IfSome (get memory.pages page)
    (λ bytes. (bytes ≡ recorded_page opened rec k page) ⊎ Contains memory.dirty page)

-- whether a page can differ at checkpoint k from what it records, where it held before what the
-- checkpoint before records: it is dirty, or listed at k, or listed by then and not mapped
abbrev pub can_differ : Recording → ℕ → MarkedPages → ℕ → Bool
can_differ rec k memory page =
    list_any (nat_eq page) memory.dirty || is_listed (checkpoint_at rec k).pages page
    || (is_listed (listed_to rec k) page && not (contains_key memory.pages page))

-- the first difference in memory is the first of those pages
abbrev pub ComparesChanges : Type 0
ComparesChanges = (opened : Pages) (rec : Recording) (k : ℕ) (memory : MarkedPages) (s : State)
    → 0 < k → k ≤ end_place rec → s.pages ≡ memory.pages
    → HoldsRecorded opened rec (k - 1) memory
    → pages_diff opened rec k s (filter (can_differ rec k memory) PAGE_NUMBERS)
    ≡ pages_diff opened rec k s PAGE_NUMBERS

-- the memory of the state that checkpoint k records holds its pages
abbrev pub RecordedHolds : Type 0
RecordedHolds = (rec : Recording) (opened : State) (k : ℕ) (memory : MarkedPages)
    → IsOpening opened → memory.pages ≡ (recorded_state rec opened k).pages
    → HoldsRecorded opened.pages rec k memory

-- every mapped page is dirty
abbrev pub IsAllDirty : MarkedPages → Type 0
IsAllDirty memory =
    (page : ℕ) → IsSome (get memory.pages page) → Contains memory.dirty page
