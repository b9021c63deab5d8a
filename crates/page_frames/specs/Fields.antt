-- What the fields of `Frames` stand for, and what holds of them.
use Rattle.std.specs.Prelude.{◌≡◌, ℕ, ◌<◌, ◌≤◌, List, [], ◌∷◌, ◌++◌, length, slice_index}
use Rattle.std.specs.Prelude.{Option, Some, IfSome, IfNone, vec_capacity}
use Rattle.page_frames.specs.Linked.{IsTable, place_of, pages_of}
use Rattle.page_frames.specs.MarkedPages.{MarkedPages}
use Rattle.page_frames.specs.declared.frames.Frames.TheInside.{Inside}

abbrev pub marked_pages_of : Inside → MarkedPages
marked_pages_of a = record { pages = pages_of a.table; dirty = a.dirty.items }

-- each page of the list has its index as its place, and no other page has one
pub record IsPlacing (place : ℕ → Option ℕ) (dirty : List ℕ) : Type 0 where
  pub placed : (i : ℕ) → i < length dirty → place (slice_index dirty i) ≡ Some i
  pub found : (page i : ℕ) → place page ≡ Some i
      → (i < length dirty) × (slice_index dirty i ≡ page)

-- a page's place and the list after the page was marked, where it has no place yet
pub record Marks (place after : Option ℕ) (page : ℕ) (dirty marked : List ℕ) : Type 0 where
  pub marked_before : IfSome place (λ i. (after ≡ Some i) × (marked ≡ dirty))
  pub marked_now : IfNone place ((after ≡ Some (length dirty)) × (marked ≡ dirty ++ page ∷ []))

pub record AreFields (a : Inside) : Type 0 where
  pub table : IsTable a.table
  pub places : IsPlacing (place_of a.table) a.dirty.items
  -- a page can always be marked
  pub room : a.table.used ≤ vec_capacity a.dirty
