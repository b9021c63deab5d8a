-- What the fields of `Frames` stand for, and what holds of them.
use Rattle.std.specs.Prelude.{◌≡◌, ℕ, ◌<◌, ◌≤◌, List, [], ◌∷◌, length, slice_index, Option, Some, IsSome, IfSome, IfNone, ◌++◌, vec_capacity}
use Rattle.std.specs.Option.{option_and_then}
use Rattle.std.specs.Ordering.{nat_cmp}
use Rattle.std.specs.BTreeMap.{BTreeMap, get, btree_map_len}
use Rattle.std.specs.FinMap.{empty, insert, len}
use Rattle.sl_model.specs.Pages.{Pages, IsPage}
use Rattle.sl_model.specs.declared.layout.TheConstants.{PROGRAM_PAGES, MOST_PAGES}
use Rattle.page_frames.specs.MarkedPages.{MarkedPages}
use Rattle.tree_frames.specs.declared.frame.Frame.{Frame}
use Rattle.tree_frames.specs.declared.frames.TreeFrames.TheInside.{Inside}

-- the bytes of each frame
abbrev pub pages_of : List (ℕ × Frame) → Pages
pages_of [] = empty
pages_of (e ∷ es) = insert (pages_of es) e.0 e.1.bytes

abbrev pub marked_pages_of : Inside → MarkedPages
marked_pages_of a = record { pages = pages_of a.frames.entries; dirty = a.dirty.items }

-- the place of a page in the list of dirty pages, as its frame tells it
abbrev pub place_of : BTreeMap ℕ Frame → ℕ → Option ℕ
place_of frames page = option_and_then (λ f. f.place) (get nat_cmp frames page)

-- each page of the list has its index as its place, and no other page has one
pub record IsPlacing (place : ℕ → Option ℕ) (dirty : List ℕ) : Type 0 where
  pub placed : (i : ℕ) → i < length dirty → place (slice_index dirty i) ≡ Some i
  pub found : (page i : ℕ) → place page ≡ Some i → (i < length dirty) × (slice_index dirty i ≡ page)

-- a page's place and the list after the page was marked, where it has no place yet
pub record Marks (place after : Option ℕ) (page : ℕ) (dirty marked : List ℕ) : Type 0 where
  pub marked_before : IfSome place (λ i. (after ≡ Some i) × (marked ≡ dirty))
  pub marked_now : IfNone place ((after ≡ Some (length dirty)) × (marked ≡ dirty ++ page ∷ []))

pub record AreFields (a : Inside) : Type 0 where
  pub whole : (page : ℕ) → IfSome (get nat_cmp a.frames page) (λ f. IsPage f.bytes)
  pub below : (page : ℕ) → IsSome (get nat_cmp a.frames page) → page < PROGRAM_PAGES
  pub few : len (pages_of a.frames.entries) ≤ MOST_PAGES
  pub places : IsPlacing (place_of a.frames) a.dirty.items
  -- a page can always be marked
  pub room : btree_map_len a.frames ≤ vec_capacity a.dirty
