-- What the reader keeps of the segments that it loaded.
use Rattle.std.specs.Prelude.{◌≡◌, ℕ, ◌+◌, ◌<◌, ◌≤◌, ◌==◌, ◌&&◌, ◌||◌, Bool, true, List, Some, nat_lt, nat_le}
use Rattle.std.specs.List.{AllByRecursion, list_any}
use Rattle.std.specs.Ordering.{nat_cmp}
use Rattle.std.specs.BTreeMap.{BTreeMap, get}
use Rattle.std.specs.BTreeSet.{BTreeSet, contains}
use Rattle.elf_image.specs.declared.image.Segment.{Segment}
use Rattle.elf_image.specs.Loadable.{meets_page}

-- does a segment lie from one address up to another
abbrev pub lies_at : ℕ → ℕ → Segment → Bool
lies_at start end segment = segment.vaddr == start && segment.vaddr + segment.memsz == end

-- the map has the end of each segment at its start and nothing else, and no two of them share a
-- byte
pub record AreEnds (ends : BTreeMap ℕ ℕ) (segments : List Segment) : Type 0 where
  pub each : AllByRecursion (λ s. get nat_cmp ends s.vaddr ≡ Some (s.vaddr + s.memsz)) segments
  pub only : (start end : ℕ) → get nat_cmp ends start ≡ Some end
      → list_any (lies_at start end) segments ≡ true
  pub some : (start end : ℕ) → get nat_cmp ends start ≡ Some end → start < end
  pub apart : (a a_end b b_end : ℕ) → get nat_cmp ends a ≡ Some a_end
      → get nat_cmp ends b ≡ Some b_end → a < b → a_end ≤ b

-- the set has the pages that meet some of the segments
abbrev pub ArePages : BTreeSet ℕ → List Segment → Type 0
ArePages pages segments =
    (page : ℕ) → contains nat_cmp pages page ≡ list_any (λ s. meets_page s page) segments

-- is a number among so many from one on
abbrev pub is_in_row : ℕ → ℕ → ℕ → Bool
is_in_row first count n = nat_le first n && nat_lt n (first + count)

-- the numbers of one set and so many from one on
abbrev pub IsWithRow : BTreeSet ℕ → BTreeSet ℕ → ℕ → ℕ → Type 0
IsWithRow old new first count =
    (n : ℕ) → contains nat_cmp new n ≡ (contains nat_cmp old n || is_in_row first count n)

-- no numbers but those of one set and so many from one on
abbrev pub IsWithin : BTreeSet ℕ → BTreeSet ℕ → ℕ → ℕ → Type 0
IsWithin old new first count =
    (n : ℕ) → contains nat_cmp new n ≡ true
    → (contains nat_cmp old n || is_in_row first count n) ≡ true
