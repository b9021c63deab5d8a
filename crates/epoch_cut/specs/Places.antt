-- Places that cut segments into epochs.
use Rattle.std.specs.Prelude.{◌≡◌, ℕ, ◌+◌, ◌*◌, ◌/◌, ◌-◌, List, length, map, Some, slice_index}
use Rattle.std.specs.List.{slice_get, range_with_len}
use Rattle.std.specs.List.Sorted.{IsStrictlyIncreasing}

-- from 0 to the number of segments, each above the one before it
pub record IsCutting (segments : ℕ) (places : List ℕ) : Type 0 where
  pub first : slice_get places 0 ≡ Some 0
  pub last : slice_get places (length places - 1) ≡ Some segments
  pub rising : IsStrictlyIncreasing places

-- the last place, which is the number of segments
abbrev pub last_place : List ℕ → ℕ
last_place places = slice_index places (length places - 1)

-- j parts of so many segments, rounded down
abbrev pub even_place : ℕ → ℕ → ℕ → ℕ
even_place segments epochs j = j * segments / epochs

abbrev pub even_places : ℕ → ℕ → List ℕ
even_places segments epochs = map (even_place segments epochs) (range_with_len 0 (epochs + 1))
