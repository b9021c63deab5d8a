-- Memory of one piece: the bytes of an area, by their indexes.
use Rattle.std.specs.Prelude.{◌≡◌, ℕ, ◌+◌, ◌*◌, ◌<◌, List, length, take, drop, Option, Some, None, nat_le, if◌then◌else◌, slice_index_or, unwrap_or}
use Rattle.sl_model.specs.Pages.{from_bytes, low_bytes, put_bytes}

-- the number in so many bytes from an index on, or None where there are not so many
unfoldable pub load_in : List ℕ → ℕ → ℕ → Option ℕ
load_in bytes offset width =
    if nat_le (offset + width) (length bytes) then Some (from_bytes (take width (drop offset bytes)))
    else None

-- the word from an index on, or 0 where there are not so many bytes
abbrev pub word_in : List ℕ → ℕ → ℕ
word_in bytes offset = unwrap_or (load_in bytes offset 4) 0

-- the bytes with the low bytes of a value from an index on, or None where there are not so many
unfoldable pub store_in : List ℕ → ℕ → ℕ → ℕ → Option (List ℕ)
store_in bytes offset width value =
    if nat_le (offset + width) (length bytes)
    then Some (put_bytes bytes offset (low_bytes width value))
    else None

-- The bytes begin with these words, and every further word of them is 0.
abbrev pub HoldsWords : List ℕ → List ℕ → Type 0
HoldsWords words bytes =
    (index : ℕ) → 4 * index < length bytes
    → load_in bytes (4 * index) 4 ≡ Some (slice_index_or words index 0)
