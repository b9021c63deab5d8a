-- Memory: pages of 4,096 bytes, by their numbers. Byte i of page p is at address 4,096 * p + i.
use Rattle.std.specs.Prelude.{◌≡◌, ℕ, zero, suc, ◌+◌, ◌*◌, ◌/◌, ◌%◌, ◌^◌, ◌<◌, ◌⊎◌, List, [], ◌∷◌, length, Option, Some, IfSome, unwrap_or, slice_get, slice_set}
use Rattle.std.specs.Ordering.{nat_cmp}
use Rattle.std.specs.FinMap.{FinMap, get, insert}
use Rattle.std.specs.List.{All}
use Rattle.std.specs.Option.{option_map, option_and_then}
use Rattle.sl_model.specs.declared.layout.TheConstants.{PAGE_SIZE}

-- the mapped pages, by their numbers
abbrev pub Pages : Type 0
Pages = FinMap nat_cmp (List ℕ)

-- 4,096 bytes
pub record IsPage (page : List ℕ) : Type 0 where
  pub whole : length page ≡ PAGE_SIZE
  pub bytes : All (λ b. b < 256) page

-- pages of the 32-bit address space
abbrev pub ArePages : Pages → Type 0
ArePages pages = (number : ℕ) → IfSome (get pages number) (λ page. (number < 2 ^ 20) × IsPage page)

-- the byte at an address, or None where it is not mapped
unfoldable pub byte_at : Pages → ℕ → Option ℕ
byte_at pages address =
    option_and_then (λ page. slice_get page (address % PAGE_SIZE)) (get pages (address / PAGE_SIZE))

-- the bytes from an address on, or None where one of them is not mapped
unfoldable pub bytes_at : Pages → ℕ → ℕ → Option (List ℕ)
bytes_at pages address zero = Some []
bytes_at pages address (suc count) =
    option_and_then (λ b. option_map (λ bs. b ∷ bs) (bytes_at pages (address + 1) count))
    (byte_at pages address)

-- the pages with another byte at an address; an address that is not mapped changes nothing
unfoldable pub set_byte : Pages → ℕ → ℕ → Pages
set_byte pages address b =
    let number : ℕ = address / PAGE_SIZE in
    let with_byte : List ℕ → Pages =
    λ page. insert pages number (slice_set page (address % PAGE_SIZE) b) in
    unwrap_or (option_map with_byte (get pages number)) pages

-- a page with these bytes from an index on
unfoldable pub put_bytes : List ℕ → ℕ → List ℕ → List ℕ
put_bytes page index [] = page
put_bytes page index (b ∷ bs) = put_bytes (slice_set page index b) (index + 1) bs

-- the pages with these bytes from an address on
unfoldable pub set_bytes : Pages → ℕ → List ℕ → Pages
set_bytes pages address [] = pages
set_bytes pages address (b ∷ bs) = set_bytes (set_byte pages address b) (address + 1) bs

-- a number in bytes, the lowest first
abbrev pub from_bytes : List ℕ → ℕ
from_bytes [] = 0
from_bytes (b ∷ bs) = b + 256 * from_bytes bs

-- the low bytes of a number, the lowest first
abbrev pub low_bytes : ℕ → ℕ → List ℕ
low_bytes zero n = []
low_bytes (suc count) n = n % 256 ∷ low_bytes count (n / 256)

-- the widths of loads and stores
abbrev pub IsWidth : ℕ → Type 0
IsWidth width = (width ≡ 1) ⊎ (width ≡ 2) ⊎ (width ≡ 4)

-- the number that stands in the bytes at an address, or None where one of them is not mapped
unfoldable pub load_at : Pages → ℕ → ℕ → Option ℕ
load_at pages address width = option_map from_bytes (bytes_at pages address width)

-- the pages after the low bytes of a value were written at an address, or None where one of them is
-- not mapped
unfoldable pub store_at : Pages → ℕ → ℕ → ℕ → Option Pages
store_at pages address width value =
    option_map (λ _. set_bytes pages address (low_bytes width value)) (bytes_at pages address width)
