-- The listings that the reader keeps.
use Rattle.std.specs.Prelude.{◌≡◌, ℕ, ◌<◌, List, length, map, Option, None, MatchOption}
use Rattle.std.specs.Ordering.{nat_cmp}
use Rattle.std.specs.Option.{option_map}
use Rattle.std.specs.List.{slice_get}
use Rattle.std.specs.BTreeMap.{BTreeMap, get}
use Rattle.rec_format.specs.declared.listings.Listing.{Listing}
use Rattle.rec_format.specs.declared.recording.ListedPage.{ListedPage}
use Rattle.rec_format.specs.Rules.{last_listed}

-- a listing, wherever its bytes stand
abbrev pub seen_page : Listing → ListedPage
seen_page l = record { number = l.number; bytes = l.bytes.now }

abbrev pub seen : List Listing → List ListedPage
seen all = map seen_page all

-- the bytes of the listing with this index
abbrev pub bytes_at : List Listing → ℕ → Option (List ℕ)
bytes_at all i = option_map (λ l. l.bytes.now) (slice_get all i)

-- each page has the index of its last listing
abbrev pub IsIndex : BTreeMap ℕ ℕ → List Listing → Type 0
IsIndex last all =
    (number : ℕ) → MatchOption (get nat_cmp last number) (last_listed number (seen all) ≡ None)
    (λ i. (i < length all) × (last_listed number (seen all) ≡ bytes_at all i))
