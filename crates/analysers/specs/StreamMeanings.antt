-- What the streams give of records, in plain words: which records are due, by where they stand.
use Rattle.std.specs.Prelude.{◌≡◌, ◌≢◌, ◌↔◌, ℕ, ◌+◌, ◌<◌, ◌≤◌, ◌==◌, ◌&&◌, not, Bool, true, List, map, take, drop, filter_map, count_by, slice_get, Contains, Some}
use Rattle.std.specs.List.{AllPairs}
use Rattle.tracer_lang.specs.declared.record.Record.{Record}
use Rattle.analysers.specs.declared.row.Row.{Row}
use Rattle.analysers.specs.declared.row.Row.TheVariants.{Of}
use Rattle.analysers.specs.Words.{word_at}

-- the rows of exactly the records that are due, in the order of the records
pub record AreRowsOf (IsDue : ℕ → Type 0) (rs : List Record) (rows : List Row) : Type 0 where
  pub numbers : List ℕ
  pub in_order : AllPairs (λ i j. i < j) numbers
  pub exactly : (k : ℕ) → Contains numbers k ↔ IsDue k
  pub shown : rows ≡ map Of (filter_map (slice_get rs) numbers)

-- record k has this word at the place
abbrev pub HasWord : ℕ → List Record → ℕ → ℕ → Type 0
HasWord place rs k word =
    (r : Record) × (slice_get rs k ≡ Some r) × (word_at place r ≡ Some word)

-- ---- rising=I

-- record k has a word, which is above the word of each earlier record that has one
abbrev pub IsRise : ℕ → List Record → ℕ → Type 0
IsRise place rs k =
    (word : ℕ) × HasWord place rs k word
    × ((j earlier : ℕ) → j < k → HasWord place rs j earlier → earlier < word)

-- ---- changes=I

-- record j has this word, and is the nearest one before record k that has any
abbrev pub IsNearest : ℕ → List Record → ℕ → ℕ → ℕ → Type 0
IsNearest place rs k j word =
    (j < k) × HasWord place rs j word
    × ((i other : ℕ) → j < i → i < k → HasWord place rs i other → ⊥)

-- record k has a word, which differs from the word of the nearest one before that has any
abbrev pub IsChange : ℕ → List Record → ℕ → Type 0
IsChange place rs k =
    (word : ℕ) × HasWord place rs k word
    × ((j earlier : ℕ) → IsNearest place rs k j earlier → earlier ≢ word)

-- ---- open=T:U: the records of T and U as brackets

abbrev pub is_opener : ℕ → Record → Bool
is_opener opens r = r.point == opens

-- a record of both opens
abbrev pub is_closer : ℕ → ℕ → Record → Bool
is_closer opens closes r = not (r.point == opens) && (r.point == closes)

-- record k passes
abbrev pub Passes : (Record → Bool) → List Record → ℕ → Type 0
Passes test rs k = (r : Record) × (slice_get rs k ≡ Some r) × (test r ≡ true)

-- how many of the records between two pass
abbrev pub number_between : (Record → Bool) → List Record → ℕ → ℕ → ℕ
number_between test rs i j = count_by test (drop (i + 1) (take j rs))

-- Record j closes record i: between them as many close as open, and up to no record between them
-- more close than open.
pub record IsPair (opens closes : ℕ) (rs : List Record) (i j : ℕ) : Type 0 where
  pub before : i < j
  pub opening : Passes (is_opener opens) rs i
  pub closing : Passes (is_closer opens closes) rs j
  pub as_many :
      number_between (is_closer opens closes) rs i j ≡ number_between (is_opener opens) rs i j
  pub never_more : (k : ℕ) → i < k → k < j
      → number_between (is_closer opens closes) rs i k ≤ number_between (is_opener opens) rs i k

-- record j would close, and there is none that it closes
abbrev pub IsUnopened : ℕ → ℕ → List Record → ℕ → Type 0
IsUnopened opens closes rs j =
    Passes (is_closer opens closes) rs j × ((i : ℕ) → IsPair opens closes rs i j → ⊥)

-- record i opens, and there is none that closes it
abbrev pub IsUnclosed : ℕ → ℕ → List Record → ℕ → Type 0
IsUnclosed opens closes rs i =
    Passes (is_opener opens) rs i × ((j : ℕ) → IsPair opens closes rs i j → ⊥)
