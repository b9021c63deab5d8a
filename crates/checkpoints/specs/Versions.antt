-- The listings of pages, chained by their indexes.
use Rattle.std.specs.Prelude.{◌≡◌, ℕ, ◌+◌, ◌%◌, ◌<◌, ◌≤◌, nat_eq, List, [], ◌∷◌, ◌++◌, length}
use Rattle.std.specs.Prelude.{Bool, false, not, is_some, slice_get, slice_index_or}
use Rattle.std.specs.Prelude.{Option, Some, None}
use Rattle.page_frames.specs.Linked.{newest}
use Rattle.rec_format.specs.declared.recording.ListedPage.{ListedPage}
use Rattle.rec_format.specs.declared.recording.Recording.{Recording}
use Rattle.rec_format.specs.Recorded.{end_place, checkpoint_at, listed_to}
use Rattle.checkpoints.specs.declared.versions.Version.{Version}
use Rattle.checkpoints.specs.declared.versions.Versions.{Versions}
use Rattle.checkpoints.specs.declared.versions.TheConstants.{BUCKETS}

-- ---- chains

-- whether a listing is of a page
abbrev pub is_of_page : ℕ → Option Version → Bool
is_of_page page None = false
is_of_page page (Some v) = nat_eq v.page page

-- whether it stands in a bucket
abbrev pub is_in_bucket : ℕ → Option Version → Bool
is_in_bucket bucket None = false
is_in_bucket bucket (Some v) = nat_eq (v.page % BUCKETS) bucket

-- the index of the newest listing of a page among the first n listings
abbrev pub version_of : List Version → ℕ → ℕ → Option ℕ
version_of items n page = newest (λ i. is_of_page page (slice_get items i)) n

-- the index of the newest listing in a bucket among them
abbrev pub first_of : List Version → ℕ → ℕ → Option ℕ
first_of items n bucket = newest (λ i. is_in_bucket bucket (slice_get items i)) n

-- a listing leads to the next older one in its bucket, and tells whether it is the first of its page
pub record IsLinked (items : List Version) (i : ℕ) (v : Version) : Type 0 where
  pub older : v.older ≡ first_of items i (v.page % BUCKETS)
  pub first : v.is_first ≡ not (is_some (version_of items i v.page))

-- each bucket begins with its newest listing, and each listing leads to the next older one
pub record IsChain (heads : List (Option ℕ)) (items : List Version) : Type 0 where
  pub begins : (bucket : ℕ) → bucket < BUCKETS
      → slice_index_or heads bucket None ≡ first_of items (length items) bucket
  pub linked : (i : ℕ) (v : Version) → slice_get items i ≡ Some v → IsLinked items i v
  pub buckets : length heads ≡ BUCKETS

-- a listing of this page by this checkpoint comes behind the others
pub record IsAdded (number k index : ℕ) (before after : List Version) : Type 0 where
  pub version : Version
  pub items : after ≡ before ++ version ∷ []
  pub page : version.page ≡ number
  pub at : version.at ≡ k
  pub place : version.place ≡ index

-- ---- what they stand for

-- a listing stands for a listed page of a checkpoint
pub record IsListing (rec : Recording) (v : Version) (listed : ListedPage) : Type 0 where
  pub some : 0 < v.at
  pub found : slice_get (checkpoint_at rec v.at).pages v.place ≡ Some listed
  pub page : listed.number ≡ v.page

-- listings stand for listed pages, one for one
abbrev pub AreListings : Recording → List Version → List ListedPage → Type 0
AreListings rec [] [] = Unit {0}
AreListings rec (v ∷ vs) (l ∷ ls) = IsListing rec v l × AreListings rec vs ls
AreListings rec [] (l ∷ ls) = ⊥
AreListings rec (v ∷ vs) [] = ⊥

-- how many pages are listed up to each checkpoint, from 0 to one of them
pub record AreCounts (rec : Recording) (k : ℕ) (counts : List ℕ) : Type 0 where
  pub long : length counts ≡ k + 1
  pub each : (j : ℕ) → j ≤ k → slice_get counts j ≡ Some (length (listed_to rec j))

-- the listings of all checkpoints
pub record AreVersions (rec : Recording) (versions : Versions) : Type 0 where
  pub chain : IsChain versions.heads versions.items.items
  pub listed : AreListings rec versions.items.items (listed_to rec (end_place rec))
  pub counts : AreCounts rec (end_place rec) versions.counts.items
