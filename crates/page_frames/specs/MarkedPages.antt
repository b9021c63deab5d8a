-- Pages with the list of those that changed, which are called dirty.
use Rattle.std.specs.Prelude.{ℕ, zero, suc, ◌+◌, ◌/◌, ◌<◌, ◌≤◌, nat_eq, List, [], ◌∷◌, ◌++◌, length, if◌then◌else◌, IsSome, Contains}
use Rattle.std.specs.List.{IsDistinct, list_any}
use Rattle.std.specs.FinMap.{get, len, insert, contains_key}
use Rattle.std.specs.Coded.{Coded, code_by, coded×, coded_ℕ, coded_list}
use Rattle.std.specs.FinMap as map
use Rattle.std.proofs.Common.{refl}
use Rattle.sl_model.specs.Mapping.{zero_page}
use Rattle.sl_model.specs.Pages.{Pages, ArePages, set_bytes}
use Rattle.sl_model.specs.declared.layout.TheConstants.{PAGE_SIZE, PROGRAM_PAGES, MOST_PAGES}

pub record MarkedPages : Type 0 where
  pub pages : Pages
  -- the dirty pages by their numbers, the first marked one first
  pub dirty : List ℕ

-- it is stored as the pair of its fields
abbrev pub marked_pages_code : Coded MarkedPages
marked_pages_code =
    code_by (Pages × List ℕ)
    (coded× (map.code coded_ℕ (coded_list coded_ℕ)) (coded_list coded_ℕ))
    (λ m. (m.pages, m.dirty))
    (λ p. record { pages = p.0; dirty = p.1 })
    (λ _. refl)

-- a list of dirty pages with a further one, at the end where it does not stand in it yet
abbrev pub mark : List ℕ → ℕ → List ℕ
mark dirty page = if list_any (nat_eq page) dirty then dirty else dirty ++ page ∷ []

-- the same with the page of each of some bytes from an address on
unfoldable pub mark_bytes : List ℕ → ℕ → ℕ → List ℕ
mark_bytes dirty address zero = dirty
mark_bytes dirty address (suc count) =
    mark_bytes (mark dirty (address / PAGE_SIZE)) (address + 1) count

-- a page of zeros, which is dirty, where the page is not mapped yet
abbrev pub with_page : MarkedPages → ℕ → MarkedPages
with_page m page =
    if contains_key m.pages page then m
    else record { pages = insert m.pages page zero_page; dirty = m.dirty ++ page ∷ [] }

-- the same for so many pages from one on
unfoldable pub with_pages : MarkedPages → ℕ → ℕ → MarkedPages
with_pages m first zero = m
with_pages m first (suc count) = with_pages (with_page m first) (first + 1) count

-- bytes from an address on, whose pages are dirty
abbrev pub with_bytes : MarkedPages → ℕ → List ℕ → MarkedPages
with_bytes m address bytes =
    record {
      pages = set_bytes m.pages address bytes;
      dirty = mark_bytes m.dirty address (length bytes);
    }

-- what holds of every memory
pub record IsKept (m : MarkedPages) : Type 0 where
  pub whole : ArePages m.pages
  pub below : (page : ℕ) → IsSome (get m.pages page) → page < PROGRAM_PAGES
  pub few : len m.pages ≤ MOST_PAGES
  pub once : IsDistinct nat_eq m.dirty
  pub mapped : (page : ℕ) → Contains m.dirty page → IsSome (get m.pages page)
