-- The list of pages that are marked as changed.
use Rattle.std.specs.Prelude.{◌≡◌, ℕ, ◌<◌, ◌⊎◌, List, ◌++◌, Contains, Bool, IsTrue}
use Rattle.std.specs.FinMap.{get}
use Rattle.sl_model.specs.declared.layout.TheConstants.{PROGRAM_PAGES}
use Rattle.sl_model.specs.Pages.{Pages}

-- The marks go on: those from before stay at the front, and where changes are marked, each page of
-- the program whose bytes or mapping changed is marked afterwards.
pub record MarksGoOn (is_marking : Bool)
    (before : Pages) (marked : List ℕ) (after : Pages) (marked_after : List ℕ) : Type 0 where
  pub keeps : (more : List ℕ) × (marked_after ≡ marked ++ more)
  pub marks : IsTrue is_marking → (page : ℕ) → page < PROGRAM_PAGES
      → (get after page ≡ get before page) ⊎ Contains marked_after page
