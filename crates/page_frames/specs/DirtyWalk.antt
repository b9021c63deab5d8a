-- The walk over the dirty pages that `next_dirty` takes step by step.
use Rattle.std.specs.Prelude.{◌≡◌, ℕ, zero, suc, ◌+◌, ◌≤◌, List, [], ◌∷◌, length, Option, Some, None, IfSome, IfNone, Contains, nat_eq, if◌then◌else◌, slice_get}
use Rattle.std.specs.List.{IsDistinct}

-- the pages behind the first place of one
abbrev pub behind : List ℕ → ℕ → List ℕ
behind [] page = []
behind (p ∷ ps) page = if nat_eq p page then ps else behind ps page

-- what a walk has still before it: all pages where it has not begun, else those behind the page
-- where it stands
abbrev pub left_to_walk : List ℕ → Option ℕ → List ℕ
left_to_walk dirty None = dirty
left_to_walk dirty (Some page) = behind dirty page

-- a page with those behind it, or no page
abbrev pub walk_from : List ℕ → Option ℕ → List ℕ
walk_from dirty None = []
walk_from dirty (Some page) = page ∷ behind dirty page

-- the answer of `next_dirty`: the first page, or the one in the next place; None at the end
pub record IsNextDirty (dirty : List ℕ) (at answer : Option ℕ) : Type 0 where
  pub first : IfNone at (answer ≡ slice_get dirty 0)
  pub next : IfSome at (λ page. (i : ℕ)
      → slice_get dirty i ≡ Some page → answer ≡ slice_get dirty (i + 1))

-- the pages that a walk gives from a place on, in at most so many steps
abbrev pub stepped : Option ℕ → (ℕ → List ℕ) → List ℕ
stepped None further = []
stepped (Some page) further = page ∷ further page

abbrev pub walk : (Option ℕ → Option ℕ) → ℕ → Option ℕ → List ℕ
walk next zero at = []
walk next (suc steps) at = stepped (next at) (λ page. walk next steps (Some page))

-- a walk from the start gives the list of the dirty pages, so each of them once, and ends behind it
abbrev pub WalkIsList : Type 0
WalkIsList = (dirty : List ℕ) (next : Option ℕ → Option ℕ) → IsDistinct nat_eq dirty
    → ((at : Option ℕ) → IfSome at (Contains dirty) → IsNextDirty dirty at (next at))
    → (steps : ℕ) → length dirty ≤ steps → walk next steps None ≡ dirty
