-- What the steps of a walk over the dirty pages leave before it.
use Rattle.std.proofs.Common.{◌≡◌, ℕ, zero, suc, ◌+◌, ◌<◌, ◌≤◌, List, [], ◌∷◌, length, true, false, Some, None, refl, ap, ◌∙◌, sym, arith, eqb, drop, slice_get, subst, drop-cons}
use Rattle.std.specs.Prelude.{Option, IfSome, Contains}
use Rattle.std.specs.List.{IsDistinct, AllByRecursion}
use Rattle.std.proofs.lemmas.List.{drop_all}
use Rattle.std.proofs.lemmas.Option.{slice_get_within, get_or_from_slice_get, slice_get-get_or}
use Rattle.std.proofs.lemmas.Map.Keys.{IsDistinct-tail, IsDistinct-head}
use Rattle.std.proofs.lemmas.Grind.{common_steps}
use Rattle.page_frames.specs.DirtyWalk.{behind, left_to_walk, walk_from, IsNextDirty, stepped, walk, WalkIsList}

past : (xs : List ℕ) (j : ℕ) → slice_get xs j ≡ None → length xs ≤ j
past [] j is = omega arith
past (x ∷ xs) zero is = absurd cc
past (x ∷ xs) (suc j) is = omega (arith, past xs j is)

none : (xs : List ℕ) → length xs ≤ 0 → xs ≡ []
none [] few = refl
none (x ∷ xs) few = absurd (omega arith)

head_apart : (p : ℕ) (ps : List ℕ) (j page : ℕ) → AllByRecursion (λ y. eqb p y ≡ false) ps → slice_get ps j ≡ Some page → eqb p page ≡ false
head_apart p [] j page apart found = absurd cc
head_apart p (q ∷ qs) zero page apart found = let same : q ≡ page = cc in rw (← same) apart.0
head_apart p (q ∷ qs) (suc j) page apart found = head_apart p qs j page apart.1 found

-- behind a page are those in the places after it
pub behind-place : (dirty : List ℕ) (j page : ℕ) → IsDistinct eqb dirty → slice_get dirty j ≡ Some page → behind dirty page ≡ drop (suc j) dirty
behind-place [] j page once found = absurd cc
behind-place (p ∷ ps) zero page once found =
    let same : eqb p page ≡ true = grind (arith, common_steps, found) in
    rw same refl
behind-place (p ∷ ps) (suc j) page once found =
    rw (head_apart p ps j page (IsDistinct-head eqb p ps once) found) (behind-place ps j page (IsDistinct-tail eqb p ps once) found)

from_by : (dirty : List ℕ) (j : ℕ) → IsDistinct eqb dirty → (o : Option ℕ) → slice_get dirty j ≡ o → drop j dirty ≡ walk_from dirty o
from_by dirty j once None is = drop_all j dirty (past dirty j is)
from_by dirty j once (Some page) is =
    let within : j < length dirty = slice_get_within dirty j page is in
    drop-cons dirty j 0 within ∙ rw (get_or_from_slice_get dirty j page 0 is, behind-place dirty j page once is) refl

-- the pages from a place on
from-place : (dirty : List ℕ) (j : ℕ) → IsDistinct eqb dirty → drop j dirty ≡ walk_from dirty (slice_get dirty j)
from-place dirty j once = from_by dirty j once (slice_get dirty j) refl

-- each step takes the next page from what is left to walk
pub left-next : (dirty : List ℕ) (at next : Option ℕ) → IsDistinct eqb dirty → IfSome at (Contains dirty) → IsNextDirty dirty at next → left_to_walk dirty at ≡ walk_from dirty next
left-next dirty None next once stands is = from-place dirty 0 once ∙ ap (walk_from dirty) (sym is.first)
left-next dirty (Some page) next once stands is =
    let found : slice_get dirty stands.0 ≡ Some page = slice_get-get_or dirty stands.0 page stands.1 ∙ ap Some stands.2 in
    let further : stands.0 + 1 ≡ suc stands.0 = omega arith in
    behind-place dirty stands.0 page once found ∙ from-place dirty (suc stands.0) once
    ∙ ap (λ i. walk_from dirty (slice_get dirty i)) (sym further) ∙ ap (walk_from dirty) (sym (is.next stands.0 found))

contains_at : (dirty : List ℕ) (j page : ℕ) → slice_get dirty j ≡ Some page → Contains dirty page
contains_at dirty j page found = (j, slice_get_within dirty j page found, get_or_from_slice_get dirty j page page found)

-- each page that a step gives is in the list
pub next-contained : (dirty : List ℕ) (at : Option ℕ) (page : ℕ) → IfSome at (Contains dirty) → IsNextDirty dirty at (Some page) → Contains dirty page
next-contained dirty None page stands is = contains_at dirty 0 page (sym is.first)
next-contained dirty (Some here) page stands is =
    let found : slice_get dirty stands.0 ≡ Some here = slice_get-get_or dirty stands.0 here stands.1 ∙ ap Some stands.2 in
    contains_at dirty (stands.0 + 1) page (sym (is.next stands.0 found))

Answers : List ℕ → (Option ℕ → Option ℕ) → Type 0
Answers dirty next = (at : Option ℕ) → IfSome at (Contains dirty) → IsNextDirty dirty at (next at)

stepped_left : (dirty : List ℕ) (next : Option ℕ → Option ℕ) → IsDistinct eqb dirty → Answers dirty next → (steps : ℕ) (at : Option ℕ) → IfSome at (Contains dirty)
    → length (left_to_walk dirty at) ≤ suc steps → ((page : ℕ) → Contains dirty page → length (behind dirty page) ≤ steps → walk next steps (Some page) ≡ behind dirty page)
    → (o : Option ℕ) → next at ≡ o → stepped (next at) (λ page. walk next steps (Some page)) ≡ left_to_walk dirty at
unfolding Answers
stepped_left dirty next once answers steps at stands few further None is =
    let left = left-next dirty at (next at) once stands (answers at stands) in
    rw is (sym (left ∙ ap (walk_from dirty) is))
stepped_left dirty next once answers steps at stands few further (Some page) is =
    let left : left_to_walk dirty at ≡ page ∷ behind dirty page = left-next dirty at (next at) once stands (answers at stands) ∙ ap (walk_from dirty) is in
    let there : Contains dirty page = next-contained dirty at page stands (subst (IsNextDirty dirty at) is (answers at stands)) in
    rw is (ap (λ ps. page ∷ ps) (further page there (omega (arith, ap length left))) ∙ sym left)

walk_left : (dirty : List ℕ) (next : Option ℕ → Option ℕ) → IsDistinct eqb dirty → Answers dirty next → (steps : ℕ) (at : Option ℕ) → IfSome at (Contains dirty)
    → length (left_to_walk dirty at) ≤ steps → walk next steps at ≡ left_to_walk dirty at
unfolding Answers
walk_left dirty next once answers zero at stands few = sym (none (left_to_walk dirty at) few)
walk_left dirty next once answers (suc steps) at stands few =
    stepped_left dirty next once answers steps at stands few (λ page there fewer. walk_left dirty next once answers steps (Some page) there fewer) (next at) refl

pub walk-is-list : WalkIsList
unfolding Answers
walk-is-list dirty next once answers steps few = walk_left dirty next once answers steps None tt few
