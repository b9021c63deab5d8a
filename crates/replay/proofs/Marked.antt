-- The marks go on where pages are mapped.
use Rattle.std.specs.Prelude.{Contains, if◌then◌else◌}
use Rattle.std.specs.FinMap.{insert, contains_key, gets}
use Rattle.std.proofs.Common.{◌≡◌, ℕ, zero, suc, ◌+◌, inl, inr, ⊎_elim, Bool, true, false, [], ◌∷◌, ◌++◌, refl, sym, subst, arith}
use Rattle.std.proofs.lemmas.Bool.{cases_eq}
use Rattle.std.proofs.lemmas.Grind.{common_steps}
use Rattle.std.proofs.lemmas.List.Elements.{Contains-push}
use Rattle.sl_model.specs.Mapping.{zero_page}
use Rattle.sl_model.specs.Marks.{MarksGoOn}
use Rattle.sl_model.proofs.MarksLaws.{MarksGoOn-same, MarksGoOn-then}
use Rattle.page_frames.specs.MarkedPages.{MarkedPages, with_page, with_pages}

-- the marks of a memory go on to those of another
abbrev pub MarksOf : MarkedPages → MarkedPages → Type 0
MarksOf m after = MarksGoOn true m.pages m.dirty after.pages after.dirty

page-goes_on : (m : MarkedPages) (page : ℕ) (b : Bool) → MarksOf m (if b then m else record { pages = insert m.pages page zero_page; dirty = m.dirty ++ page ∷ [] })
page-goes_on m page true = MarksGoOn-same true m.pages m.dirty
page-goes_on m page false = record {
  keeps = (page ∷ [], refl);
  marks = λ marking q below. ⊎_elim
      (λ (same : q ≡ page). inr (subst (λ n. Contains (m.dirty ++ page ∷ []) n) (sym same) (Contains-push m.dirty page)))
      (λ (apart : q ≡ page → ⊥). inl (grind (arith, gets, common_steps, apart)))
      (cases_eq q page);
}

pub with_pages-goes_on : (m : MarkedPages) (first count : ℕ) → MarksOf m (with_pages m first count)
unfolding with_pages
with_pages-goes_on m first zero = MarksGoOn-same true m.pages m.dirty
with_pages-goes_on m first (suc count) =
    let next : MarkedPages = with_page m first in
    MarksGoOn-then true m.pages m.dirty next.pages next.dirty _ _ (page-goes_on m first (contains_key m.pages first)) (with_pages-goes_on next (first + 1) count)
