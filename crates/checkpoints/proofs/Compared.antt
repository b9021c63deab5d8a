-- The least page that differs, among those that were compared so far.
use Rattle.std.proofs.Common.{◌≡◌, ℕ, ◌<◌, ◌≤◌, Bool, true, false, List, Some, None, refl, ap, ◌∙◌}
use Rattle.std.proofs.Common.{sym, arith, [], ◌∷◌, ◌++◌, length, take, get_or, ◌+◌, inl, inr}
use Rattle.std.specs.Prelude.{Option, IsSome, nat_le, ◌||◌, ◌==◌, ◌⊎◌}
use Rattle.std.specs.FinMap.{get}
use Rattle.std.proofs.lemmas.Grind.{common_steps}
use Rattle.sl_model.specs.Pages.{Pages}
use Rattle.call_log.specs.declared.breaks.BreakKind.{BreakKind}
use Rattle.rec_format.specs.declared.recording.Recording.{Recording}
use Rattle.rec_format.specs.declared.recording.ListedPage.{ListedPage}
use Rattle.rec_format.specs.Recorded.{is_listed}
use Rattle.rec_format.specs.Compared.{PartDiff, as_checkpoint_break}
use Rattle.rec_format.proofs.Listed.{take_item}
use Rattle.checkpoints.specs.Memory.{mapped_diff, IsUnlike, IsCompared, is_passed, IsFirstUnlike}

le_from : (a b : ℕ) → nat_le a b ≡ true → a ≤ b
le_from a b e = grind (arith, common_steps)

lt_from : (a b : ℕ) → nat_le a b ≡ false → b < a
lt_from a b e = grind (arith, common_steps)

-- ---- a page that needs no comparison

pub passed : (opened : Pages) (rec : Recording) (k : ℕ) (pages : Pages) (least : Option (ℕ × BreakKind)) (page : ℕ)
    → is_passed least page ≡ true → IsCompared opened rec k pages least page
passed opened rec k pages None page is = absurd cc
passed opened rec k pages (Some u) page is = λ lt. absurd (omega (arith, le_from u.0 page is, lt))

-- ---- a page that does not differ

no_break : (k : ℕ) (o : Option PartDiff) → None ≡ as_checkpoint_break k o → o ≡ None
no_break k None is = refl
no_break k (Some d) is = absurd cc

alike_by : (opened : Pages) (rec : Recording) (k : ℕ) (pages : Pages) (least : Option (ℕ × BreakKind)) (page : ℕ)
    → mapped_diff opened rec k page (get pages page) ≡ None → IsCompared opened rec k pages least page
alike_by opened rec k pages None page alike = alike
alike_by opened rec k pages (Some u) page alike = λ lt. alike

pub alike : (opened : Pages) (rec : Recording) (k : ℕ) (pages : Pages) (least : Option (ℕ × BreakKind)) (page : ℕ)
    → None ≡ as_checkpoint_break k (mapped_diff opened rec k page (get pages page))
    → IsCompared opened rec k pages least page
alike opened rec k pages least page none =
    alike_by opened rec k pages least page (no_break k (mapped_diff opened rec k page (get pages page)) none)

-- ---- a page that differs

mapped_by : (opened : Pages) (rec : Recording) (k page : ℕ) (o : Option (List ℕ)) (kind : BreakKind)
    → Some kind ≡ as_checkpoint_break k (mapped_diff opened rec k page o) → IsSome o
mapped_by opened rec k page None kind is = absurd cc
mapped_by opened rec k page (Some bytes) kind is = refl

pub unlike : (opened : Pages) (rec : Recording) (k : ℕ) (pages : Pages) (page : ℕ) (kind : BreakKind)
    → Some kind ≡ as_checkpoint_break k (mapped_diff opened rec k page (get pages page))
    → IsUnlike opened rec k pages (Some (page, kind))
unlike opened rec k pages page kind is = (sym is, mapped_by opened rec k page (get pages page) kind is)

pub unlike_here : (opened : Pages) (rec : Recording) (k : ℕ) (pages : Pages) (page : ℕ) (kind : BreakKind)
    → IsCompared opened rec k pages (Some (page, kind)) page
unlike_here opened rec k pages page kind = λ lt. absurd (omega arith)

pub unlike_keeps : (opened : Pages) (rec : Recording) (k : ℕ) (pages : Pages) (least : Option (ℕ × BreakKind)) (page : ℕ)
    (kind : BreakKind) → is_passed least page ≡ false → (q : ℕ) → IsCompared opened rec k pages least q
    → IsCompared opened rec k pages (Some (page, kind)) q
unlike_keeps opened rec k pages None page kind is q compared = λ lt. compared
unlike_keeps opened rec k pages (Some u) page kind is q compared =
    λ lt. compared (omega (arith, lt_from u.0 page is, lt))

-- ---- all of them

pub first : (opened : Pages) (rec : Recording) (k : ℕ) (pages : Pages) (least : Option (ℕ × BreakKind))
    → IsUnlike opened rec k pages least → ((q : ℕ) → IsCompared opened rec k pages least q)
    → IsFirstUnlike opened rec k pages least
first opened rec k pages None told compared = compared
first opened rec k pages (Some u) told compared = (told.0, told.1, compared)

pub compared_alike : (opened : Pages) (rec : Recording) (k : ℕ) (pages : Pages) (least : Option (ℕ × BreakKind)) (page : ℕ)
    → mapped_diff opened rec k page (get pages page) ≡ None → IsCompared opened rec k pages least page
compared_alike = alike_by

-- ---- a list that is gone through

same_number : (p q : ℕ) → (p == q) ≡ true → p ≡ q
same_number p q e = grind (arith, common_steps)

or_false : (b : Bool) → (b || false) ≡ true → b ≡ true
or_false true e = refl
or_false false e = e

listed_by : (a b : Bool) (rest : Bool) (n q : ℕ) → (a || b) ≡ true → (b ≡ true → (rest ≡ true) ⊎ (n ≡ q))
    → ((a || rest) ≡ true) ⊎ (n ≡ q)
listed_by true b rest n q is later = inl refl
listed_by false b rest n q is later = later is

listed_last : (xs : List ListedPage) (item : ListedPage) (q : ℕ) → is_listed (xs ++ item ∷ []) q ≡ true
    → (is_listed xs q ≡ true) ⊎ (item.number ≡ q)
listed_last [] item q is = inr (same_number item.number q (or_false (item.number == q) is))
listed_last (x ∷ xs) item q is =
    listed_by (x.number == q) (is_listed (xs ++ item ∷ []) q) (is_listed xs q) item.number q is (listed_last xs item q)

-- a page of the items so far and one more
pub listed_more : (xs : List ListedPage) (i q : ℕ) (item : ListedPage) → i < length xs → item ≡ get_or xs i item
    → is_listed (take (i + 1) xs) q ≡ true → (is_listed (take i xs) q ≡ true) ⊎ (item.number ≡ q)
listed_more xs i q item lt at is =
    listed_last (take i xs) item q (ap (λ l. is_listed l q) (sym (take_item xs i item lt at)) ∙ is)
