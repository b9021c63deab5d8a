-- The places of dirty pages.
use Rattle.std.proofs.Common.{◌≡◌, ◌≢◌, ℕ, ◌<◌, ◌≤◌, List, [], ◌∷◌, ◌++◌, length, length-append, slice_index, Some, None, true, false, refl, ap, ◌∙◌, sym, arith, eqb, ⊎_elim}
use Rattle.std.specs.Prelude.{Option, IsSome}
use Rattle.sl_model.specs.declared.layout.TheConstants.{PROGRAM_PAGES}
use Rattle.std.proofs.lemmas.Map.Steps.{length-le_from_distinct_below}
use Rattle.std.specs.List.{IsDistinct, list_any}
use Rattle.std.proofs.lemmas.Bool.Decides.{Decides-eqb, eqb_tells}
use Rattle.std.proofs.lemmas.Map.Made.{IsDistinct-from_AllPairs}
use Rattle.std.proofs.lemmas.List.Folds.{list_any_none, list_any_at}
use Rattle.std.proofs.lemmas.List.{get_or_append_left}
use Rattle.std.proofs.lemmas.Grind.{common_steps, get_or_default_zero}
use Rattle.std.proofs.Math.Seq.{get_or-append_seam}
use Rattle.tree_frames.specs.Fields.{IsPlacing}

same_place : (i j : ℕ) → Some i ≡ Some j → i ≡ j
same_place i j e = cc

-- no page stands twice in the list
pub IsPlacing-distinct : {place : ℕ → Option ℕ} {dirty : List ℕ} → IsPlacing place dirty → IsDistinct eqb dirty
IsPlacing-distinct {place} {dirty} is = IsDistinct-from_AllPairs Decides-eqb dirty (λ i j d before within same.
    let first : i < length dirty = omega arith in
    let same0 : slice_index dirty i ≡ slice_index dirty j = sym (get_or_default_zero dirty i d first) ∙ same ∙ get_or_default_zero dirty j d within in
    let both : Some i ≡ Some j = sym (is.placed i first) ∙ ap place same0 ∙ is.placed j within in
    let e : i ≡ j = same_place i j both in
    omega arith)

-- the list has exactly the pages with a place
pub list_any-placed : {place : ℕ → Option ℕ} {dirty : List ℕ} → IsPlacing place dirty → (page i : ℕ) → place page ≡ Some i → list_any (eqb page) dirty ≡ true
list_any-placed {place} {dirty} is page i e =
    let at = is.found page i e in
    list_any_at (eqb page) dirty i 0 at.0 (grind (arith, common_steps, at.1))

pub list_any-unplaced : {place : ℕ → Option ℕ} {dirty : List ℕ} → IsPlacing place dirty → (page : ℕ) → place page ≡ None → list_any (eqb page) dirty ≡ false
list_any-unplaced {place} {dirty} is page none = list_any_none (eqb page) dirty (λ i d within.
    let zero = get_or_default_zero dirty i d within in
    let placed = is.placed i within in
    grind (arith, common_steps, zero, placed, none))

-- where all places stay
pub IsPlacing-same : {place after : ℕ → Option ℕ} {dirty : List ℕ} → IsPlacing place dirty → ((q : ℕ) → after q ≡ place q) → IsPlacing after dirty
IsPlacing-same {dirty = dirty} is stay = record { placed = λ i within. stay _ ∙ is.placed i within; found = λ page i e. is.found page i (sym (stay page) ∙ e) }

apart : (place : ℕ → Option ℕ) (page q i : ℕ) → place page ≡ None → place q ≡ Some i → eqb page q ≡ false
apart place page q i none some = ⊎_elim (λ same. let e : place page ≡ place q = ap place same.1 in cc) (λ differ. differ.0) (eqb_tells page q)

-- a page is marked
pub IsPlacing-push : {place after : ℕ → Option ℕ} {dirty : List ℕ} → IsPlacing place dirty → (page : ℕ) → place page ≡ None
    → after page ≡ Some (length dirty) → ((q : ℕ) → eqb page q ≡ false → after q ≡ place q) → IsPlacing after (dirty ++ page ∷ [])
IsPlacing-push {place} {after} {dirty} is page none at others = record {
  placed = λ i within. ⊎_elim
      (λ (same : (eqb i (length dirty) ≡ true) × (i ≡ length dirty)). let e : slice_index (dirty ++ page ∷ []) i ≡ page = rw same.1 (get_or-append_seam dirty page [] 0) in rw (e, same.1) at)
      (λ (differ : (eqb i (length dirty) ≡ false) × (i ≢ length dirty)).
      let before : i < length dirty = omega (arith, length-append dirty (page ∷ [])) in
      let placed = is.placed i before in
      rw (get_or_append_left dirty (page ∷ []) 0 i before) (others _ (apart place page _ i none placed) ∙ placed))
      (eqb_tells i (length dirty));
  found = λ q i e. ⊎_elim
      (λ (same : (eqb page q ≡ true) × (page ≡ q)).
      let last : i ≡ length dirty = same_place i (length dirty) (sym e ∙ ap after (sym same.1) ∙ at) in
      (omega (arith, length-append dirty (page ∷ [])), rw last (get_or-append_seam dirty page [] 0) ∙ same.1))
      (λ (differ : (eqb page q ≡ false) × (page ≢ q)).
      let before = is.found q i (sym (others q differ.0) ∙ e) in
      (omega (arith, length-append dirty (page ∷ []), before.0), get_or_append_left dirty (page ∷ []) 0 i before.0 ∙ before.1))
      (eqb_tells page q);
}

-- the last marked page is no longer marked
pub IsPlacing-pop : {place after : ℕ → Option ℕ} {dirty : List ℕ} (page : ℕ) → IsPlacing place (dirty ++ page ∷ [])
    → after page ≡ None → ((q : ℕ) → eqb page q ≡ false → after q ≡ place q) → IsPlacing after dirty
IsPlacing-pop {place} {after} {dirty} page is at others =
    let longer : length dirty < length (dirty ++ page ∷ []) = omega (arith, length-append dirty (page ∷ [])) in
    let last : place page ≡ Some (length dirty) = ap place (sym (get_or-append_seam dirty page [] 0)) ∙ is.placed (length dirty) longer in
    record {
      placed = λ i within.
          let placed : place (slice_index dirty i) ≡ Some i = rw (← get_or_append_left dirty (page ∷ []) 0 i within) (is.placed i (omega arith)) in
          ⊎_elim
          (λ (same : (eqb page (slice_index dirty i) ≡ true) × (page ≡ slice_index dirty i)).
          let e : length dirty ≡ i = same_place (length dirty) i (sym last ∙ ap place same.1 ∙ placed) in absurd (omega arith))
          (λ (differ : (eqb page (slice_index dirty i) ≡ false) × (page ≢ slice_index dirty i)). others _ differ.0 ∙ placed)
          (eqb_tells page (slice_index dirty i));
      found = λ q i e. ⊎_elim
          (λ (same : (eqb page q ≡ true) × (page ≡ q)). let none : after q ≡ None = ap after (sym same.1) ∙ at in absurd (cc))
          (λ (differ : (eqb page q ≡ false) × (page ≢ q)).
          let place_is : place q ≡ Some i = sym (others q differ.0) ∙ e in
          let found = is.found q i place_is in
          let before : i < length dirty = ⊎_elim
          (λ (end : (eqb i (length dirty) ≡ true) × (i ≡ length dirty)). absurd (differ.1 (sym (get_or-append_seam dirty page [] 0) ∙ rw (← end.1) found.1)))
          (λ (inner : (eqb i (length dirty) ≡ false) × (i ≢ length dirty)). omega (arith, found.0, length-append dirty (page ∷ []), inner.1))
          (eqb_tells i (length dirty)) in
          (before, sym (get_or_append_left dirty (page ∷ []) 0 i before) ∙ found.1))
          (eqb_tells page q);
    }

pub has_place : {place : ℕ → Option ℕ} {dirty : List ℕ} → IsPlacing place dirty → (page : ℕ) → list_any (eqb page) dirty ≡ true → (o : Option ℕ) → place page ≡ o → IsSome (place page)
has_place is page any None e = let unplaced = list_any-unplaced is page e in absurd cc
has_place is page any (Some i) e = rw e refl

-- there are no more dirty pages than pages of a program
pub length-placed : {place : ℕ → Option ℕ} {dirty : List ℕ} → IsPlacing place dirty → ((page : ℕ) → IsSome (place page) → page < PROGRAM_PAGES) → length dirty ≤ PROGRAM_PAGES
length-placed {place} {dirty} is below = length-le_from_distinct_below dirty PROGRAM_PAGES (IsPlacing-distinct is) (λ page any. below page (has_place is page any (place page) refl))
