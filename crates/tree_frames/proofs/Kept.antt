-- What follows from what holds of the fields.
use Rattle.std.proofs.Common.{◌≡◌, ◌≢◌, ℕ, ◌^◌, ◌<◌, ◌≤◌, List, [], ◌∷◌, length, length-append, slice_index, subst, Some, None, Bool, true, false, cond, refl, ap, ◌∙◌, sym, arith, eqb, ⊎_elim, vec_len, vec_capacity}
use Rattle.std.specs.Prelude.{Option, IsSome, IfNone, IfSome, is_some, Contains}
use Rattle.std.specs.Option.{option_and_then, option_map}
use Rattle.std.specs.FinMap as map
use Rattle.std.specs.Ordering.{nat_cmp, eq_by_cmp}
use Rattle.std.specs.List.{list_any, IsDistinct}
use Rattle.std.specs.Cmp.{eq_by_cmp_equiv, nat_cmp_total}
use Rattle.std.specs.BTreeMap.{BTreeMap, get, btree_map_len}
use Rattle.std.proofs.lemmas.Map.Steps.{length-le_from_keys}
use Rattle.std.proofs.lemmas.Bool.Decides.{eqb_tells}
use Rattle.std.proofs.lemmas.Grind.{common_steps, get_or_default_zero}
use Rattle.sl_model.specs.declared.layout.TheConstants.{PROGRAM_PAGES}
use Rattle.tree_frames.specs.declared.frame.Frame.{Frame}
use Rattle.tree_frames.specs.declared.frames.TreeFrames.TheInside.{Inside}
use Rattle.tree_frames.specs.Fields.{AreFields, IsPlacing, place_of, pages_of, marked_pages_of}
use Rattle.page_frames.specs.MarkedPages.{MarkedPages, IsKept}
use Rattle.sl_model.specs.Pages.{IsPage}
use Rattle.tree_frames.proofs.Views.{get-pages_of}
use Rattle.tree_frames.proofs.Places.{IsPlacing-distinct, IsPlacing-push, has_place, length-placed}

with_frame : (f : Option Frame) → IsSome (option_and_then (λ f. f.place) f) → IsSome f
with_frame None h = h
with_frame (Some f) h = refl

-- a page with a place is mapped
pub mapped : (frames : BTreeMap ℕ Frame) (page : ℕ) → IsSome (place_of frames page) → IsSome (get nat_cmp frames page)
mapped frames page h = with_frame (get nat_cmp frames page) h

-- a word can count the dirty pages
pub few_dirty : (a : Inside) → AreFields a → length a.dirty.items ≤ PROGRAM_PAGES
few_dirty a are = length-placed are.places (λ page h. are.below page (mapped a.frames page h))

with_place : (frames : BTreeMap ℕ Frame) (page q n : ℕ) → IsSome (get nat_cmp frames page) → IsSome (cond (eqb page q) (Some n) (place_of frames q)) → IsSome (get nat_cmp frames q)
with_place frames page q n found h = ⊎_elim
    (λ (same : (eqb page q ≡ true) × (page ≡ q)). rw (← same.1) found)
    (λ (differ : (eqb page q ≡ false) × (page ≢ q)). mapped frames q (rw differ.0 at h))
    (eqb_tells page q)

-- two numbers tie where they are equal
pub tie : (x y : ℕ) → eq_by_cmp nat_cmp x y ≡ eqb x y
tie x y = grind (arith, common_steps)

same_test : ◌≡◌ {A = ℕ → ℕ → Bool} (eq_by_cmp nat_cmp) eqb
same_test = λ i x y. tie x y i

-- there are at most as many dirty pages as frames
pub length-le-frames : {place : ℕ → Option ℕ} {dirty : List ℕ} → IsPlacing place dirty → (frames : BTreeMap ℕ Frame) → ((q : ℕ) → IsSome (place q) → IsSome (get nat_cmp frames q)) → length dirty ≤ btree_map_len frames
length-le-frames {place} {dirty} is frames found =
    length-le_from_keys (eq_by_cmp_equiv nat_cmp_total) dirty frames.entries
    (subst (λ test. IsDistinct test dirty) (sym same_test) (IsPlacing-distinct is))
    (λ q any. found q (has_place is q (subst (λ (test : ℕ → ℕ → Bool). list_any (test q) dirty ≡ true) same_test any) (place q) refl))

-- a page that is not marked can be
room_to_mark : (a : Inside) → AreFields a → (page : ℕ) → IsSome (get nat_cmp a.frames page) → place_of a.frames page ≡ None → vec_len a.dirty < vec_capacity a.dirty
room_to_mark a are page found none =
    let place : ℕ → Option ℕ = λ q. cond (eqb page q) (Some (length a.dirty.items)) (place_of a.frames q) in
    let longer = length-le-frames (IsPlacing-push {after = place} are.places page none (grind (arith, common_steps)) (λ q differ. rw differ refl)) a.frames
    (λ q h. with_place a.frames page q (length a.dirty.items) found h) in
    omega (arith, a.dirty.ok.0, length-append a.dirty.items (page ∷ []), are.room)

room_if : (a : Inside) → AreFields a → (page : ℕ) → IsSome (get nat_cmp a.frames page) → (o : Option ℕ) → place_of a.frames page ≡ o → IfNone o (vec_len a.dirty < vec_capacity a.dirty)
room_if a are page found None e = room_to_mark a are page found e
room_if a are page found (Some i) e = tt

-- what marking a page of a frame asks
pub room_for : (a : Inside) → AreFields a → (page : ℕ) (frame : Frame) → Some frame ≡ get nat_cmp a.frames page → IfNone frame.place (vec_len a.dirty < vec_capacity a.dirty)
room_for a are page frame found = room_if a are page (rw (← found) refl) frame.place (rw (← found) refl)

-- a page that is mapped has a frame
pub has_frame : (a : Inside) (m : MarkedPages) (page : ℕ) → marked_pages_of a ≡ m → None ≡ get nat_cmp a.frames page → IsSome (map.get m.pages page) → ⊥
has_frame a m page view none found =
    let unmapped : map.get m.pages page ≡ None = ap (λ v. map.get v.pages page) (sym view) ∙ get-pages_of a.frames page ∙ ap (option_map (λ f. f.bytes)) (sym none) in
    let both : is_some (map.get m.pages page) ≡ false = ap is_some unmapped in
    absurd cc

whole_by : (o : Option Frame) (number : ℕ) → IfSome o (λ f. IsPage f.bytes) → (IsSome o → number < PROGRAM_PAGES) → IfSome (option_map (λ f. f.bytes) o) (λ page. (number < 2 ^ 20) × IsPage page)
whole_by None number is below = tt
whole_by (Some f) number is below = (omega (arith, below refl), is)

with_bytes : (o : Option Frame) → IsSome o → IsSome (option_map (λ f. f.bytes) o)
with_bytes None h = h
with_bytes (Some f) h = refl

still_mapped : (o : Option Frame) → IsSome (option_map (λ f. f.bytes) o) → IsSome o
still_mapped None h = h
still_mapped (Some f) h = refl

marked_mapped : (a : Inside) → AreFields a → (page : ℕ) → Contains a.dirty.items page → IsSome (map.get (pages_of a.frames.entries) page)
marked_mapped a are page stands =
    let there : slice_index a.dirty.items stands.0 ≡ page = sym (get_or_default_zero a.dirty.items stands.0 page stands.1) ∙ stands.2 in
    let place : place_of a.frames page ≡ Some stands.0 = ap (place_of a.frames) (sym there) ∙ are.places.placed stands.0 stands.1 in
    rw (get-pages_of a.frames page) (with_bytes (get nat_cmp a.frames page) (mapped a.frames page (rw place refl)))

kept_inside : (a : Inside) → AreFields a → IsKept (marked_pages_of a)
kept_inside a are = record {
  whole = λ number. rw (get-pages_of a.frames number) (whole_by (get nat_cmp a.frames number) number (are.whole number) (are.below number));
  below = λ page h. are.below page (still_mapped (get nat_cmp a.frames page) (rw (get-pages_of a.frames page) at h));
  few = are.few;
  once = IsPlacing-distinct are.places;
  mapped = λ page stands. marked_mapped a are page stands;
}

-- what callers see holds
pub kept : (a : Inside) → AreFields a → (m : MarkedPages) → marked_pages_of a ≡ m → IsKept m
kept a are m view = subst IsKept view (kept_inside a are)
