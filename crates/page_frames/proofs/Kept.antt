-- What follows from what holds of the fields.
use Rattle.std.proofs.Common.{◌≡◌, ◌≢◌, ℕ, ◌^◌, ◌<◌, ◌≤◌, List, [], ◌∷◌, length, length-append}
use Rattle.std.proofs.Common.{slice_index, subst, Some, None, true, false, cond, refl, ap, ◌∙◌}
use Rattle.std.proofs.Common.{sym, arith, eqb, ⊎_elim, vec_len, vec_capacity, slice_get}
use Rattle.std.specs.Prelude.{Option, IsSome, IfNone, IfSome, is_some, Contains}
use Rattle.std.specs.Option.{option_and_then, option_map}
use Rattle.std.specs.FinMap as map
use Rattle.std.proofs.lemmas.Bool.Decides.{eqb_tells}
use Rattle.std.proofs.lemmas.Grind.{common_steps, get_or_default_zero}
use Rattle.sl_model.specs.declared.layout.TheConstants.{PROGRAM_PAGES}
use Rattle.sl_model.specs.Pages.{IsPage}
use Rattle.page_frames.specs.declared.frame.Frame.{Frame}
use Rattle.page_frames.specs.declared.table.Table.{Table}
use Rattle.page_frames.specs.declared.frames.Frames.TheInside.{Inside}
use Rattle.page_frames.specs.Linked.{place_of, IsTable, frame_of, pages_of, index_of}
use Rattle.page_frames.specs.Fields.{AreFields, IsPlacing, marked_pages_of}
use Rattle.page_frames.specs.MarkedPages.{MarkedPages, IsKept}
use Rattle.page_frames.proofs.Tables.{get-pages_of, frame-linked, found}
use Rattle.page_frames.proofs.Changes.{len-pages_of}
use Rattle.page_frames.proofs.Counts.{length-le-used}
use Rattle.page_frames.proofs.Places.{IsPlacing-distinct, IsPlacing-push, has_place, length-placed}

-- ---- the frame of a page

pub record IsFrameOf (page : ℕ) (f : Frame) : Type 0 where
  pub number : f.page ≡ page
  pub whole : IsPage f.bytes
  pub below : page < PROGRAM_PAGES

framed_by : (t : Table) (page : ℕ) (f : Frame) → IsTable t → (o : Option ℕ)
    → index_of t.frames.items t.used page ≡ o
    → option_and_then (λ i. slice_get t.frames.items i) o ≡ Some f → IsFrameOf page f
framed_by t page f is None index at = absurd cc
framed_by t page f is (Some i) index at =
    let here = found t.frames.items t.used page i f index at in
    let linked = frame-linked t i f is here.below at in
    record {
      number = here.number;
      whole = linked.whole;
      below = rw here.number at linked.below;
    }

pub framed : (t : Table) (page : ℕ) (f : Frame) → IsTable t → frame_of t page ≡ Some f → IsFrameOf page f
framed t page f is at = framed_by t page f is (index_of t.frames.items t.used page) refl at

whole_by : (t : Table) (page : ℕ) → IsTable t → (o : Option Frame) → frame_of t page ≡ o
    → IfSome o (λ f. IsPage f.bytes)
whole_by t page is None e = tt
whole_by t page is (Some f) e = (framed t page f is e).whole

pub whole : (t : Table) (page : ℕ) → IsTable t → IfSome (frame_of t page) (λ f. IsPage f.bytes)
whole t page is = whole_by t page is (frame_of t page) refl

below_by : (t : Table) (page : ℕ) → IsTable t → (o : Option Frame) → frame_of t page ≡ o → IsSome o
    → page < PROGRAM_PAGES
below_by t page is None e some = absurd cc
below_by t page is (Some f) e some = (framed t page f is e).below

pub below : (t : Table) (page : ℕ) → IsTable t → IsSome (frame_of t page) → page < PROGRAM_PAGES
below t page is some = below_by t page is (frame_of t page) refl some

-- ---- dirty pages

with_frame : (f : Option Frame) → IsSome (option_and_then (λ f. f.place) f) → IsSome f
with_frame None h = h
with_frame (Some f) h = refl

-- a page with a place is mapped
pub mapped : (t : Table) (page : ℕ) → IsSome (place_of t page) → IsSome (frame_of t page)
mapped t page h = with_frame (frame_of t page) h

-- a word can count the dirty pages
pub few_dirty : (a : Inside) → AreFields a → length a.dirty.items ≤ PROGRAM_PAGES
few_dirty a are =
    length-placed are.places (λ page h. below a.table page are.table (mapped a.table page h))

-- there are at most as many dirty pages as frames in use
pub length-le-frames : {place : ℕ → Option ℕ} {dirty : List ℕ} → IsPlacing place dirty → (t : Table)
    → ((q : ℕ) → IsSome (place q) → IsSome (frame_of t q)) → length dirty ≤ t.used
length-le-frames {place} {dirty} is t framed =
    length-le-used t dirty (IsPlacing-distinct is)
    (λ q any. framed q (has_place is q any (place q) refl))

with_place : (t : Table) (page q n : ℕ) → IsSome (frame_of t page)
    → IsSome (cond (eqb page q) (Some n) (place_of t q)) → IsSome (frame_of t q)
with_place t page q n some h = ⊎_elim
    (λ (same : (eqb page q ≡ true) × (page ≡ q)). rw (← same.1) some)
    (λ (differ : (eqb page q ≡ false) × (page ≢ q)). mapped t q (rw differ.0 at h))
    (eqb_tells page q)

-- a page that is not marked can be
room_to_mark : (a : Inside) → AreFields a → (page : ℕ) → IsSome (frame_of a.table page)
    → place_of a.table page ≡ None → vec_len a.dirty < vec_capacity a.dirty
room_to_mark a are page some none =
    let place : ℕ → Option ℕ = λ q.
    cond (eqb page q) (Some (length a.dirty.items)) (place_of a.table q) in
    let longer = length-le-frames (IsPlacing-push {after = place} are.places page none
    (grind (arith, common_steps)) (λ q differ. rw differ refl)) a.table
    (λ q h. with_place a.table page q (length a.dirty.items) some h) in
    omega (arith, a.dirty.ok.0, length-append a.dirty.items (page ∷ []), are.room)

room_if : (a : Inside) → AreFields a → (page : ℕ) → IsSome (frame_of a.table page) → (o : Option ℕ)
    → place_of a.table page ≡ o → IfNone o (vec_len a.dirty < vec_capacity a.dirty)
room_if a are page some None e = room_to_mark a are page some e
room_if a are page some (Some i) e = tt

-- what marking a page of a frame asks
pub room_for : (a : Inside) → AreFields a → (page : ℕ) (frame : Frame)
    → Some frame ≡ frame_of a.table page
    → IfNone frame.place (vec_len a.dirty < vec_capacity a.dirty)
room_for a are page frame at =
    room_if a are page (rw (← at) refl) frame.place (rw (← at) refl)

-- ---- what callers see

-- a page that is mapped has a frame
pub has_frame : (a : Inside) (m : MarkedPages) (page : ℕ) → marked_pages_of a ≡ m
    → None ≡ frame_of a.table page → IsSome (map.get m.pages page) → ⊥
has_frame a m page view none some =
    let unmapped : map.get m.pages page ≡ None =
    ap (λ v. map.get v.pages page) (sym view) ∙ get-pages_of a.table page
    ∙ ap (option_map (λ f. f.bytes)) (sym none) in
    let both : is_some (map.get m.pages page) ≡ false = ap is_some unmapped in
    absurd cc

page_by : (o : Option Frame) (number : ℕ) → IfSome o (λ f. IsPage f.bytes)
    → (IsSome o → number < PROGRAM_PAGES)
    → IfSome (option_map (λ f. f.bytes) o) (λ page. (number < 2 ^ 20) × IsPage page)
page_by None number is below = tt
page_by (Some f) number is below = (omega (arith, below refl), is)

with_bytes : (o : Option Frame) → IsSome o → IsSome (option_map (λ f. f.bytes) o)
with_bytes None h = h
with_bytes (Some f) h = refl

still_mapped : (o : Option Frame) → IsSome (option_map (λ f. f.bytes) o) → IsSome o
still_mapped None h = h
still_mapped (Some f) h = refl

marked_mapped : (a : Inside) → AreFields a → (page : ℕ) → Contains a.dirty.items page
    → IsSome (map.get (pages_of a.table) page)
marked_mapped a are page stands =
    let there : slice_index a.dirty.items stands.0 ≡ page =
    sym (get_or_default_zero a.dirty.items stands.0 page stands.1) ∙ stands.2 in
    let place : place_of a.table page ≡ Some stands.0 =
    ap (place_of a.table) (sym there) ∙ are.places.placed stands.0 stands.1 in
    rw (get-pages_of a.table page)
    (with_bytes (frame_of a.table page) (mapped a.table page (rw place refl)))

kept_inside : (a : Inside) → AreFields a → IsKept (marked_pages_of a)
kept_inside a are = record {
  whole = λ number. rw (get-pages_of a.table number)
      (page_by (frame_of a.table number) number (whole a.table number are.table)
      (below a.table number are.table));
  below = λ page h. below a.table page are.table
      (still_mapped (frame_of a.table page) (rw (get-pages_of a.table page) at h));
  few = rw (len-pages_of a.table are.table) are.table.few;
  once = IsPlacing-distinct are.places;
  mapped = λ page stands. marked_mapped a are page stands;
}

-- what callers see holds
pub kept : (a : Inside) → AreFields a → (m : MarkedPages) → marked_pages_of a ≡ m → IsKept m
kept a are m view = subst IsKept view (kept_inside a are)
