-- What holds where a frame was put into the map, in the place of an old one or as a new one.
use Rattle.std.proofs.Common.{◌≡◌, ◌≢◌, ℕ, ◌+◌, ◌<◌, ◌≤◌, List, [], ◌∷◌, ◌++◌, length, ◌*◌, ◌/◌, ◌%◌, Some, None, Bool, true, false, cond, refl, ap, ◌∙◌, sym, arith, eqb, ⊎_elim, subst, vec_capacity}
use Rattle.std.specs.Prelude.{Option, IfSome, IsSome}
use Rattle.std.specs.Option.{option_and_then, option_map}
use Rattle.std.specs.Ordering.{nat_cmp}
use Rattle.std.specs.List.{All}
use Rattle.std.specs.BTreeMap.{BTreeMap, get, btree_map_len, WritesThrough, Updates}
use Rattle.std.specs.FinMap.{insert, len-insert, same_map, nat_cmp-IsAntisymmetric, gets}
use Rattle.std.specs.FinMap as map
use Rattle.std.specs.Cmp.{nat_cmp_total}
use Rattle.std.proofs.lemmas.Bool.Decides.{eqb_tells}
use Rattle.std.proofs.lemmas.Grind.{common_steps}
use Rattle.sl_model.specs.Pages.{Pages, IsPage, put_bytes, set_bytes}
use Rattle.sl_model.proofs.PagesLaws.{set_bytes-in_page, IsPage-put_bytes}
use Rattle.sl_model.specs.declared.layout.TheConstants.{PROGRAM_PAGES, MOST_PAGES}
use Rattle.tree_frames.specs.declared.frame.Frame.{Frame}
use Rattle.tree_frames.specs.declared.frames.TreeFrames.TheInside.{Inside}
use Rattle.page_frames.specs.MarkedPages.{mark, mark_bytes, with_bytes}
use Rattle.tree_frames.specs.Fields.{AreFields, IsPlacing, Marks, place_of, pages_of, marked_pages_of}
use Rattle.tree_frames.proofs.Views.{get-pages_of}
use Rattle.tree_frames.proofs.Kept.{tie}
use Rattle.page_frames.proofs.Marking.{mark_bytes-in_page}
use Rattle.tree_frames.proofs.Places.{IsPlacing-push, IsPlacing-same, list_any-placed, list_any-unplaced}

get-insert_page : (pages : Pages) (number : ℕ) (page : List ℕ) (q : ℕ) → map.get (insert pages number page) q ≡ cond (eqb number q) (Some page) (map.get pages q)
get-insert_page pages number page q = grind (arith, gets, common_steps)

-- the map holds a frame at a page, and else what it held
pub record Puts (before : BTreeMap ℕ Frame) (page : ℕ) (new : Frame) (after : BTreeMap ℕ Frame) : Type 0 where
  pub got : (q : ℕ) → get nat_cmp after q ≡ cond (eqb page q) (Some new) (get nat_cmp before q)

pub Puts-written : (before after : BTreeMap ℕ Frame) {page : ℕ} {old new : Frame} → Some old ≡ get nat_cmp before page → WritesThrough nat_cmp (nat_cmp page) before new after → Puts before page new after
Puts-written before after {page} {old} {new} found written =
    record { got = λ q. (written.3 (rw (← found) refl)).0 q ∙ ap (λ b. cond b (Some new) (get nat_cmp before q)) (tie page q) }

pub Puts-inserted : (before after : BTreeMap ℕ Frame) {page : ℕ} {new : Frame} → Updates nat_cmp before after page (Some new) → Puts before page new after
Puts-inserted before after {page} {new} updates = record { got = λ q. updates.0 q ∙ ap (λ b. cond b (Some new) (get nat_cmp before q)) (tie page q) }

mapped_if : (b : Bool) (f : Frame) (o : Option Frame) → option_map (λ g. g.bytes) (cond b (Some f) o) ≡ cond b (Some f.bytes) (option_map (λ g. g.bytes) o)
mapped_if true f o = refl
mapped_if false f o = refl

pub pages-put : {before after : BTreeMap ℕ Frame} {page : ℕ} {new : Frame} → Puts before page new after → pages_of after.entries ≡ insert (pages_of before.entries) page new.bytes
pages-put {before} {after} {page} {new} puts = same_map nat_cmp_total nat_cmp-IsAntisymmetric _ _ (λ q.
    get-pages_of after q ∙ ap (option_map (λ f. f.bytes)) (puts.got q) ∙ mapped_if (eqb page q) new (get nat_cmp before q)
    ∙ ap (cond (eqb page q) (Some new.bytes)) (sym (get-pages_of before q)) ∙ sym (get-insert_page (pages_of before.entries) page new.bytes q))

whole_if : (b : Bool) (new : Frame) (o : Option Frame) → IsPage new.bytes → IfSome o (λ f. IsPage f.bytes) → IfSome (cond b (Some new) o) (λ f. IsPage f.bytes)
whole_if true new o is was = is
whole_if false new o is was = was

place_if : (b : Bool) (new : Frame) (o : Option Frame) → option_and_then (λ f. f.place) (cond b (Some new) o) ≡ cond b new.place (option_and_then (λ f. f.place) o)
place_if true new o = refl
place_if false new o = refl

place-put : {before after : BTreeMap ℕ Frame} {page : ℕ} {new : Frame} → Puts before page new after → (q : ℕ) → place_of after q ≡ cond (eqb page q) new.place (place_of before q)
place-put {before} {after} {page} {new} puts q = ap (option_and_then (λ f. f.place)) (puts.got q) ∙ place_if (eqb page q) new (get nat_cmp before q)

itself : (page : ℕ) → eqb page page ≡ true
itself page = grind (arith, common_steps)

pub place-put_same : {before after : BTreeMap ℕ Frame} {page : ℕ} {new : Frame} → Puts before page new after → place_of after page ≡ new.place
place-put_same {page = page} puts = place-put puts page ∙ rw (itself page) refl

pub place-put_other : {before after : BTreeMap ℕ Frame} {page : ℕ} {new : Frame} → Puts before page new after → (q : ℕ) → eqb page q ≡ false → place_of after q ≡ place_of before q
place-put_other puts q differ = place-put puts q ∙ rw differ refl

places_by : {before after : BTreeMap ℕ Frame} {page : ℕ} {new : Frame} {place : Option ℕ} {dirty marked : List ℕ} → Puts before page new after → Marks place new.place page dirty marked
    → place_of before page ≡ place → IsPlacing (place_of before) dirty → (o : Option ℕ) → place ≡ o → IsPlacing (place_of after) marked
places_by {before} {after} {page} {new} {place} {dirty} {marked} puts marks was is None e =
    let now : (new.place ≡ Some (length dirty)) × (marked ≡ dirty ++ page ∷ []) = rw e at marks.marked_now in
    rw now.1 (IsPlacing-push {after = place_of after} is page (was ∙ e) (place-put_same puts ∙ now.0) (place-put_other puts))
places_by {before} {after} {page} {new} {place} {dirty} {marked} puts marks was is (Some i) e =
    let now : (new.place ≡ Some i) × (marked ≡ dirty) = rw e at marks.marked_before in
    rw now.1 (IsPlacing-same {after = place_of after} is (λ q. ⊎_elim
    (λ (same : (eqb page q ≡ true) × (page ≡ q)). place-put puts q ∙ rw same.0 (now.0 ∙ sym (was ∙ e) ∙ ap (place_of before) same.1))
    (λ (differ : (eqb page q ≡ false) × (page ≢ q)). place-put_other puts q differ.0)
    (eqb_tells page q)))

-- the frame's page was marked
pub IsPlacing-put : {before after : BTreeMap ℕ Frame} {page : ℕ} {new : Frame} {place : Option ℕ} {dirty marked : List ℕ} → Puts before page new after → Marks place new.place page dirty marked
    → place_of before page ≡ place → IsPlacing (place_of before) dirty → IsPlacing (place_of after) marked
IsPlacing-put {place = place} puts marks was is = places_by puts marks was is place refl

below_put : {before after : BTreeMap ℕ Frame} {page : ℕ} {new : Frame} → Puts before page new after → ((q : ℕ) → IsSome (get nat_cmp before q) → q < PROGRAM_PAGES) → page < PROGRAM_PAGES
    → (q : ℕ) → IsSome (get nat_cmp after q) → q < PROGRAM_PAGES
below_put {before} {after} {page} {new} puts below here q found = ⊎_elim
    (λ (same : (eqb page q ≡ true) × (page ≡ q)). rw (← same.1) here)
    (λ (differ : (eqb page q ≡ false) × (page ≢ q)). below q (rw (puts.got q, differ.0) at found))
    (eqb_tells page q)

-- a frame was put in
pub AreFields-put : (a b : Inside) (page : ℕ) (new : Frame) → AreFields a → Puts a.frames page new b.frames → IsPlacing (place_of b.frames) b.dirty.items → IsPage new.bytes
    → page < PROGRAM_PAGES → map.len (pages_of b.frames.entries) ≤ MOST_PAGES → btree_map_len b.frames ≤ vec_capacity b.dirty → AreFields b
AreFields-put a b page new are puts places is here few room = record {
  whole = λ q. subst (λ o. IfSome o (λ f. IsPage f.bytes)) (sym (puts.got q)) (whole_if (eqb page q) new (get nat_cmp a.frames q) is (are.whole q));
  below = below_put puts are.below here;
  few = few;
  places = places;
  room = room;
}

-- ---- in the place of an old one

-- an old frame was changed
pub AreFields-changed : (a b : Inside) (page : ℕ) (old new : Frame) → AreFields a → Some old ≡ get nat_cmp a.frames page → WritesThrough nat_cmp (nat_cmp page) a.frames new b.frames
    → IsPlacing (place_of b.frames) b.dirty.items → IsPage new.bytes → vec_capacity a.dirty ≤ vec_capacity b.dirty → AreFields b
AreFields-changed a b page old new are found written places is room =
    AreFields-put a b page new are (Puts-written a.frames b.frames found written) places is (are.below page (rw (← found) refl))
    (rw (pages-put (Puts-written a.frames b.frames found written), len-insert nat_cmp_total, get-pages_of a.frames page, ← found) are.few) (omega (arith, are.room, room, written.2))

-- bytes were written into it
pub AreFields-written : (a b : Inside) (address : ℕ) (bytes : List ℕ) (old new : Frame) → AreFields a → Some old ≡ get nat_cmp a.frames (address / 4096)
    → WritesThrough nat_cmp (nat_cmp (address / 4096)) a.frames new b.frames → Marks old.place new.place (address / 4096) a.dirty.items b.dirty.items
    → new.bytes ≡ put_bytes old.bytes (address % 4096) bytes → All (λ b. b < 256) bytes → vec_capacity a.dirty ≤ vec_capacity b.dirty → AreFields b
AreFields-written a b address bytes old new are found written marks put few room =
    let was : IsPage old.bytes = rw (← found) at (are.whole (address / 4096)) in
    let place : place_of a.frames (address / 4096) ≡ old.place = rw (← found) refl in
    AreFields-changed a b (address / 4096) old new are found written (IsPlacing-put (Puts-written a.frames b.frames found written) marks place are.places)
    (rw put (IsPage-put_bytes old.bytes (address % 4096) bytes was few)) room

mark_by : {place after : Option ℕ} {page : ℕ} {dirty marked : List ℕ} {places : ℕ → Option ℕ} → IsPlacing places dirty → Marks place after page dirty marked
    → places page ≡ place → (o : Option ℕ) → place ≡ o → marked ≡ mark dirty page
mark_by {page = page} is marks at None e = rw (list_any-unplaced is page (at ∙ e)) (rw e at marks.marked_now).1
mark_by {page = page} is marks at (Some i) e = rw (list_any-placed is page i (at ∙ e)) (rw e at marks.marked_before).1

pub view-written : (a b : Inside) (address : ℕ) (bytes : List ℕ) (old new : Frame) → AreFields a → Some old ≡ get nat_cmp a.frames (address / 4096)
    → WritesThrough nat_cmp (nat_cmp (address / 4096)) a.frames new b.frames → Marks old.place new.place (address / 4096) a.dirty.items b.dirty.items
    → new.bytes ≡ put_bytes old.bytes (address % 4096) bytes → 0 < length bytes → address % 4096 + length bytes ≤ 4096 → marked_pages_of b ≡ with_bytes (marked_pages_of a) address bytes
view-written a b address bytes old new are is written marks put some within =
    let split : 4096 * (address / 4096) + address % 4096 ≡ address = omega arith in
    let found : map.get (pages_of a.frames.entries) (address / 4096) ≡ Some old.bytes = get-pages_of a.frames (address / 4096) ∙ ap (option_map (λ f. f.bytes)) (sym is) in
    let pages : pages_of b.frames.entries ≡ set_bytes (pages_of a.frames.entries) address bytes =
    pages-put (Puts-written a.frames b.frames is written) ∙ rw (put, ← set_bytes-in_page (pages_of a.frames.entries) (address / 4096) (address % 4096) bytes old.bytes found within, split) refl in
    let place : place_of a.frames (address / 4096) ≡ old.place = rw (← is) refl in
    let dirty : b.dirty.items ≡ mark_bytes a.dirty.items address (length bytes) = mark_by are.places marks place old.place refl ∙ sym (mark_bytes-in_page a.dirty.items address (length bytes) some within) in
    λ i. record { pages = pages i; dirty = dirty i }
