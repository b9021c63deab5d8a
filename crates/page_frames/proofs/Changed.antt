-- What holds where a frame was put into the table, in the place of an old one or as a new one.
use Rattle.std.proofs.Common.{◌≡◌, ◌≢◌, ℕ, ◌+◌, ◌<◌, ◌≤◌, List, [], ◌∷◌, ◌++◌, length, ◌*◌, ◌/◌, ◌%◌}
use Rattle.std.proofs.Common.{Some, None, Bool, true, false, cond, refl, ap, ◌∙◌, sym, arith, eqb}
use Rattle.std.proofs.Common.{⊎_elim, subst, vec_capacity}
use Rattle.std.specs.Prelude.{Option, IfSome, slice_index_or}
use Rattle.std.specs.Vec.{with_item}
use Rattle.std.specs.Option.{option_and_then, option_map}
use Rattle.std.specs.List.{All}
use Rattle.std.specs.FinMap.{insert, same_map, nat_cmp-IsAntisymmetric, gets}
use Rattle.std.specs.FinMap as map
use Rattle.std.specs.Cmp.{nat_cmp_total}
use Rattle.std.proofs.lemmas.Bool.Decides.{eqb_tells}
use Rattle.std.proofs.lemmas.Grind.{common_steps}
use Rattle.sl_model.specs.Pages.{Pages, IsPage, put_bytes, set_bytes}
use Rattle.sl_model.proofs.PagesLaws.{set_bytes-in_page, IsPage-put_bytes}
use Rattle.page_frames.specs.declared.frame.Frame.{Frame}
use Rattle.page_frames.specs.declared.table.Table.{Table}
use Rattle.page_frames.specs.declared.frames.Frames.TheInside.{Inside}
use Rattle.page_frames.specs.MarkedPages.{mark, mark_bytes, with_bytes}
use Rattle.page_frames.specs.Linked.{place_of, Puts, frame_of, index_of, pages_of}
use Rattle.page_frames.specs.Fields.{AreFields, IsPlacing, Marks, marked_pages_of}
use Rattle.page_frames.proofs.Tables.{get-pages_of}
use Rattle.page_frames.proofs.Kept.{whole, framed}
use Rattle.page_frames.proofs.Changes.{IsWritten, Puts-written, IsTable-written, IsWritten-at, frame-read}
use Rattle.page_frames.proofs.Marking.{mark_bytes-in_page}
use Rattle.page_frames.proofs.Places.{IsPlacing-push, IsPlacing-same, list_any-placed, list_any-unplaced}

get-insert_page : (pages : Pages) (number : ℕ) (page : List ℕ) (q : ℕ) → map.get (insert pages number page) q ≡ cond (eqb number q) (Some page) (map.get pages q)
get-insert_page pages number page q = grind (arith, gets, common_steps)

mapped_if : (b : Bool) (f : Frame) (o : Option Frame) → option_map (λ g. g.bytes) (cond b (Some f) o) ≡ cond b (Some f.bytes) (option_map (λ g. g.bytes) o)
mapped_if true f o = refl
mapped_if false f o = refl

pub pages-put : {before after : Table} {page : ℕ} {new : Frame} → Puts before page new after → pages_of after ≡ insert (pages_of before) page new.bytes
pages-put {before} {after} {page} {new} puts = same_map nat_cmp_total nat_cmp-IsAntisymmetric _ _ (λ q.
    get-pages_of after q ∙ ap (option_map (λ f. f.bytes)) (puts.got q) ∙ mapped_if (eqb page q) new (frame_of before q)
    ∙ ap (cond (eqb page q) (Some new.bytes)) (sym (get-pages_of before q)) ∙ sym (get-insert_page (pages_of before) page new.bytes q))

whole_if : (b : Bool) (new : Frame) (o : Option Frame) → IsPage new.bytes → IfSome o (λ f. IsPage f.bytes) → IfSome (cond b (Some new) o) (λ f. IsPage f.bytes)
whole_if true new o is was = is
whole_if false new o is was = was

place_if : (b : Bool) (new : Frame) (o : Option Frame) → option_and_then (λ f. f.place) (cond b (Some new) o) ≡ cond b new.place (option_and_then (λ f. f.place) o)
place_if true new o = refl
place_if false new o = refl

pub place-put : {before after : Table} {page : ℕ} {new : Frame} → Puts before page new after → (q : ℕ) → place_of after q ≡ cond (eqb page q) new.place (place_of before q)
place-put {before} {after} {page} {new} puts q = ap (option_and_then (λ f. f.place)) (puts.got q) ∙ place_if (eqb page q) new (frame_of before q)

itself : (page : ℕ) → eqb page page ≡ true
itself page = grind (arith, common_steps)

pub place-put_same : {before after : Table} {page : ℕ} {new : Frame} → Puts before page new after → place_of after page ≡ new.place
place-put_same {page = page} puts = place-put puts page ∙ rw (itself page) refl

pub place-put_other : {before after : Table} {page : ℕ} {new : Frame} → Puts before page new after → (q : ℕ) → eqb page q ≡ false → place_of after q ≡ place_of before q
place-put_other puts q differ = place-put puts q ∙ rw differ refl

places_by : {before after : Table} {page : ℕ} {new : Frame} {place : Option ℕ} {dirty marked : List ℕ} → Puts before page new after → Marks place new.place page dirty marked
    → place_of before page ≡ place → IsPlacing (place_of before) dirty → (o : Option ℕ) → place ≡ o → IsPlacing (place_of after) marked
places_by {before} {after} {page} {new} {place} {dirty} {marked} puts marks was is None e =
    let now : (new.place ≡ Some (length dirty)) × (marked ≡ dirty ++ page ∷ []) = rw e at marks.marked_now in
    rw now.1 (IsPlacing-push {after = place_of after} is page (was ∙ e) (place-put_same puts ∙ now.0) (place-put_other puts))
places_by {before} {after} {page} {new} {place} {dirty} {marked} puts marks was is (Some i) e =
    let now : (new.place ≡ Some i) × (marked ≡ dirty) = rw e at marks.marked_before in
    rw now.1 (IsPlacing-same {after = place_of after} is (λ q. ⊎_elim
    (λ (same : (eqb page q ≡ true) × (page ≡ q)). place-put puts q ∙ rw same.0 (now.0 ∙ sym (was ∙ e) ∙ ap (place_of before) same.1))
    (λ (differ : (eqb page q ≡ false) × (page ≢ q)). place-put_other puts q differ.0)
    (eqb_tells page q)))

-- the frame's page was marked
pub IsPlacing-put : {before after : Table} {page : ℕ} {new : Frame} {place : Option ℕ} {dirty marked : List ℕ} → Puts before page new after → Marks place new.place page dirty marked
    → place_of before page ≡ place → IsPlacing (place_of before) dirty → IsPlacing (place_of after) marked
IsPlacing-put {place = place} puts marks was is = places_by puts marks was is place refl

-- a frame was written in its place, which may have marked its page
pub record IsRewritten (a b : Inside) (page slot : ℕ) (old new : Frame) : Type 0 where
  pub index : Some slot ≡ index_of a.table.frames.items a.table.used page
  pub written : IsWritten a.table slot old new b.table
  pub marks : Marks old.place new.place page a.dirty.items b.dirty.items
  pub room : vec_capacity a.dirty ≤ vec_capacity b.dirty

pub Puts-rewritten : (a b : Inside) (page slot : ℕ) (old new : Frame) → IsRewritten a b page slot old new
    → Puts a.table page new b.table
Puts-rewritten a b page slot old new is =
    Puts-written a.table b.table page slot old new is.written (sym is.index)

pub frame-rewritten : (a b : Inside) (page slot : ℕ) (old new : Frame) → IsRewritten a b page slot old new
    → frame_of a.table page ≡ Some old
frame-rewritten a b page slot old new is = rw (← is.index) is.written.at

place_was : (a b : Inside) (page slot : ℕ) (old new : Frame) → IsRewritten a b page slot old new
    → place_of a.table page ≡ old.place
place_was a b page slot old new is = rw (frame-rewritten a b page slot old new is) refl

pub AreFields-rewritten : (a b : Inside) (page slot : ℕ) (old new : Frame) → AreFields a
    → IsRewritten a b page slot old new → IsPage new.bytes → AreFields b
AreFields-rewritten a b page slot old new are is whole = record {
  table = IsTable-written a.table b.table slot old new is.written are.table whole;
  places = IsPlacing-put (Puts-rewritten a b page slot old new is) is.marks
      (place_was a b page slot old new is) are.places;
  room = omega (arith, are.room, is.room, is.written.used);
}

-- bytes were written into it
pub AreFields-written : (a b : Inside) (address slot : ℕ) (bytes : List ℕ) (old new : Frame) → AreFields a
    → IsRewritten a b (address / 4096) slot old new
    → new.bytes ≡ put_bytes old.bytes (address % 4096) bytes → All (λ b. b < 256) bytes → AreFields b
AreFields-written a b address slot bytes old new are is put few =
    let was : IsPage old.bytes =
    rw (frame-rewritten a b (address / 4096) slot old new is) at (whole a.table (address / 4096) are.table) in
    AreFields-rewritten a b (address / 4096) slot old new are is
    (rw put (IsPage-put_bytes old.bytes (address % 4096) bytes was few))

-- the frame was changed, and then its page marked
pub IsRewritten-marked : (a b : Inside) (page slot : ℕ) (old mid new : Frame) → AreFields a
    → Some slot ≡ index_of a.table.frames.items a.table.used page
    → old ≡ slice_index_or a.table.frames.items slot old
    → b.table ≡ record a.table { frames = with_item a.table.frames slot new }
    → mid.page ≡ old.page → mid.next ≡ old.next → mid.place ≡ old.place
    → new.page ≡ mid.page → new.next ≡ mid.next
    → Marks mid.place new.place mid.page a.dirty.items b.dirty.items
    → vec_capacity a.dirty ≤ vec_capacity b.dirty → IsRewritten a b page slot old new
IsRewritten-marked a b page slot old mid new are index at table page_is next_is place_is page_now next_now marks room =
    let t = a.table in
    let number : mid.page ≡ page =
    page_is ∙ (framed t page old are.table (sym (frame-read t page slot old are.table index at))).number in
    record {
      index = index;
      written = subst (IsWritten t slot old new) (sym table)
          (IsWritten-at t page slot old new are.table index at (page_now ∙ page_is) (next_now ∙ next_is));
      marks = subst (λ place. Marks place new.place page a.dirty.items b.dirty.items) place_is
          (subst (λ number. Marks mid.place new.place number a.dirty.items b.dirty.items) number marks);
      room = room;
    }

mark_by : {place after : Option ℕ} {page : ℕ} {dirty marked : List ℕ} {places : ℕ → Option ℕ} → IsPlacing places dirty → Marks place after page dirty marked
    → places page ≡ place → (o : Option ℕ) → place ≡ o → marked ≡ mark dirty page
mark_by {page = page} is marks at None e = rw (list_any-unplaced is page (at ∙ e)) (rw e at marks.marked_now).1
mark_by {page = page} is marks at (Some i) e = rw (list_any-placed is page i (at ∙ e)) (rw e at marks.marked_before).1

pub view-written : (a b : Inside) (address slot : ℕ) (bytes : List ℕ) (old new : Frame) → AreFields a
    → IsRewritten a b (address / 4096) slot old new
    → new.bytes ≡ put_bytes old.bytes (address % 4096) bytes → 0 < length bytes
    → address % 4096 + length bytes ≤ 4096 → marked_pages_of b ≡ with_bytes (marked_pages_of a) address bytes
view-written a b address slot bytes old new are is put some within =
    let split : 4096 * (address / 4096) + address % 4096 ≡ address = omega arith in
    let here = frame-rewritten a b (address / 4096) slot old new is in
    let mapped : map.get (pages_of a.table) (address / 4096) ≡ Some old.bytes =
    get-pages_of a.table (address / 4096) ∙ ap (option_map (λ f. f.bytes)) here in
    let pages : pages_of b.table ≡ set_bytes (pages_of a.table) address bytes =
    pages-put (Puts-rewritten a b (address / 4096) slot old new is)
    ∙ rw (put, ← set_bytes-in_page (pages_of a.table) (address / 4096) (address % 4096) bytes old.bytes mapped within, split) refl in
    let dirty : b.dirty.items ≡ mark_bytes a.dirty.items address (length bytes) =
    mark_by are.places is.marks (place_was a b (address / 4096) slot old new is) old.place refl
    ∙ sym (mark_bytes-in_page a.dirty.items address (length bytes) some within) in
    λ i. record { pages = pages i; dirty = dirty i }
