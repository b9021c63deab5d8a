-- What holds where a page was mapped, or its marking taken back.
use Rattle.std.proofs.Common.{◌≡◌, ℕ, ◌+◌, ◌-◌, ◌/◌, ◌%◌, ◌<◌, ◌≤◌, [], ◌∷◌, ◌++◌, length, take, Some}
use Rattle.std.proofs.Common.{None, Bool, true, false, cond, refl, ap, ◌∙◌, sym, arith, subst}
use Rattle.std.proofs.Common.{vec_capacity, replicate, slice_get, List}
use Rattle.std.specs.Prelude.{Option, IfSome, is_some, ◌&&◌, min, if◌then◌else◌, IsSome, slice_index_or}
use Rattle.std.specs.Vec.{with_item}
use Rattle.std.specs.Option.{option_map, option_and_then}
use Rattle.std.specs.FinMap.{insert, len-insert}
use Rattle.std.specs.FinMap as map
use Rattle.std.specs.Cmp.{nat_cmp_total}
use Rattle.sl_model.specs.Pages.{IsPage, bytes_at}
use Rattle.sl_model.proofs.PagesLaws.{insert-same, AreWhole, is_some-bytes_at-in_page, is_some-bytes_at-add}
use Rattle.page_frames.specs.declared.frame.Frame.{Frame}
use Rattle.page_frames.specs.declared.table.Table.{Table}
use Rattle.page_frames.specs.declared.frames.Frames.TheInside.{Inside}
use Rattle.page_frames.specs.MarkedPages.{MarkedPages, with_page}
use Rattle.page_frames.specs.Linked.{place_of, IsTable, IsGrown, Puts, frame_of, index_of, pages_of}
use Rattle.page_frames.specs.Fields.{AreFields, Marks, marked_pages_of}
use Rattle.page_frames.proofs.Tables.{get-pages_of, frame_at}
use Rattle.page_frames.proofs.Kept.{whole, has_frame}
use Rattle.page_frames.proofs.Changes.{IsTable-grown, frame_of-grown, pages_of-grown, IsWritten, Puts-written, IsTable-written, IsWritten-at}
use Rattle.page_frames.proofs.Changed.{IsPlacing-put, pages-put, place-put_same, place-put_other}
use Rattle.page_frames.proofs.Places.{IsPlacing-pop, IsPlacing-same}

some_bytes : (o : Option Frame) → is_some (option_map (λ f. f.bytes) o) ≡ is_some o
some_bytes None = refl
some_bytes (Some f) = refl

is_mapped : (a : Inside) (page : ℕ) → map.contains_key (pages_of a.table) page ≡ is_some (frame_of a.table page)
is_mapped a page = ap is_some (get-pages_of a.table page) ∙ some_bytes (frame_of a.table page)

-- a page that is mapped stays
pub with_page-mapped : (a : Inside) (m : MarkedPages) (page : ℕ) → marked_pages_of a ≡ m → is_some (frame_of a.table page) ≡ true → m ≡ with_page m page
with_page-mapped a m page view found = subst (λ v. v ≡ with_page v page) view (rw (is_mapped a page, found) refl)

-- ---- more room

pub AreFields-grown : (a b : Inside) → AreFields a → IsGrown a.table b.table
    → b.dirty.items ≡ a.dirty.items → vec_capacity a.dirty ≤ vec_capacity b.dirty → AreFields b
AreFields-grown a b are more dirty room = record {
  table = IsTable-grown a.table b.table more are.table;
  places = rw dirty (IsPlacing-same {after = place_of b.table} are.places
      (λ q. ap (option_and_then (λ f. f.place)) (frame_of-grown a.table b.table more are.table q)));
  room = omega (arith, are.room, room, more.used);
}

pub view-grown : (a b : Inside) → AreFields a → IsGrown a.table b.table → b.dirty.items ≡ a.dirty.items
    → marked_pages_of b ≡ marked_pages_of a
view-grown a b are more dirty =
    λ i. record { pages = pages_of-grown a.table b.table more are.table i; dirty = dirty i }

-- ---- a page of zeros was mapped

pub AreFields-mapped : (a b : Inside) (page : ℕ) (new : Frame) → AreFields a → IsTable b.table
    → Puts a.table page new b.table → None ≡ frame_of a.table page
    → new.place ≡ Some (length a.dirty.items) → b.dirty.items ≡ a.dirty.items ++ page ∷ []
    → b.table.used ≤ vec_capacity b.dirty → AreFields b
AreFields-mapped a b page new are table puts none place dirty room =
    let marks : Marks None new.place page a.dirty.items b.dirty.items =
    record { marked_before = tt; marked_now = (place, dirty) } in
    record {
      table = table;
      places = IsPlacing-put puts marks (rw (← none) refl) are.places;
      room = room;
    }

pub view-mapped : (a b : Inside) (m : MarkedPages) (page : ℕ) (new : Frame) → marked_pages_of a ≡ m
    → Puts a.table page new b.table → None ≡ frame_of a.table page → new.bytes ≡ replicate 4096 0
    → b.dirty.items ≡ a.dirty.items ++ page ∷ [] → marked_pages_of b ≡ with_page m page
view-mapped a b m page new view puts none zeros dirty =
    let pages : pages_of b.table ≡ insert (pages_of a.table) page (replicate 4096 0) =
    pages-put puts ∙ ap (insert (pages_of a.table) page) zeros in
    let now : marked_pages_of b ≡ record {
      pages = insert (pages_of a.table) page (replicate 4096 0);
      dirty = a.dirty.items ++ page ∷ [];
    } = λ i. record { pages = pages i; dirty = dirty i } in
    subst (λ v. marked_pages_of b ≡ with_page v page) view (rw (is_mapped a page, ← none) now)

-- ---- the last mark was taken back

pub record IsUnmarked (a b : Inside) (page slot : ℕ) (old new : Frame) : Type 0 where
  pub index : Some slot ≡ index_of a.table.frames.items a.table.used page
  pub written : IsWritten a.table slot old new b.table
  pub bytes : new.bytes ≡ old.bytes
  pub place : new.place ≡ None
  pub dirty : a.dirty.items ≡ b.dirty.items ++ page ∷ []
  pub room : vec_capacity a.dirty ≤ vec_capacity b.dirty

pub IsUnmarked-at : (a b : Inside) (page slot : ℕ) (old : Frame) → AreFields a
    → Some slot ≡ index_of a.table.frames.items a.table.used page
    → old ≡ slice_index_or a.table.frames.items slot old
    → b.table ≡ record a.table { frames = with_item a.table.frames slot (record old { place = None }) }
    → a.dirty.items ≡ b.dirty.items ++ page ∷ [] → vec_capacity a.dirty ≤ vec_capacity b.dirty
    → IsUnmarked a b page slot old (record old { place = None })
IsUnmarked-at a b page slot old are index at table dirty room = record {
  index = index;
  written = subst (IsWritten a.table slot old (record old { place = None })) (sym table)
      (IsWritten-at a.table page slot old (record old { place = None }) are.table index at refl refl);
  bytes = refl;
  place = refl;
  dirty = dirty;
  room = room;
}

frame_was : (a b : Inside) (page slot : ℕ) (old new : Frame) → IsUnmarked a b page slot old new
    → frame_of a.table page ≡ Some old
frame_was a b page slot old new is = rw (← is.index) is.written.at

puts : (a b : Inside) (page slot : ℕ) (old new : Frame) → IsUnmarked a b page slot old new
    → Puts a.table page new b.table
puts a b page slot old new is =
    Puts-written a.table b.table page slot old new is.written (sym is.index)

pub AreFields-unmarked : (a b : Inside) (page slot : ℕ) (old new : Frame) → AreFields a
    → IsUnmarked a b page slot old new → AreFields b
AreFields-unmarked a b page slot old new are is =
    let was : IsPage old.bytes =
    rw (frame_was a b page slot old new is) at (whole a.table page are.table) in
    let put = puts a b page slot old new is in
    record {
      table = IsTable-written a.table b.table slot old new is.written are.table (rw is.bytes was);
      places = IsPlacing-pop {after = place_of b.table} page (rw (← is.dirty) are.places)
          (place-put_same put ∙ is.place) (place-put_other put);
      room = omega (arith, are.room, is.room, is.written.used);
    }

pub view-unmarked : (a b : Inside) (m : MarkedPages) (page slot : ℕ) (old new : Frame)
    → marked_pages_of a ≡ m → IsUnmarked a b page slot old new
    → b.dirty.items ≡ take (length a.dirty.items - 1) a.dirty.items
    → marked_pages_of b ≡ record m { dirty = take (length m.dirty - 1) m.dirty }
view-unmarked a b m page slot old new view is dirty =
    let at : map.get (pages_of a.table) page ≡ Some old.bytes =
    get-pages_of a.table page
    ∙ ap (option_map (λ f. f.bytes)) (frame_was a b page slot old new is) in
    let pages : pages_of b.table ≡ pages_of a.table =
    pages-put (puts a b page slot old new is) ∙ ap (insert (pages_of a.table) page) is.bytes
    ∙ insert-same (pages_of a.table) page old.bytes at in
    subst (λ v. marked_pages_of b ≡ record v { dirty = take (length v.dirty - 1) v.dirty }) view
    (λ i. record { pages = pages i; dirty = dirty i })

-- ---- look-ups

some_index : (frames : List Frame) (n page : ℕ) (o : Option ℕ) → index_of frames n page ≡ o
    → is_some o ≡ is_some (option_and_then (λ i. slice_get frames i) o)
some_index frames n page None is = refl
some_index frames n page (Some i) is = sym (frame_at frames n page i is)

-- a page has an index where it has a frame
pub is_some-index : (t : Table) (page : ℕ)
    → is_some (index_of t.frames.items t.used page) ≡ is_some (frame_of t page)
is_some-index t page =
    some_index t.frames.items t.used page (index_of t.frames.items t.used page) refl

-- a frame that is not found
pub none_found : (o : Option Frame) → is_some o ≡ false → None ≡ o
none_found None e = refl
none_found (Some f) e = absurd cc

-- a page with no index has no frame
pub no_frame : (t : Table) (page : ℕ) → is_some (index_of t.frames.items t.used page) ≡ false
    → None ≡ frame_of t page
no_frame t page none = none_found (frame_of t page) (sym (is_some-index t page) ∙ none)

-- and one with an index has one
pub has_index : (t : Table) (page slot : ℕ) → Some slot ≡ index_of t.frames.items t.used page
    → is_some (frame_of t page) ≡ true
has_index t page slot is = sym (is_some-index t page) ∙ ap is_some (sym is)

-- a page that is mapped has an index
pub no_index : (a : Inside) (m : MarkedPages) (page : ℕ) → marked_pages_of a ≡ m
    → None ≡ index_of a.table.frames.items a.table.used page → IsSome (map.get m.pages page) → ⊥
no_index a m page view none some =
    has_frame a m page view (rw (← none) refl) some

bytes_whole : (o : Option Frame) → IfSome o (λ f. IsPage f.bytes) → IfSome (option_map (λ f. f.bytes) o) (λ page. length page ≡ 4096)
bytes_whole None is = tt
bytes_whole (Some f) is = is.whole

frames_whole : (a : Inside) → AreFields a → AreWhole (pages_of a.table)
frames_whole a are = λ number. rw (get-pages_of a.table number) (bytes_whole (frame_of a.table number) (whole a.table number are.table))

-- bytes are mapped where the page of the first is, and the bytes after this page are
pub is_some-step : (a : Inside) (m : MarkedPages) (address left count : ℕ) → AreFields a → marked_pages_of a ≡ m → 0 < left → count ≡ min (4096 - address % 4096) left
    → is_some (bytes_at m.pages address left) ≡ (is_some (frame_of a.table (address / 4096)) && is_some (bytes_at m.pages (address + count) (left - count)))
is_some-step a m address left count are view some here =
    let parts : left ≡ count + (left - count) = omega arith in
    let first : is_some (bytes_at (pages_of a.table) address count) ≡ is_some (frame_of a.table (address / 4096)) =
    is_some-bytes_at-in_page (pages_of a.table) address count (frames_whole a are) (omega arith) (omega arith) ∙ is_mapped a (address / 4096) in
    subst (λ v. is_some (bytes_at v.pages address left) ≡ (is_some (frame_of a.table (address / 4096)) && is_some (bytes_at v.pages (address + count) (left - count)))) view
    (ap (λ n. is_some (bytes_at (pages_of a.table) address n)) parts ∙ is_some-bytes_at-add (pages_of a.table) address count (left - count) ∙ rw first refl)

-- bytes of one page are mapped where it has a frame
pub is_some-here : (a : Inside) (m : MarkedPages) (address count : ℕ) → AreFields a → marked_pages_of a ≡ m → 0 < count → address % 4096 + count ≤ 4096
    → is_some (bytes_at m.pages address count) ≡ is_some (frame_of a.table (address / 4096))
is_some-here a m address count are view some within =
    subst (λ v. is_some (bytes_at v.pages address count) ≡ is_some (frame_of a.table (address / 4096))) view
    (is_some-bytes_at-in_page (pages_of a.table) address count (frames_whole a are) some within ∙ is_mapped a (address / 4096))

grown_len : (b : Bool) (n : ℕ) → cond b n (n + 1) ≤ n + 1
grown_len true n = omega arith
grown_len false n = omega arith

grown_if : (b : Bool) (m : MarkedPages) (page : ℕ) → map.len (if b then m else record { pages = insert m.pages page (replicate 4096 0); dirty = m.dirty ++ page ∷ [] }).pages ≤ map.len m.pages + 1
grown_if true m page = omega arith
grown_if false m page = rw (len-insert nat_cmp_total) (grown_len (map.contains_key m.pages page) (map.len m.pages))

-- a page is one more at most
pub len-with_page : (m n : MarkedPages) (page : ℕ) → n ≡ with_page m page → map.len n.pages ≤ map.len m.pages + 1
len-with_page m n page is = rw is (grown_if (map.contains_key m.pages page) m page)
