-- What holds where a page was mapped, or its marking taken back.
use Rattle.std.proofs.Common.{◌≡◌, ℕ, ◌+◌, ◌-◌, ◌/◌, ◌%◌, ◌<◌, ◌≤◌, [], ◌∷◌, ◌++◌, length, take, Some, None, Bool, true, false, cond, refl, ap, ◌∙◌, sym, arith, subst, vec_capacity, replicate}
use Rattle.std.specs.Prelude.{Option, IfSome, is_some, ◌&&◌, min, if◌then◌else◌}
use Rattle.std.specs.Option.{option_map}
use Rattle.std.specs.Ordering.{nat_cmp}
use Rattle.std.specs.BTreeMap.{get, btree_map_len, WritesThrough, Updates}
use Rattle.std.specs.FinMap.{insert, len-insert}
use Rattle.std.specs.FinMap as map
use Rattle.std.specs.Cmp.{nat_cmp_total}
use Rattle.std.proofs.lemmas.List.{length-replicate}
use Rattle.std.proofs.lemmas.List.Elements.{All-replicate}
use Rattle.sl_model.specs.Pages.{IsPage, bytes_at}
use Rattle.sl_model.proofs.PagesLaws.{insert-same, AreWhole, is_some-bytes_at-in_page, is_some-bytes_at-add}
use Rattle.sl_model.specs.declared.layout.TheConstants.{PROGRAM_PAGES, MOST_PAGES}
use Rattle.tree_frames.specs.declared.frame.Frame.{Frame}
use Rattle.tree_frames.specs.declared.frames.TreeFrames.TheInside.{Inside}
use Rattle.page_frames.specs.MarkedPages.{MarkedPages, with_page}
use Rattle.tree_frames.specs.Fields.{AreFields, Marks, place_of, pages_of, marked_pages_of}
use Rattle.tree_frames.proofs.Views.{get-pages_of}
use Rattle.tree_frames.proofs.Changed.{Puts-written, Puts-inserted, IsPlacing-put, AreFields-put, AreFields-changed, pages-put, place-put_same, place-put_other}
use Rattle.tree_frames.proofs.Places.{IsPlacing-pop}

some_bytes : (o : Option Frame) → is_some (option_map (λ f. f.bytes) o) ≡ is_some o
some_bytes None = refl
some_bytes (Some f) = refl

is_mapped : (a : Inside) (page : ℕ) → map.contains_key (pages_of a.frames.entries) page ≡ is_some (get nat_cmp a.frames page)
is_mapped a page = ap is_some (get-pages_of a.frames page) ∙ some_bytes (get nat_cmp a.frames page)

-- a page that is mapped stays
pub with_page-mapped : (a : Inside) (m : MarkedPages) (page : ℕ) → marked_pages_of a ≡ m → is_some (get nat_cmp a.frames page) ≡ true → m ≡ with_page m page
with_page-mapped a m page view found = subst (λ v. v ≡ with_page v page) view (rw (is_mapped a page, found) refl)

-- other memory for the same contents
pub AreFields-same : (a b : Inside) → AreFields a → b.frames.entries ≡ a.frames.entries → b.dirty.items ≡ a.dirty.items → vec_capacity a.dirty ≤ vec_capacity b.dirty → AreFields b
AreFields-same a b are entries dirty room = record {
  whole = λ page. rw entries (are.whole page);
  below = λ page. rw entries (are.below page);
  few = rw entries are.few;
  places = rw (entries, dirty) are.places;
  room = omega (arith, are.room, room, ap length entries);
}

-- a page of zeros was mapped
pub AreFields-mapped : (a b : Inside) (page : ℕ) (new : Frame) → AreFields a → Updates nat_cmp a.frames b.frames page (Some new) → None ≡ get nat_cmp a.frames page
    → new.bytes ≡ replicate 4096 0 → new.place ≡ Some (length a.dirty.items) → b.dirty.items ≡ a.dirty.items ++ page ∷ []
    → page < PROGRAM_PAGES → map.len (pages_of a.frames.entries) < MOST_PAGES → btree_map_len b.frames ≤ vec_capacity b.dirty → AreFields b
AreFields-mapped a b page new are updates none zeros place dirty here few room =
    let puts = Puts-inserted a.frames b.frames updates in
    let marks : Marks None new.place page a.dirty.items b.dirty.items = record { marked_before = tt; marked_now = (place, dirty) } in
    let is : IsPage new.bytes = record { whole = rw zeros (length-replicate {A = ℕ} 4096 0); bytes = rw zeros (All-replicate (λ b. b < 256) 4096 0 (omega arith)) } in
    AreFields-put a b page new are puts (IsPlacing-put puts marks (rw (← none) refl) are.places) is here
    (rw (pages-put puts, len-insert nat_cmp_total, is_mapped a page, ← none) (omega arith)) room

pub view-mapped : (a b : Inside) (m : MarkedPages) (page : ℕ) (new : Frame) → marked_pages_of a ≡ m → Updates nat_cmp a.frames b.frames page (Some new) → None ≡ get nat_cmp a.frames page
    → new.bytes ≡ replicate 4096 0 → b.dirty.items ≡ a.dirty.items ++ page ∷ [] → marked_pages_of b ≡ with_page m page
view-mapped a b m page new view updates none zeros dirty =
    let pages : pages_of b.frames.entries ≡ insert (pages_of a.frames.entries) page (replicate 4096 0) = pages-put (Puts-inserted a.frames b.frames updates) ∙ ap (insert (pages_of a.frames.entries) page) zeros in
    let now : marked_pages_of b ≡ record { pages = insert (pages_of a.frames.entries) page (replicate 4096 0); dirty = a.dirty.items ++ page ∷ [] } = λ i. record { pages = pages i; dirty = dirty i } in
    subst (λ v. marked_pages_of b ≡ with_page v page) view (rw (is_mapped a page, ← none) now)

-- the last mark was taken back
pub AreFields-unmarked : (a b : Inside) (page : ℕ) (old new : Frame) → AreFields a → Some old ≡ get nat_cmp a.frames page → WritesThrough nat_cmp (nat_cmp page) a.frames new b.frames
    → new.bytes ≡ old.bytes → new.place ≡ None → a.dirty.items ≡ b.dirty.items ++ page ∷ [] → vec_capacity a.dirty ≤ vec_capacity b.dirty → AreFields b
AreFields-unmarked a b page old new are found written bytes place dirty room =
    let puts = Puts-written a.frames b.frames found written in
    let was : IsPage old.bytes = rw (← found) at (are.whole page) in
    AreFields-changed a b page old new are found written
    (IsPlacing-pop {after = place_of b.frames} page (rw (← dirty) are.places) (place-put_same puts ∙ place) (place-put_other puts)) (rw bytes was) room

pub view-unmarked : (a b : Inside) (m : MarkedPages) (page : ℕ) (old new : Frame) → marked_pages_of a ≡ m → Some old ≡ get nat_cmp a.frames page
    → WritesThrough nat_cmp (nat_cmp page) a.frames new b.frames → new.bytes ≡ old.bytes → b.dirty.items ≡ take (length a.dirty.items - 1) a.dirty.items
    → marked_pages_of b ≡ record m { dirty = take (length m.dirty - 1) m.dirty }
view-unmarked a b m page old new view found written bytes dirty =
    let is : map.get (pages_of a.frames.entries) page ≡ Some old.bytes = get-pages_of a.frames page ∙ ap (option_map (λ f. f.bytes)) (sym found) in
    let pages : pages_of b.frames.entries ≡ pages_of a.frames.entries =
    pages-put (Puts-written a.frames b.frames found written) ∙ ap (insert (pages_of a.frames.entries) page) bytes ∙ insert-same (pages_of a.frames.entries) page old.bytes is in
    subst (λ v. marked_pages_of b ≡ record v { dirty = take (length v.dirty - 1) v.dirty }) view (λ i. record { pages = pages i; dirty = dirty i })

-- a frame that is not found
pub none_found : (o : Option Frame) → is_some o ≡ false → None ≡ o
none_found None e = refl
none_found (Some f) e = absurd cc

pub none_or_one : (b : Bool) → cond b 0 1 ≤ 1
none_or_one true = omega arith
none_or_one false = omega arith

bytes_whole : (o : Option Frame) → IfSome o (λ f. IsPage f.bytes) → IfSome (option_map (λ f. f.bytes) o) (λ page. length page ≡ 4096)
bytes_whole None is = tt
bytes_whole (Some f) is = is.whole

frames_whole : (a : Inside) → AreFields a → AreWhole (pages_of a.frames.entries)
frames_whole a are = λ number. rw (get-pages_of a.frames number) (bytes_whole (get nat_cmp a.frames number) (are.whole number))

-- bytes are mapped where the page of the first is, and the bytes after this page are
pub is_some-step : (a : Inside) (m : MarkedPages) (address left count : ℕ) → AreFields a → marked_pages_of a ≡ m → 0 < left → count ≡ min (4096 - address % 4096) left
    → is_some (bytes_at m.pages address left) ≡ (is_some (get nat_cmp a.frames (address / 4096)) && is_some (bytes_at m.pages (address + count) (left - count)))
is_some-step a m address left count are view some here =
    let parts : left ≡ count + (left - count) = omega arith in
    let first : is_some (bytes_at (pages_of a.frames.entries) address count) ≡ is_some (get nat_cmp a.frames (address / 4096)) =
    is_some-bytes_at-in_page (pages_of a.frames.entries) address count (frames_whole a are) (omega arith) (omega arith) ∙ is_mapped a (address / 4096) in
    subst (λ v. is_some (bytes_at v.pages address left) ≡ (is_some (get nat_cmp a.frames (address / 4096)) && is_some (bytes_at v.pages (address + count) (left - count)))) view
    (ap (λ n. is_some (bytes_at (pages_of a.frames.entries) address n)) parts ∙ is_some-bytes_at-add (pages_of a.frames.entries) address count (left - count) ∙ rw first refl)

-- bytes of one page are mapped where it has a frame
pub is_some-here : (a : Inside) (m : MarkedPages) (address count : ℕ) → AreFields a → marked_pages_of a ≡ m → 0 < count → address % 4096 + count ≤ 4096
    → is_some (bytes_at m.pages address count) ≡ is_some (get nat_cmp a.frames (address / 4096))
is_some-here a m address count are view some within =
    subst (λ v. is_some (bytes_at v.pages address count) ≡ is_some (get nat_cmp a.frames (address / 4096))) view
    (is_some-bytes_at-in_page (pages_of a.frames.entries) address count (frames_whole a are) some within ∙ is_mapped a (address / 4096))

grown_len : (b : Bool) (n : ℕ) → cond b n (n + 1) ≤ n + 1
grown_len true n = omega arith
grown_len false n = omega arith

grown_if : (b : Bool) (m : MarkedPages) (page : ℕ) → map.len (if b then m else record { pages = insert m.pages page (replicate 4096 0); dirty = m.dirty ++ page ∷ [] }).pages ≤ map.len m.pages + 1
grown_if true m page = omega arith
grown_if false m page = rw (len-insert nat_cmp_total) (grown_len (map.contains_key m.pages page) (map.len m.pages))

-- a page is one more at most
pub len-with_page : (m n : MarkedPages) (page : ℕ) → n ≡ with_page m page → map.len n.pages ≤ map.len m.pages + 1
len-with_page m n page is = rw is (grown_if (map.contains_key m.pages page) m page)
