-- The listings of a recording, and the listed pages that they stand for.
use Rattle.std.proofs.Common.{◌≡◌, ℕ, zero, suc, ◌+◌, ◌*◌, ◌^◌, ◌<◌, ◌≤◌, List, [], ◌∷◌, ◌++◌, length, take, drop}
use Rattle.std.proofs.Common.{Bool, true, false, cond, Some, None, refl, ap, ◌∙◌, sym, subst, arith}
use Rattle.std.proofs.Common.{⊎_elim, slice_get, length-append, append-nil, append_assoc, get_or}
use Rattle.std.specs.Prelude.{Option, unwrap_or, is_some, not, ◌||◌, if◌then◌else◌, ◌==◌, slice_index_or}
use Rattle.std.proofs.lemmas.Grind.{common_steps}
use Rattle.std.specs.Option.{option_map, option_and_then}
use Rattle.std.proofs.lemmas.Bool.{cases_eq}
use Rattle.std.proofs.lemmas.Option.{slice_get_within, slice_get-get_or, slice_get_read, get_or_from_slice_get}
use Rattle.std.proofs.Math.Seq.{take-append_seam}
use Rattle.rec_format.specs.declared.recording.ListedPage.{ListedPage}
use Rattle.rec_format.specs.declared.recording.Recording.{Recording}
use Rattle.rec_format.specs.Rules.{IsRecordingValue, IsListedPage}
use Rattle.rec_format.specs.Recorded.{end_place, checkpoint_at, listed_to, last_listing, is_listed}
use Rattle.rec_format.proofs.Listed.{listed_to-suc, IsCheckpoint-at, last_listing-more, take_item, all_item, all_listed_to}
use Rattle.checkpoints.specs.declared.versions.Version.{Version}
use Rattle.checkpoints.specs.declared.versions.Versions.{Versions}
use Rattle.checkpoints.specs.Versions.{version_of, IsListing, AreListings, AreCounts, AreVersions}
use Rattle.checkpoints.proofs.Chains.{slice_get-left, slice_get-last}

-- ---- one for one

pub listings-added : (rec : Recording) (vs : List Version) (ls : List ListedPage) (v : Version) (l : ListedPage)
    → AreListings rec vs ls → IsListing rec v l → AreListings rec (vs ++ v ∷ []) (ls ++ l ∷ [])
listings-added rec [] [] v l are is = (is, tt)
listings-added rec (w ∷ vs) (m ∷ ls) v l are is = (are.0, listings-added rec vs ls v l are.1 is)
listings-added rec [] (m ∷ ls) v l are is = absurd are
listings-added rec (w ∷ vs) [] v l are is = absurd are

pub length-listings : (rec : Recording) (vs : List Version) (ls : List ListedPage) → AreListings rec vs ls
    → length vs ≡ length ls
length-listings rec [] [] are = refl
length-listings rec (v ∷ vs) (l ∷ ls) are = ap suc (length-listings rec vs ls are.1)
length-listings rec [] (l ∷ ls) are = absurd are
length-listings rec (v ∷ vs) [] are = absurd are

-- a listing and the listed page that it stands for
pub record StandsFor (rec : Recording) (ls : List ListedPage) (i : ℕ) (v : Version) : Type 0 where
  pub listed : ListedPage
  pub at : slice_get ls i ≡ Some listed
  pub is : IsListing rec v listed

pub listing_at : (rec : Recording) (vs : List Version) (ls : List ListedPage) (i : ℕ) (v : Version)
    → AreListings rec vs ls → slice_get vs i ≡ Some v → StandsFor rec ls i v
listing_at rec [] [] i v are at = absurd cc
listing_at rec (w ∷ vs) (l ∷ ls) zero v are at =
    let same : w ≡ v = cc in
    record { listed = l; at = refl; is = subst (λ (u : Version). IsListing rec u l) same are.0 }
listing_at rec (w ∷ vs) (l ∷ ls) (suc i) v are at =
    let rest = listing_at rec vs ls i v are.1 at in
    record { listed = rest.listed; at = rest.at; is = rest.is }
listing_at rec [] (l ∷ ls) i v are at = absurd are
listing_at rec (v ∷ vs) [] i w are at = absurd are

-- ---- the pages that are listed up to a checkpoint

pub few_listed : (rec : Recording) (k : ℕ) → IsRecordingValue rec → k ≤ end_place rec
    → length (listed_to rec k) ≤ 16384 * k
few_listed rec zero is within = omega arith
few_listed rec (suc k) is within =
    omega (
      arith,
      ap length (listed_to-suc rec k (omega (arith, within))),
      length-append (listed_to rec k) (checkpoint_at rec (suc k)).pages,
      few_listed rec k is (omega (arith, within)),
      (IsCheckpoint-at rec (suc k) is).number_of_pages,
    )

listed_rest : (rec : Recording) (k m : ℕ) → k ≤ m → m ≤ end_place rec
    → (rest : List ListedPage) × (listed_to rec m ≡ listed_to rec k ++ rest)
listed_rest rec k zero le within =
    let none : k ≡ zero = omega arith in
    ([], ap (listed_to rec) (sym none) ∙ sym (append-nil (listed_to rec k)))
listed_rest rec k (suc m) le within = ⊎_elim
    (λ (same : k ≡ suc m). ([], ap (listed_to rec) (sym same) ∙ sym (append-nil (listed_to rec k))))
    (λ (differ : k ≡ suc m → ⊥).
    let before = listed_rest rec k m (omega (arith, differ)) (omega (arith, within)) in
    let pages = (checkpoint_at rec (suc m)).pages in (
      before.0 ++ pages,
      listed_to-suc rec m (omega (arith, within)) ∙ ap (λ l. l ++ pages) before.1
          ∙ append_assoc (listed_to rec k) before.0 pages,
    ))
    (cases_eq k (suc m))

-- they are the first ones of those that are listed up to a later checkpoint
pub first_listed : (rec : Recording) (k m : ℕ) → k ≤ m → m ≤ end_place rec
    → take (length (listed_to rec k)) (listed_to rec m) ≡ listed_to rec k
first_listed rec k m le within =
    let rest = listed_rest rec k m le within in
    ap (take (length (listed_to rec k))) rest.1 ∙ take-append_seam (listed_to rec k) rest.0

pub length-listed_le : (rec : Recording) (k m : ℕ) → k ≤ m → m ≤ end_place rec
    → length (listed_to rec k) ≤ length (listed_to rec m)
length-listed_le rec k m le within =
    let rest = listed_rest rec k m le within in
    omega (arith, ap length rest.1, length-append (listed_to rec k) rest.0)

-- ---- the last listing of a page

-- the bytes of a listed page by its index
abbrev pub bytes_at : List ListedPage → Option ℕ → Option (List ℕ)
bytes_at listed at = option_map (λ l. l.bytes) (option_and_then (λ i. slice_get listed i) at)

item_is : (listed : List ListedPage) (n : ℕ) (l : ListedPage) → slice_get listed n ≡ Some l → l ≡ get_or listed n l
item_is listed n l at =
    let same = sym at ∙ slice_get-get_or listed n l (slice_get_within listed n l at) in
    cc

last_by : (bytes : List ℕ) (listed : List ListedPage) (items : List Version) (n page : ℕ) (l : ListedPage)
    → slice_get listed n ≡ Some l → (b : Bool)
    → last_listing bytes (take n listed) page ≡ unwrap_or (bytes_at listed (version_of items n page)) bytes
    → (if b then l.bytes else last_listing bytes (take n listed) page)
    ≡ unwrap_or (bytes_at listed (cond b (Some n) (version_of items n page))) bytes
last_by bytes listed items n page l at true before = rw at refl
last_by bytes listed items n page l at false before = before

slice_at : (xs : List Version) (i : ℕ) → i < length xs → (x : Version) × (slice_get xs i ≡ Some x)
slice_at [] i lt = absurd (omega arith)
slice_at (x ∷ xs) zero lt = (x, refl)
slice_at (x ∷ xs) (suc i) lt = slice_at xs i (omega arith)

pub last-version : (rec : Recording) (bytes : List ℕ) (items : List Version) (listed : List ListedPage) (n page : ℕ)
    → AreListings rec items listed → n ≤ length listed
    → last_listing bytes (take n listed) page ≡ unwrap_or (bytes_at listed (version_of items n page)) bytes
last-version rec bytes items listed zero page are within = refl
last-version rec bytes items listed (suc n) page are within =
    let long = length-listings rec items listed are in
    let v = slice_at items n (omega (arith, long, within)) in
    let stands = listing_at rec items listed n v.0 are v.1 in
    let l = stands.listed in
    let more = last_listing-more bytes listed n page l (omega (arith, within)) (item_is listed n l stands.at) in
    let one : suc n ≡ n + 1 = omega arith in
    ap (λ m. last_listing bytes (take m listed) page) one ∙ more
    ∙ last_by bytes listed items n page l stands.at (l.number == page)
    (last-version rec bytes items listed n page are (omega (arith, within)))
    ∙ rw (v.1, stands.is.page) refl

-- ---- whether a page was listed before

listed_more : (xs : List ListedPage) (l : ListedPage) (page : ℕ)
    → is_listed (xs ++ l ∷ []) page ≡ (is_listed xs page || (l.number == page))
listed_more [] l page = grind (arith, common_steps)
listed_more (x ∷ xs) l page = rw (listed_more xs l page) (grind (arith, common_steps))

found_more : (b : Bool) (n : ℕ) (o : Option ℕ) → is_some (cond b (Some n) o) ≡ (is_some o || b)
found_more true n None = refl
found_more true n (Some m) = refl
found_more false n None = refl
found_more false n (Some m) = refl

pub listed-version : (rec : Recording) (items : List Version) (listed : List ListedPage) (n page : ℕ)
    → AreListings rec items listed → n ≤ length listed
    → is_listed (take n listed) page ≡ is_some (version_of items n page)
listed-version rec items listed zero page are within = refl
listed-version rec items listed (suc n) page are within =
    let long = length-listings rec items listed are in
    let v = slice_at items n (omega (arith, long, within)) in
    let stands = listing_at rec items listed n v.0 are v.1 in
    let l = stands.listed in
    let one : suc n ≡ n + 1 = omega arith in
    ap (λ m. is_listed (take m listed) page) one
    ∙ ap (λ ls. is_listed ls page) (take_item listed n l (omega (arith, within)) (item_is listed n l stands.at))
    ∙ listed_more (take n listed) l page
    ∙ ap (λ b. b || (l.number == page)) (listed-version rec items listed n page are (omega (arith, within)))
    ∙ sym (found_more (l.number == page) n (version_of items n page))
    ∙ rw (v.1, stands.is.page) refl

-- ---- the listings that checkpoints keep

-- what is read at an index
pub stands_for : (rec : Recording) (versions : Versions) (i : ℕ) (v : Version) → AreVersions rec versions
    → i < length versions.items.items → v ≡ slice_index_or versions.items.items i v
    → StandsFor rec (listed_to rec (end_place rec)) i v
stands_for rec versions i v are lt read =
    listing_at rec versions.items.items (listed_to rec (end_place rec)) i v are.listed
    (slice_get_read versions.items.items (length versions.items.items) i v refl lt read)

pub length-versions : (rec : Recording) (versions : Versions) → AreVersions rec versions
    → length versions.items.items ≡ length (listed_to rec (end_place rec))
length-versions rec versions are = length-listings rec versions.items.items (listed_to rec (end_place rec)) are.listed

pub counted : (rec : Recording) (versions : Versions) (k n : ℕ) → AreVersions rec versions → k ≤ end_place rec
    → n ≡ slice_index_or versions.counts.items k n → n ≡ length (listed_to rec k)
counted rec versions k n are within read =
    let at = slice_get_read versions.counts.items (length versions.counts.items) k n refl
    (omega (arith, are.counts.long, within)) read in
    let same = sym at ∙ are.counts.each k within in
    cc

pub same_item : {X : Type 0} (xs : List X) (i : ℕ) (x y : X) → slice_get xs i ≡ Some x → slice_get xs i ≡ Some y
    → x ≡ y
same_item xs i x y one other = let same = sym one ∙ other in cc

-- a listed page that is read
pub read_listed : (rec : Recording) (versions : Versions) (i : ℕ) (v : Version) (l : ListedPage) (pages : List ListedPage)
    → StandsFor rec (listed_to rec (end_place rec)) i v → pages ≡ (checkpoint_at rec v.at).pages
    → l ≡ slice_index_or pages v.place l → slice_get (listed_to rec (end_place rec)) i ≡ Some l
read_listed rec versions i v l pages stands is read =
    let found : slice_get pages v.place ≡ Some stands.listed = ap (λ p. slice_get p v.place) is ∙ stands.is.found in
    let lt = slice_get_within pages v.place stands.listed found in
    let at = slice_get_read pages (length pages) v.place l refl lt read in
    stands.at ∙ ap (λ x. Some x) (same_item pages v.place stands.listed l found at)

pub IsListedPage-at : (rec : Recording) (k i : ℕ) (l : ListedPage) → IsRecordingValue rec
    → slice_get (listed_to rec k) i ≡ Some l → IsListedPage l
IsListedPage-at rec k i l is at =
    subst IsListedPage (get_or_from_slice_get (listed_to rec k) i l l at)
    (all_item IsListedPage (listed_to rec k) i l (all_listed_to rec k is) (slice_get_within (listed_to rec k) i l at))

-- one that is listed up to a checkpoint, among all
pub item_among : (rec : Recording) (k m i : ℕ) → k ≤ m → m ≤ end_place rec → i < length (listed_to rec k)
    → slice_get (listed_to rec m) i ≡ slice_get (listed_to rec k) i
item_among rec k m i le within lt =
    let rest = listed_rest rec k m le within in
    ap (λ l. slice_get l i) rest.1 ∙ slice_get-left (listed_to rec k) rest.0 i lt

pub page_item : (listed : List ListedPage) (i : ℕ) → i < length listed
    → (l : ListedPage) × (slice_get listed i ≡ Some l)
page_item [] i lt = absurd (omega arith)
page_item (l ∷ ls) zero lt = (l, refl)
page_item (l ∷ ls) (suc i) lt = page_item ls i (omega arith)

-- the bytes of the last listing of a page up to a checkpoint
pub last-found : (rec : Recording) (versions : Versions) (k page : ℕ) (bytes : List ℕ) (found : Option ℕ)
    → AreVersions rec versions → k ≤ end_place rec
    → found ≡ version_of versions.items.items (length (listed_to rec k)) page
    → last_listing bytes (listed_to rec k) page ≡ unwrap_or (bytes_at (listed_to rec (end_place rec)) found) bytes
last-found rec versions k page bytes found are within is =
    let all = listed_to rec (end_place rec) in
    ap (λ l. last_listing bytes l page) (sym (first_listed rec k (end_place rec) within (omega arith)))
    ∙ last-version rec bytes versions.items.items all (length (listed_to rec k)) page are.listed
    (length-listed_le rec k (end_place rec) within (omega arith))
    ∙ ap (λ o. unwrap_or (bytes_at all o) bytes) (sym is)

pub drop_all : (listed : List ListedPage) → drop (length listed) listed ≡ []
drop_all [] = refl
drop_all (l ∷ ls) = drop_all ls

-- a page that was listed before
pub listed_before : (rec : Recording) (versions : Versions) (i : ℕ) (v : Version) → AreVersions rec versions
    → i < length versions.items.items → v ≡ slice_index_or versions.items.items i v → false ≡ v.is_first
    → is_listed (take i (listed_to rec (end_place rec))) v.page ≡ true
listed_before rec versions i v are lt read again =
    let items = versions.items.items in
    let at = slice_get_read items (length items) i v refl lt read in
    let found : is_some (version_of items i v.page) ≡ true =
    turned_back (is_some (version_of items i v.page)) (again ∙ (are.chain.linked i v at).first) in
    listed-version rec items (listed_to rec (end_place rec)) i v.page are.listed
    (omega (arith, lt, length-versions rec versions are)) ∙ found
  where
    turned_back : (b : Bool) → false ≡ not b → b ≡ true
    turned_back true e = refl
    turned_back false e = absurd cc

-- a listing that was added
pub added_is : (rec : Recording) (item : ListedPage) (listed : List ListedPage) (at place : ℕ) (v : Version) → 0 < at
    → listed ≡ (checkpoint_at rec at).pages → v.page ≡ item.number → v.at ≡ at → v.place ≡ place
    → place < length listed → item ≡ get_or listed place item → IsListing rec v item
added_is rec item listed at place v some is page at_is place_is lt read = record {
  some = rw at_is some;
  found = rw (at_is, place_is, ← is) (slice_get-get_or listed place item lt ∙ ap (λ x. Some x) (sym read));
  page = sym page;
}

-- ---- one more checkpoint

pub counts-none : (rec : Recording) (counts : List ℕ) (n : ℕ) → counts ≡ n ∷ [] → n ≡ 0 → AreCounts rec 0 counts
counts-none rec counts n is none = record {
  long = rw is refl;
  each = λ j le.
      let zero_is : j ≡ 0 = omega (arith, le) in
      rw (is, none, zero_is) refl;
}

pub counts-added : (rec : Recording) (k : ℕ) (counts after : List ℕ) (n : ℕ) → AreCounts rec k counts
    → after ≡ counts ++ n ∷ [] → n ≡ length (listed_to rec (k + 1)) → AreCounts rec (k + 1) after
counts-added rec k counts after n are is count = record {
  long = rw is (length-append counts (n ∷ []) ∙ omega (arith, are.long));
  each = λ j le. rw is (⊎_elim
      (λ (here : j ≡ k + 1). ap (slice_get (counts ++ n ∷ [])) (here ∙ sym are.long) ∙ slice_get-last counts n
      ∙ ap (λ m. Some m) count ∙ ap (λ m. Some (length (listed_to rec m))) (sym here))
      (λ (differ : j ≡ k + 1 → ⊥).
      slice_get-left counts (n ∷ []) j (omega (arith, are.long, le, differ))
      ∙ are.each j (omega (arith, le, differ)))
      (cases_eq j (k + 1)));
}

-- there is room for the listings of the next checkpoint
pub list_fits : (rec : Recording) (k : ℕ) → IsRecordingValue rec → k < end_place rec
    → length (listed_to rec k) + length (checkpoint_at rec (k + 1)).pages ≤ 2 ^ 27
list_fits rec k is lt =
    omega (
      arith,
      few_listed rec k is (omega (arith, lt)),
      (IsCheckpoint-at rec (k + 1) is).number_of_pages,
      is.number_of_checkpoints,
      lt,
    )

pub found_bytes : (listed : List ListedPage) (i : ℕ) (l : ListedPage) (found : Option ℕ) (bytes : List ℕ)
    → found ≡ Some i → slice_get listed i ≡ Some l → unwrap_or (bytes_at listed found) bytes ≡ l.bytes
found_bytes listed i l found bytes is at = rw is (rw at refl)

pub found_none : (listed : List ListedPage) (found : Option ℕ) (bytes : List ℕ) → found ≡ None
    → unwrap_or (bytes_at listed found) bytes ≡ bytes
found_none listed found bytes is = rw is refl
