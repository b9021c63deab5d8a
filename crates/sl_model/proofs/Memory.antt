-- What loads give, and what stores do to memory.
use Rattle.std.specs.Prelude.{Option, IfSome, IsSome, is_some, unwrap_or, Bool, ◌&&◌, slice_get, slice_set}
use Rattle.std.specs.List.{All}
use Rattle.std.specs.Option.{option_and_then, option_map}
use Rattle.std.specs.FinMap.{get, insert, gets}
use Rattle.std.proofs.Common.{◌≡◌, ℕ, zero, suc, ◌+◌, ◌*◌, ◌/◌, ◌%◌, ◌^◌, ◌<◌, ◌≤◌, inl, inr, ⊎_elim, List, [], ◌∷◌, length, Some, None, true, false, refl, ap, ◌∙◌, sym, subst, arith, ne_eqb, get_or, add-zero}
use Rattle.std.proofs.Math.ListN.{length-set}
use Rattle.std.proofs.Math.Nat.{pow-succ', div-add-mod, mod-lt}
use Rattle.std.proofs.lemmas.Nat.{mod-mul-add}
use Rattle.std.proofs.lemmas.Bool.{cases_eq, cases_lt}
use Rattle.std.proofs.lemmas.Grind.{common_steps}
use Rattle.std.proofs.lemmas.List.{get_or-set_same, get_or-set_other}
use Rattle.std.proofs.lemmas.List.Elements.{All-get_or, All-set, All-head, All-tail}
use Rattle.std.proofs.lemmas.Option.{slice_get-get_or, slice_get_past, slice_get_within}
use Rattle.sl_model.specs.Pages.{Pages, IsPage, ArePages, byte_at, bytes_at, set_byte, set_bytes, from_bytes, low_bytes, load_at, store_at}
use Rattle.sl_model.specs.Stores.{IsElsewhere, IsStored}
use Rattle.sl_model.proofs.PagesLaws.{AreWhole, load_at-suc, is_some-byte_at, is_some-bytes_at, is_some-set_bytes, get-set_byte_other, length-low_bytes, All-low_bytes}
use Rattle.sl_model.proofs.WholePages.{AreWhole-set_bytes}

-- ---- what is loaded

byte_small : (page : Option (List ℕ)) (number offset : ℕ) → IfSome page (λ p. (number < 2 ^ 20) × IsPage p)
    → IfSome (option_and_then (λ p. slice_get p offset) page) (λ b. b < 256)
byte_small None number offset is = tt
byte_small (Some page) number offset is = within (slice_get page offset) refl
  where
    within : (o : Option ℕ) → slice_get page offset ≡ o → IfSome o (λ b. b < 256)
    within None found = tt
    within (Some b) found =
        let inside : offset < length page = slice_get_within page offset b found in
        let small = All-get_or (λ x. x < 256) page offset 0 inside is.1.bytes in
        let same : Some b ≡ Some (get_or page offset 0) = sym found ∙ slice_get-get_or page offset 0 inside in
        let e : b ≡ get_or page offset 0 = cc in
        rw e small

pub byte_at-small : (pages : Pages) (address : ℕ) → ArePages pages → IfSome (byte_at pages address) (λ b. b < 256)
unfolding byte_at
byte_at-small pages address are = byte_small (get pages (address / 4096)) (address / 4096) (address % 4096) (are (address / 4096))

number_small : (b n : Option ℕ) (count : ℕ) → IfSome b (λ x. x < 256) → IfSome n (λ x. x < 256 ^ count)
    → IfSome (option_and_then (λ x. option_map (λ y. x + 256 * y) n) b) (λ x. x < 256 ^ suc count)
number_small None n count first rest = tt
number_small (Some b) None count first rest = tt
number_small (Some b) (Some n) count first rest = omega (arith, pow-succ' 256 count)

-- a number in some bytes is below the power of 256 that their count is
pub load_at-small : (pages : Pages) (address width : ℕ) → ArePages pages → IfSome (load_at pages address width) (λ n. n < 256 ^ width)
unfolding load_at bytes_at
load_at-small pages address zero are = omega arith
load_at-small pages address (suc width) are =
    rw (load_at-suc pages address width) (number_small (byte_at pages address) (load_at pages (address + 1) width) width (byte_at-small pages address are) (load_at-small pages (address + 1) width are))

-- ---- pages stay pages

pub ArePages-insert : (pages : Pages) (number : ℕ) (page : List ℕ) → ArePages pages → number < 2 ^ 20 → IsPage page → ArePages (insert pages number page)
ArePages-insert pages number page are below is q = ⊎_elim
    (λ (same : q ≡ number).
    let here : get (insert pages number page) q ≡ Some page = grind (arith, gets, common_steps, same) in
    rw here (rw same below, is))
    (λ (apart : q ≡ number → ⊥).
    let other : get (insert pages number page) q ≡ get pages q = grind (arith, gets, common_steps, apart) in
    rw other (are q))
    (cases_eq q number)

IsPage-set : (page : List ℕ) (index b : ℕ) → IsPage page → b < 256 → IsPage (slice_set page index b)
IsPage-set page index b is small = record { whole = length-set page index b ∙ is.whole; bytes = All-set (λ x. x < 256) page index b small is.bytes }

ArePages-replaced : (pages : Pages) (number offset b : ℕ) (page : Option (List ℕ)) → ArePages pages → b < 256 → IfSome page (λ p. (number < 2 ^ 20) × IsPage p)
    → ArePages (unwrap_or (option_map (λ p. insert pages number (slice_set p offset b)) page) pages)
ArePages-replaced pages number offset b None are small is = are
ArePages-replaced pages number offset b (Some page) are small is = ArePages-insert pages number (slice_set page offset b) are is.0 (IsPage-set page offset b is.1 small)

ArePages-set_byte : (pages : Pages) (address b : ℕ) → ArePages pages → b < 256 → ArePages (set_byte pages address b)
unfolding set_byte
ArePages-set_byte pages address b are small = ArePages-replaced pages (address / 4096) (address % 4096) b (get pages (address / 4096)) are small (are (address / 4096))

pub ArePages-set_bytes : (pages : Pages) (address : ℕ) (bytes : List ℕ) → ArePages pages → All (λ b. b < 256) bytes → ArePages (set_bytes pages address bytes)
unfolding set_bytes
ArePages-set_bytes pages address [] are small = are
ArePages-set_bytes pages address (b ∷ bs) are small =
    ArePages-set_bytes (set_byte pages address b) (address + 1) bs (ArePages-set_byte pages address b are (All-head (λ b. b < 256) b bs small)) (All-tail (λ b. b < 256) b bs small)

pub AreWhole-pages : (pages : Pages) → ArePages pages → AreWhole pages
AreWhole-pages pages are number = of (get pages number) (are number)
  where
    of : (page : Option (List ℕ)) → IfSome page (λ p. (number < 2 ^ 20) × IsPage p) → IfSome page (λ p. length p ≡ 4096)
    of None is = tt
    of (Some page) is = is.1.whole

-- ---- which bytes are mapped

both : (a b : Bool) → a ≡ true → b ≡ true → (a && b) ≡ true
both a b first second = rw (first, second) refl

-- bytes are mapped where the page of each of them is
pub bytes_at-from_pages : (pages : Pages) (address count : ℕ) → AreWhole pages → ((k : ℕ) → k < count → IsSome (get pages ((address + k) / 4096))) → IsSome (bytes_at pages address count)
unfolding bytes_at
bytes_at-from_pages pages address zero whole each = refl
bytes_at-from_pages pages address (suc count) whole each =
    let first : is_some (byte_at pages address) ≡ true = is_some-byte_at pages address whole ∙ ap (λ a. is_some (get pages (a / 4096))) (sym (add-zero address)) ∙ each 0 (omega arith) in
    let rest : is_some (bytes_at pages (address + 1) count) ≡ true = bytes_at-from_pages pages (address + 1) count whole (λ k below.
    let next : address + 1 + k ≡ address + (k + 1) = omega arith in
    ap (λ a. is_some (get pages (a / 4096))) next ∙ each (k + 1) (omega arith)) in
    is_some-bytes_at pages address count ∙ both (is_some (byte_at pages address)) (is_some (bytes_at pages (address + 1) count)) first rest

-- ---- what is stored

get_of : (page : List ℕ) (i : ℕ) → IsSome (slice_get page i) → i < length page
get_of page i some = of (slice_get page i) refl some
  where
    of : (o : Option ℕ) → slice_get page i ≡ o → IsSome o → i < length page
    of None found some = absurd cc
    of (Some b) found some = slice_get_within page i b found

slice_get-set_same : (page : List ℕ) (i b : ℕ) → IsSome (slice_get page i) → slice_get (slice_set page i b) i ≡ Some b
slice_get-set_same page i b some =
    let inside : i < length page = get_of page i some in
    slice_get-get_or (slice_set page i b) i 0 (omega (arith, length-set page i b)) ∙ ap Some (get_or-set_same page i b 0 inside)

slice_get-set_other : (page : List ℕ) (i j b : ℕ) → (j ≡ i → ⊥) → slice_get (slice_set page i b) j ≡ slice_get page j
slice_get-set_other page i j b apart = ⊎_elim
    (λ (inside : j < length page).
    slice_get-get_or (slice_set page i b) j 0 (omega (arith, length-set page i b)) ∙ ap Some (get_or-set_other page i j b 0 apart) ∙ sym (slice_get-get_or page j 0 inside))
    (λ (past : length page ≤ j). slice_get_past (slice_set page i b) j (omega (arith, length-set page i b)) ∙ sym (slice_get_past page j past))
    (cases_lt j (length page))

abbrev replaced : Pages → ℕ → ℕ → ℕ → Option (List ℕ) → Pages
replaced pages number offset b page = unwrap_or (option_map (λ p. insert pages number (slice_set p offset b)) page) pages

abbrev byte_of : Option (List ℕ) → ℕ → Option ℕ
byte_of page offset = option_and_then (λ p. slice_get p offset) page

get-replaced : (pages : Pages) (number offset b : ℕ) (page : Option (List ℕ)) → get pages number ≡ page
    → get (replaced pages number offset b page) number ≡ option_map (λ p. slice_set p offset b) page
get-replaced pages number offset b None found = found
get-replaced pages number offset b (Some page) found = grind (arith, gets, common_steps)

set_same : (page : Option (List ℕ)) (offset b : ℕ) → IsSome (byte_of page offset) → byte_of (option_map (λ p. slice_set p offset b) page) offset ≡ Some b
set_same None offset b some = absurd cc
set_same (Some page) offset b some = slice_get-set_same page offset b some

set_other : (page : Option (List ℕ)) (offset other b : ℕ) → (other ≡ offset → ⊥) → byte_of (option_map (λ p. slice_set p offset b) page) other ≡ byte_of page other
set_other None offset other b apart = refl
set_other (Some page) offset other b apart = slice_get-set_other page offset other b apart

-- a byte that is written stands
pub byte_at-set_byte : (pages : Pages) (address b : ℕ) → IsSome (byte_at pages address) → byte_at (set_byte pages address b) address ≡ Some b
unfolding byte_at set_byte
byte_at-set_byte pages address b some =
    ap (λ page. byte_of page (address % 4096)) (get-replaced pages (address / 4096) (address % 4096) b (get pages (address / 4096)) refl)
    ∙ set_same (get pages (address / 4096)) (address % 4096) b some

-- and every other byte stays
pub byte_at-set_byte_other : (pages : Pages) (address other b : ℕ) → (other ≡ address → ⊥) → byte_at (set_byte pages address b) other ≡ byte_at pages other
unfolding byte_at set_byte
byte_at-set_byte_other pages address other b apart = ⊎_elim
    (λ (same : address / 4096 ≡ other / 4096). in_page same)
    (λ (differ : address / 4096 ≡ other / 4096 → ⊥). ap (λ page. byte_of page (other % 4096)) (get-set_byte_other pages address b (other / 4096) (ne_eqb (address / 4096) (other / 4096) differ)))
    (cases_eq (address / 4096) (other / 4096))
  where
    in_page : address / 4096 ≡ other / 4096 → byte_of (get (set_byte pages address b) (other / 4096)) (other % 4096) ≡ byte_of (get pages (other / 4096)) (other % 4096)
    in_page same =
        let offsets : other % 4096 ≡ address % 4096 → ⊥ = λ e. apart (omega arith) in
        rw (← same) (ap (λ page. byte_of page (other % 4096)) (get-replaced pages (address / 4096) (address % 4096) b (get pages (address / 4096)) refl)
        ∙ set_other (get pages (address / 4096)) (address % 4096) (other % 4096) b offsets)

pub byte_at-set_bytes_other : (pages : Pages) (address : ℕ) (bytes : List ℕ) (other : ℕ) → IsElsewhere address (length bytes) other
    → byte_at (set_bytes pages address bytes) other ≡ byte_at pages other
unfolding set_bytes
byte_at-set_bytes_other pages address [] other outside = refl
byte_at-set_bytes_other pages address (b ∷ bs) other outside =
    let apart : other ≡ address → ⊥ = λ same. ⊎_elim (λ (before : other < address). omega arith) (λ (behind : address + suc (length bs) ≤ other). omega arith) outside in
    let rest : IsElsewhere (address + 1) (length bs) other = ⊎_elim (λ (before : other < address). inl (omega arith)) (λ (behind : address + suc (length bs) ≤ other). inr (omega arith)) outside in
    byte_at-set_bytes_other (set_byte pages address b) (address + 1) bs other rest ∙ byte_at-set_byte_other pages address other b apart

bytes_at-set_byte_before : (pages : Pages) (address b start count : ℕ) → address < start → bytes_at (set_byte pages address b) start count ≡ bytes_at pages start count
unfolding bytes_at
bytes_at-set_byte_before pages address b start zero before = refl
bytes_at-set_byte_before pages address b start (suc count) before =
    rw (byte_at-set_byte_other pages address start b (λ same. omega arith), bytes_at-set_byte_before pages address b (start + 1) count (omega arith)) refl

and_first : (a b : Bool) → (a && b) ≡ true → a ≡ true
and_first true b h = refl
and_first false b h = h

and_second : (a b : Bool) → (a && b) ≡ true → b ≡ true
and_second true b h = h
and_second false b h = absurd cc

-- bytes that are written stand, where all of them are mapped
pub bytes_at-set_bytes : (pages : Pages) (address : ℕ) (bytes : List ℕ) → IsSome (bytes_at pages address (length bytes)) → bytes_at (set_bytes pages address bytes) address (length bytes) ≡ Some bytes
unfolding bytes_at set_bytes
bytes_at-set_bytes pages address [] mapped = refl
bytes_at-set_bytes pages address (b ∷ bs) mapped =
    let both = sym (is_some-bytes_at pages address (length bs)) ∙ mapped in
    let next : Pages = set_byte pages address b in
    let first : byte_at (set_bytes next (address + 1) bs) address ≡ Some b =
    byte_at-set_bytes_other next (address + 1) bs address (inl (omega arith)) ∙ byte_at-set_byte pages address b (and_first _ _ both) in
    let rest : bytes_at (set_bytes next (address + 1) bs) (address + 1) (length bs) ≡ Some bs =
    bytes_at-set_bytes next (address + 1) bs (ap is_some (bytes_at-set_byte_before pages address b (address + 1) (length bs) (omega arith)) ∙ and_second _ _ both) in
    rw (first, rest) refl

low_digit : (n k : ℕ) → 0 < k → n % 256 + 256 * (n / 256 % k) ≡ n % (256 * k)
low_digit n k some =
    let q : ℕ = n / 256 / k in
    let r : ℕ = n / 256 % k in
    let split : k * q + r ≡ n / 256 = div-add-mod (n / 256) k in
    let moved : q * (256 * k) ≡ 256 * (k * q) = grind arith in
    let whole : q * (256 * k) + (n % 256 + 256 * r) ≡ n = omega arith in
    let small : r < k = mod-lt (n / 256) some in
    sym (mod-mul-add q (256 * k) (n % 256 + 256 * r) (omega arith)) ∙ ap (λ m. m % (256 * k)) whole

power_above_zero : (count : ℕ) → 0 < 256 ^ count
power_above_zero zero = omega arith
power_above_zero (suc count) = omega (arith, pow-succ' 256 count, power_above_zero count)

-- the low bytes of a number are that number modulo the power of 256
pub from_bytes-low_bytes : (count n : ℕ) → from_bytes (low_bytes count n) ≡ n % 256 ^ count
from_bytes-low_bytes zero n = omega arith
from_bytes-low_bytes (suc count) n = rw (from_bytes-low_bytes count (n / 256), pow-succ' 256 count) (low_digit n (256 ^ count) (power_above_zero count))

-- ---- what a store does

both_some : (o : Option (List ℕ)) (pages : Pages) → is_some (option_map (λ _. pages) o) ≡ is_some (option_map from_bytes o)
both_some None pages = refl
both_some (Some bytes) pages = refl

-- a store is done exactly where a load of the same bytes is
pub is_some-store_at : (pages : Pages) (address width value : ℕ) → is_some (store_at pages address width value) ≡ is_some (load_at pages address width)
unfolding store_at load_at
is_some-store_at pages address width value = both_some (bytes_at pages address width) (set_bytes pages address (low_bytes width value))

record Stored (pages : Pages) (address width value : ℕ) (after : Pages) : Type 0 where
  mapped : IsSome (bytes_at pages address width)
  set : set_bytes pages address (low_bytes width value) ≡ after

stored_by : (o : Option (List ℕ)) (pages after : Pages) → option_map (λ _. pages) o ≡ Some after → IsSome o × (pages ≡ after)
stored_by None pages after done = absurd cc
stored_by (Some bytes) pages after done = (refl, cc)

stored : (pages : Pages) (address width value : ℕ) (after : Pages) → store_at pages address width value ≡ Some after → Stored pages address width value after
unfolding store_at
stored pages address width value after done =
    let both = stored_by (bytes_at pages address width) (set_bytes pages address (low_bytes width value)) after done in
    record { mapped = both.0; set = both.1 }

-- a load of what was stored gives it, modulo the numbers that so many bytes hold
pub load_at-stored : (pages : Pages) (address width value : ℕ) (after : Pages) → store_at pages address width value ≡ Some after → load_at after address width ≡ Some (value % 256 ^ width)
unfolding load_at
load_at-stored pages address width value after done =
    let is = stored pages address width value after done in
    let bytes : List ℕ = low_bytes width value in
    let whole : length bytes ≡ width = length-low_bytes width value in
    let found : bytes_at (set_bytes pages address bytes) address (length bytes) ≡ Some bytes = bytes_at-set_bytes pages address bytes (rw whole is.mapped) in
    ap (λ p. option_map from_bytes (bytes_at p address width)) (sym is.set)
    ∙ ap (λ n. option_map from_bytes (bytes_at (set_bytes pages address bytes) address n)) (sym whole)
    ∙ ap (option_map from_bytes) found ∙ ap Some (from_bytes-low_bytes width value)

-- every byte elsewhere stays
pub byte_at-stored : (pages : Pages) (address width value : ℕ) (after : Pages) → store_at pages address width value ≡ Some after
    → (other : ℕ) → IsElsewhere address width other → byte_at after other ≡ byte_at pages other
byte_at-stored pages address width value after done other outside =
    let is = stored pages address width value after done in
    let bytes : List ℕ = low_bytes width value in
    ap (λ p. byte_at p other) (sym is.set) ∙ byte_at-set_bytes_other pages address bytes other (rw (length-low_bytes width value) outside)

-- and no page is mapped or unmapped
pub is_some-stored : (pages : Pages) (address width value : ℕ) (after : Pages) → store_at pages address width value ≡ Some after
    → (page : ℕ) → is_some (get after page) ≡ is_some (get pages page)
is_some-stored pages address width value after done page =
    let is = stored pages address width value after done in
    ap (λ p. is_some (get p page)) (sym is.set) ∙ is_some-set_bytes pages address (low_bytes width value) page

pub ArePages-stored : (pages : Pages) (address width value : ℕ) (after : Pages) → store_at pages address width value ≡ Some after → ArePages pages → ArePages after
ArePages-stored pages address width value after done are =
    let is = stored pages address width value after done in
    subst ArePages is.set (ArePages-set_bytes pages address (low_bytes width value) are (All-low_bytes width value))

-- whole pages stay whole
pub AreWhole-stored : (pages : Pages) (address width value : ℕ) (after : Pages) → store_at pages address width value ≡ Some after → AreWhole pages → AreWhole after
AreWhole-stored pages address width value after done whole =
    let is = stored pages address width value after done in
    subst AreWhole is.set (AreWhole-set_bytes pages address (low_bytes width value) whole)

pub IsStored-stored : (pages : Pages) (address width value : ℕ) (after : Pages) → store_at pages address width value ≡ Some after → IsStored address width value pages after
IsStored-stored pages address width value after done = record {
  loaded = load_at-stored pages address width value after done;
  elsewhere = byte_at-stored pages address width value after done;
  mapped = is_some-stored pages address width value after done;
}
