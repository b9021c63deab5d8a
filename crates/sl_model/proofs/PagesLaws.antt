-- What follows from the definitions of pages.
use Rattle.std.proofs.Common.{◌≡◌, ℕ, zero, suc, ◌+◌, ◌*◌, ◌/◌, ◌%◌, ◌<◌, ◌≤◌, List, [], ◌∷◌, ◌++◌, length, Some, None, refl, ap, ◌∙◌, sym, arith, take, drop, drop-cons, add-one, add-zero, eqb, append_assoc, zero-add, true, false, slice_get, slice_set}
use Rattle.std.specs.Prelude.{Option, IfSome, IsSome, is_some, unwrap_or, Bool, ◌&&◌}
use Rattle.std.specs.Option.{option_and_then, option_map}
use Rattle.std.specs.Cmp.{nat_cmp_total}
use Rattle.std.specs.FinMap.{get, insert, gets, same_map, nat_cmp-IsAntisymmetric}
use Rattle.std.proofs.lemmas.Option.{slice_get-get_or}
use Rattle.std.proofs.lemmas.List.{take-append-drop, take_more_set, drop-set-lt}
use Rattle.std.specs.List.{All}
use Rattle.std.proofs.lemmas.List.Elements.{All-set, All-nil, All-cons, All-head, All-tail}
use Rattle.std.proofs.Math.ListN.{length-set}
use Rattle.std.proofs.Math.Bool.{and_assoc}
use Rattle.std.proofs.lemmas.Grind.{common_steps}
use Rattle.sl_model.specs.Pages.{Pages, IsPage, byte_at, bytes_at, set_byte, set_bytes, put_bytes, from_bytes, low_bytes, load_at}

-- ---- in one page

pub byte_at-in_page : (pages : Pages) (number offset : ℕ) (page : List ℕ) → get pages number ≡ Some page → offset < 4096 → byte_at pages (4096 * number + offset) ≡ slice_get page offset
unfolding byte_at
byte_at-in_page pages number offset page found within =
    let quotient : (4096 * number + offset) / 4096 ≡ number = omega arith in
    let rest : (4096 * number + offset) % 4096 ≡ offset = omega arith in
    rw (quotient, rest, found) refl

taken : (page : List ℕ) (offset count : ℕ) → offset < length page
    → option_and_then (λ b. option_map (λ bs. b ∷ bs) (Some (take count (drop (offset + 1) page)))) (slice_get page offset) ≡ Some (take (suc count) (drop offset page))
taken page offset count within = rw (slice_get-get_or page offset 0 within, add-one, drop-cons page offset 0) refl

pub bytes_at-in_page : (pages : Pages) (number offset count : ℕ) (page : List ℕ) → get pages number ≡ Some page → length page ≡ 4096 → offset + count ≤ 4096
    → bytes_at pages (4096 * number + offset) count ≡ Some (take count (drop offset page))
unfolding bytes_at
bytes_at-in_page pages number offset zero page found whole within = refl
bytes_at-in_page pages number offset (suc count) page found whole within =
    let next : 4096 * number + offset + 1 ≡ 4096 * number + (offset + 1) = omega arith in
    let inside : offset < 4096 = omega arith in
    let rest = bytes_at-in_page pages number (offset + 1) count page found whole (omega arith) in
    rw (byte_at-in_page pages number offset page found inside, next, rest) (taken page offset count (omega (arith, whole)))

set_byte-in_page : (pages : Pages) (number offset b : ℕ) (page : List ℕ) → get pages number ≡ Some page → offset < 4096
    → set_byte pages (4096 * number + offset) b ≡ insert pages number (slice_set page offset b)
unfolding set_byte
set_byte-in_page pages number offset b page found within =
    let quotient : (4096 * number + offset) / 4096 ≡ number = omega arith in
    let rest : (4096 * number + offset) % 4096 ≡ offset = omega arith in
    rw (quotient, rest, found) refl

-- the last page that was inserted stands
pub insert-insert : (pages : Pages) (number : ℕ) (first last : List ℕ) → insert (insert pages number first) number last ≡ insert pages number last
insert-insert pages number first last = same_map nat_cmp_total nat_cmp-IsAntisymmetric _ _ (λ q. grind (arith, gets, common_steps))

pub insert-same : (pages : Pages) (number : ℕ) (page : List ℕ) → get pages number ≡ Some page → insert pages number page ≡ pages
insert-same pages number page found = same_map nat_cmp_total nat_cmp-IsAntisymmetric _ _ (λ q. grind (arith, gets, common_steps, found))

pub length-put_bytes : (page : List ℕ) (index : ℕ) (bytes : List ℕ) → length (put_bytes page index bytes) ≡ length page
unfolding put_bytes
length-put_bytes page index [] = refl
length-put_bytes page index (b ∷ bs) = length-put_bytes (slice_set page index b) (index + 1) bs ∙ length-set page index b

pub All-put_bytes : (P : ℕ → Type 0) (page : List ℕ) (index : ℕ) (bytes : List ℕ) → All P page → All P bytes → All P (put_bytes page index bytes)
unfolding put_bytes
All-put_bytes P page index [] old new = old
All-put_bytes P page index (b ∷ bs) old new = All-put_bytes P (slice_set page index b) (index + 1) bs (All-set P page index b (All-head P b bs new) old) (All-tail P b bs new)

pub IsPage-put_bytes : (page : List ℕ) (index : ℕ) (bytes : List ℕ) → IsPage page → All (λ b. b < 256) bytes → IsPage (put_bytes page index bytes)
IsPage-put_bytes page index bytes is new = record { whole = length-put_bytes page index bytes ∙ is.whole; bytes = All-put_bytes (λ b. b < 256) page index bytes is.bytes new }

-- the bytes stand between those before and those after them
pub put_bytes-between : (page : List ℕ) (index : ℕ) (bytes : List ℕ) → index + length bytes ≤ length page → put_bytes page index bytes ≡ take index page ++ (bytes ++ drop (index + length bytes) page)
unfolding put_bytes
put_bytes-between page index [] within = rw add-zero (sym (take-append-drop index page))
put_bytes-between page index (b ∷ bs) within =
    let changed : List ℕ = slice_set page index b in
    let inside : index < length page = omega arith in
    let past : index < index + 1 + length bs = omega arith in
    let next : index + 1 + length bs ≡ index + suc (length bs) = omega arith in
    let rest = put_bytes-between changed (index + 1) bs (omega (arith, length-set page index b)) in
    rw (rest, take_more_set page index b inside, drop-set-lt (index + 1 + length bs) page index b past, next, append_assoc (take index page) (b ∷ []) (bs ++ drop (index + suc (length bs)) page)) refl

pub set_bytes-in_page : (pages : Pages) (number offset : ℕ) (bytes page : List ℕ) → get pages number ≡ Some page → offset + length bytes ≤ 4096
    → set_bytes pages (4096 * number + offset) bytes ≡ insert pages number (put_bytes page offset bytes)
unfolding set_bytes put_bytes
set_bytes-in_page pages number offset [] page found within = sym (insert-same pages number page found)
set_bytes-in_page pages number offset (b ∷ bs) page found within =
    let next : 4096 * number + offset + 1 ≡ 4096 * number + (offset + 1) = omega arith in
    let inside : offset < 4096 = omega arith in
    let stands : get (insert pages number (slice_set page offset b)) number ≡ Some (slice_set page offset b) = grind (arith, gets, common_steps) in
    rw (set_byte-in_page pages number offset b page found inside, next, set_bytes-in_page (insert pages number (slice_set page offset b)) number (offset + 1) bs (slice_set page offset b) stands (omega arith))
    (insert-insert pages number _ _)

-- ---- over several pages

pub set_bytes-append : (pages : Pages) (address : ℕ) (xs ys : List ℕ) → set_bytes pages address (xs ++ ys) ≡ set_bytes (set_bytes pages address xs) (address + length xs) ys
unfolding set_bytes
set_bytes-append pages address [] ys = rw add-zero refl
set_bytes-append pages address (x ∷ xs) ys =
    let next : address + 1 + length xs ≡ address + suc (length xs) = omega arith in
    set_bytes-append (set_byte pages address x) (address + 1) xs ys ∙ ap (λ a. set_bytes (set_bytes (set_byte pages address x) (address + 1) xs) a ys) next

-- each page has all its bytes
abbrev pub AreWhole : Pages → Type 0
AreWhole pages = (number : ℕ) → IfSome (get pages number) (λ page. length page ≡ 4096)

pub byte_at-none : (pages : Pages) (address : ℕ) → get pages (address / 4096) ≡ None → byte_at pages address ≡ None
unfolding byte_at
byte_at-none pages address none = rw none refl

within_page : (page : Option (List ℕ)) (offset : ℕ) → IfSome page (λ p. length p ≡ 4096) → offset < 4096 → is_some (option_and_then (λ p. slice_get p offset) page) ≡ is_some page
within_page None offset whole within = refl
within_page (Some page) offset whole within = rw (slice_get-get_or page offset 0 (omega (arith, whole))) refl

-- a byte is mapped where its page is
pub is_some-byte_at : (pages : Pages) (address : ℕ) → AreWhole pages → is_some (byte_at pages address) ≡ is_some (get pages (address / 4096))
unfolding byte_at
is_some-byte_at pages address whole = within_page (get pages (address / 4096)) (address % 4096) (whole (address / 4096)) (omega arith)

cons_byte : (b : Option ℕ) (bs : Option (List ℕ)) → is_some (option_and_then (λ x. option_map (λ xs. x ∷ xs) bs) b) ≡ (is_some b && is_some bs)
cons_byte None bs = refl
cons_byte (Some b) None = refl
cons_byte (Some b) (Some bs) = refl

-- bytes are mapped where the first one and the others are
pub is_some-bytes_at : (pages : Pages) (address count : ℕ) → is_some (bytes_at pages address (suc count)) ≡ (is_some (byte_at pages address) && is_some (bytes_at pages (address + 1) count))
unfolding bytes_at
is_some-bytes_at pages address count = cons_byte (byte_at pages address) (bytes_at pages (address + 1) count)

-- bytes are mapped where those of a first part and the others are
pub is_some-bytes_at-add : (pages : Pages) (address m n : ℕ) → is_some (bytes_at pages address (m + n)) ≡ (is_some (bytes_at pages address m) && is_some (bytes_at pages (address + m) n))
unfolding bytes_at
is_some-bytes_at-add pages address zero n = rw (zero-add, add-zero) refl
is_some-bytes_at-add pages address (suc m) n =
    let longer : suc m + n ≡ suc (m + n) = omega arith in
    let after : address + 1 + m ≡ address + suc m = omega arith in
    rw (longer, is_some-bytes_at pages address (m + n), is_some-bytes_at-add pages (address + 1) m n, is_some-bytes_at pages address m, after) (sym (and_assoc (is_some (byte_at pages address)) _ _))

get-replaced : (pages : Pages) (number q : ℕ) (change : List ℕ → List ℕ) (page : Option (List ℕ)) → eqb number q ≡ false
    → get (unwrap_or (option_map (λ p. insert pages number (change p)) page) pages) q ≡ get pages q
get-replaced pages number q change None differ = refl
get-replaced pages number q change (Some page) differ = grind (arith, gets, common_steps, differ)

-- to write a byte changes its own page alone
pub get-set_byte_other : (pages : Pages) (address b number : ℕ) → eqb (address / 4096) number ≡ false → get (set_byte pages address b) number ≡ get pages number
unfolding set_byte
get-set_byte_other pages address b number differ = get-replaced pages (address / 4096) number _ (get pages (address / 4096)) differ

is_some-replaced : (pages : Pages) (number q : ℕ) (change : List ℕ → List ℕ) (page : Option (List ℕ)) → get pages number ≡ page
    → is_some (get (unwrap_or (option_map (λ p. insert pages number (change p)) page) pages) q) ≡ is_some (get pages q)
is_some-replaced pages number q change None found = refl
is_some-replaced pages number q change (Some page) found = grind (arith, gets, common_steps, found)

mapped_in_page : (pages : Pages) (address count : ℕ) → 0 < count → address % 4096 + count ≤ 4096 → (page : Option (List ℕ)) → IfSome page (λ p. length p ≡ 4096) → get pages (address / 4096) ≡ page
    → is_some (bytes_at pages address count) ≡ is_some page
mapped_in_page pages address zero some within page whole found = absurd (omega arith)
mapped_in_page pages address (suc count) some within None whole found = is_some-bytes_at pages address count ∙ rw (byte_at-none pages address found) refl
mapped_in_page pages address (suc count) some within (Some page) whole found =
    let split : 4096 * (address / 4096) + address % 4096 ≡ address = omega arith in
    ap (λ a. is_some (bytes_at pages a (suc count))) (sym split) ∙ ap is_some (bytes_at-in_page pages (address / 4096) (address % 4096) (suc count) page found whole within)

with_page : (page : Option (List ℕ)) (offset : ℕ) → IsSome (option_and_then (λ p. slice_get p offset) page) → IsSome page
with_page None offset h = h
with_page (Some page) offset h = refl

byte_mapped : (pages : Pages) (address : ℕ) → IsSome (byte_at pages address) → IsSome (get pages (address / 4096))
unfolding byte_at
byte_mapped pages address h = with_page (get pages (address / 4096)) (address % 4096) h

and_first : (a b : Bool) → (a && b) ≡ true → a ≡ true
and_first true b h = refl
and_first false b h = h

and_second : (a b : Bool) → (a && b) ≡ true → b ≡ true
and_second true b h = h
and_second false b h = absurd cc

-- bytes of one page are mapped where the page is
pub is_some-bytes_at-in_page : (pages : Pages) (address count : ℕ) → AreWhole pages → 0 < count → address % 4096 + count ≤ 4096 → is_some (bytes_at pages address count) ≡ is_some (get pages (address / 4096))
is_some-bytes_at-in_page pages address count whole some within = mapped_in_page pages address count some within (get pages (address / 4096)) (whole (address / 4096)) refl

-- each page of bytes that are mapped is mapped
pub bytes_at-mapped : (pages : Pages) (address count : ℕ) → IsSome (bytes_at pages address count) → (k : ℕ) → k < count → IsSome (get pages ((address + k) / 4096))
bytes_at-mapped pages address zero h k within = absurd (omega arith)
bytes_at-mapped pages address (suc count) h zero within = rw add-zero (byte_mapped pages address (and_first _ _ (sym (is_some-bytes_at pages address count) ∙ h)))
bytes_at-mapped pages address (suc count) h (suc k) within =
    let next : address + 1 + k ≡ address + suc k = omega arith in
    rw (← next) (bytes_at-mapped pages (address + 1) count (and_second _ _ (sym (is_some-bytes_at pages address count) ∙ h)) k (omega arith))

-- to write bytes maps no page and unmaps none
pub is_some-set_byte : (pages : Pages) (address b number : ℕ) → is_some (get (set_byte pages address b) number) ≡ is_some (get pages number)
unfolding set_byte
is_some-set_byte pages address b number = is_some-replaced pages (address / 4096) number _ (get pages (address / 4096)) refl

pub is_some-set_bytes : (pages : Pages) (address : ℕ) (bytes : List ℕ) (number : ℕ) → is_some (get (set_bytes pages address bytes) number) ≡ is_some (get pages number)
unfolding set_bytes
is_some-set_bytes pages address [] number = refl
is_some-set_bytes pages address (b ∷ bs) number = is_some-set_bytes (set_byte pages address b) (address + 1) bs number ∙ is_some-set_byte pages address b number

-- ---- numbers in bytes

pub length-low_bytes : (count n : ℕ) → length (low_bytes count n) ≡ count
length-low_bytes zero n = refl
length-low_bytes (suc count) n = ap suc (length-low_bytes count (n / 256))

pub All-low_bytes : (count n : ℕ) → All (λ b. b < 256) (low_bytes count n)
All-low_bytes zero n = All-nil (λ b. b < 256)
All-low_bytes (suc count) n = All-cons (λ b. b < 256) (n % 256) (low_bytes count (n / 256)) (omega arith) (All-low_bytes count (n / 256))

number_of : (b : Option ℕ) (bs : Option (List ℕ)) → option_map from_bytes (option_and_then (λ x. option_map (λ xs. x ∷ xs) bs) b) ≡ option_and_then (λ x. option_map (λ n. x + 256 * n) (option_map from_bytes bs)) b
number_of None bs = refl
number_of (Some b) None = refl
number_of (Some b) (Some bs) = refl

-- the first byte of a number, and those after it
pub load_at-suc : (pages : Pages) (address count : ℕ) → load_at pages address (suc count) ≡ option_and_then (λ b. option_map (λ n. b + 256 * n) (load_at pages (address + 1) count)) (byte_at pages address)
unfolding load_at bytes_at
load_at-suc pages address count = number_of (byte_at pages address) (bytes_at pages (address + 1) count)

-- the number in bytes of one page
pub load_at-in_page : (pages : Pages) (address count : ℕ) (page : List ℕ) → get pages (address / 4096) ≡ Some page → length page ≡ 4096 → address % 4096 + count ≤ 4096
    → load_at pages address count ≡ Some (from_bytes (take count (drop (address % 4096) page)))
unfolding load_at
load_at-in_page pages address count page found whole within =
    let split : 4096 * (address / 4096) + address % 4096 ≡ address = omega arith in
    ap (λ a. option_map from_bytes (bytes_at pages a count)) (sym split) ∙ ap (option_map from_bytes) (bytes_at-in_page pages (address / 4096) (address % 4096) count page found whole within)

pub load_at-none : (pages : Pages) (address count : ℕ) → get pages (address / 4096) ≡ None → 0 < count → load_at pages address count ≡ None
load_at-none pages address zero none some = absurd (omega arith)
load_at-none pages address (suc count) none some = load_at-suc pages address count ∙ rw (byte_at-none pages address none) refl
