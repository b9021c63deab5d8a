-- Bytes that are copied out of memory, one page after the other.
use Rattle.std.specs.Prelude.{◌/◌, ◌%◌, min, IsSome}
use Rattle.std.specs.FinMap.{get}
use Rattle.std.specs.Option.{option_and_then, option_map}
use Rattle.std.proofs.Common.{◌≡◌, ℕ, zero, suc, ◌+◌, ◌-◌, ◌*◌, ◌<◌, ◌≤◌, List, [], ◌∷◌, ◌++◌, take, drop, Option, Some, None, refl, sym, ap, subst, ◌∙◌, arith}
use Rattle.sl_model.specs.Pages.{Pages, ArePages, byte_at, bytes_at}
use Rattle.sl_model.proofs.PagesLaws.{bytes_at-in_page, bytes_at-mapped}
use Rattle.sl_model.proofs.WholePages.{length-page}

record HasByte (byte : Option ℕ) (rest : Option (List ℕ)) (bytes : List ℕ) : Type 0 where
  first : ℕ
  others : List ℕ
  byte_is : byte ≡ Some first
  rest_is : rest ≡ Some others
  whole : bytes ≡ first ∷ others

first_byte : (byte : Option ℕ) (rest : Option (List ℕ)) (bytes : List ℕ) → option_and_then (λ b. option_map (λ bs. b ∷ bs) rest) byte ≡ Some bytes → HasByte byte rest bytes
first_byte None rest bytes is = absurd cc
first_byte (Some b) None bytes is = absurd cc
first_byte (Some b) (Some bs) bytes is = record { first = b; others = bs; byte_is = refl; rest_is = refl; whole = cc }

pub bytes_at-append : (pages : Pages) (address m n : ℕ) (xs ys : List ℕ) → bytes_at pages address m ≡ Some xs → bytes_at pages (address + m) n ≡ Some ys → bytes_at pages address (m + n) ≡ Some (xs ++ ys)
unfolding bytes_at
bytes_at-append pages address zero n [] ys first second =
    let place : address + 0 ≡ address = omega arith in
    let none : 0 + n ≡ n = omega arith in
    ap (bytes_at pages address) none ∙ ap (λ a. bytes_at pages a n) (sym place) ∙ second
bytes_at-append pages address zero n (x ∷ xs) ys first second = absurd cc
bytes_at-append pages address (suc m) n xs ys first second =
    let is = first_byte (byte_at pages address) (bytes_at pages (address + 1) m) xs first in
    let place : address + 1 + m ≡ address + suc m = omega arith in
    let rest = bytes_at-append pages (address + 1) m n is.others ys is.rest_is (ap (λ a. bytes_at pages a n) place ∙ second) in
    let sum : suc m + n ≡ suc (m + n) = omega arith in
    ap (bytes_at pages address) sum ∙ rw (is.byte_is, rest) (ap (λ (bs : List ℕ). Some (bs ++ ys)) (sym is.whole))

-- nothing was copied yet
pub copied_none : (pages : Pages) (address at : ℕ) (bytes : List ℕ) → at ≡ address → bytes ≡ [] → bytes_at pages address (at - address) ≡ Some bytes
unfolding bytes_at
copied_none pages address at bytes same none =
    let zero_of : at - address ≡ 0 = omega arith in
    ap (bytes_at pages address) zero_of ∙ ap (λ (bs : List ℕ). Some bs) (sym none)

-- the next page is there
pub page_there : (pages : Pages) (address len at : ℕ) → IsSome (bytes_at pages address len) → address ≤ at → at < address + len → IsSome (get pages (at / 4096))
page_there pages address len at mapped from within =
    let place : address + (at - address) ≡ at = omega arith in
    subst (λ a. IsSome (get pages (a / 4096))) place (bytes_at-mapped pages address len mapped (at - address) (omega arith))

-- what was copied with the bytes of the next page
pub copied_on : (pages : Pages) (address at end count : ℕ) (bytes page : List ℕ) → ArePages pages → get pages (at / 4096) ≡ Some page → address ≤ at → count ≡ min (4096 - at % 4096) (end - at)
    → bytes_at pages address (at - address) ≡ Some bytes → bytes_at pages address (at + count - address) ≡ Some (bytes ++ take count (drop (at % 4096) page))
copied_on pages address at end count bytes page are found from is copied =
    let place : 4096 * (at / 4096) + at % 4096 ≡ address + (at - address) = omega arith in
    let within : at % 4096 + count ≤ 4096 = omega arith in
    let next = bytes_at-in_page pages (at / 4096) (at % 4096) count page found (length-page pages (at / 4096) page are found) within in
    let sum : at + count - address ≡ at - address + count = omega arith in
    ap (bytes_at pages address) sum ∙ bytes_at-append pages address (at - address) count bytes (take count (drop (at % 4096) page)) copied (ap (λ a. bytes_at pages a count) (sym place) ∙ next)
