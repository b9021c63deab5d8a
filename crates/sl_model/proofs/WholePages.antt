-- Pages that are written, and that they stay whole.
use Rattle.std.specs.Prelude.{IfSome, IsSome, unwrap_or, slice_set}
use Rattle.std.specs.Option.{option_map}
use Rattle.std.specs.Ordering.{nat_cmp, eq_by_cmp}
use Rattle.std.specs.Cmp.{nat_cmp_total}
use Rattle.std.specs.FinMap.{get, insert, get-insert, gets}
use Rattle.std.proofs.Common.{◌≡◌, ℕ, ◌+◌, ◌*◌, ◌/◌, ◌%◌, ◌^◌, ◌<◌, Bool, true, false, cond, List, [], ◌∷◌, ◌++◌, length, Option, Some, None, refl, ap, ◌∙◌, arith}
use Rattle.std.proofs.lemmas.Grind.{common_steps}
use Rattle.std.proofs.lemmas.List.{append-nil, drop_all}
use Rattle.std.proofs.Math.ListN.{length-set}
use Rattle.sl_model.specs.Pages.{Pages, ArePages, IsPage, bytes_at, set_byte, set_bytes, put_bytes}
use Rattle.sl_model.proofs.PagesLaws.{AreWhole, bytes_at-in_page, set_bytes-in_page, put_bytes-between}

-- ---- a page that is written whole

whole_page : (number : ℕ) (o : Option (List ℕ)) (page : List ℕ) → IfSome o (λ p. (number < 2 ^ 20) × IsPage p) → o ≡ Some page → length page ≡ 4096
whole_page number o page are is = (rw is at are).1.whole

pub length-page : (pages : Pages) (number : ℕ) (page : List ℕ) → ArePages pages → get pages number ≡ Some page → length page ≡ 4096
length-page pages number page are is = whole_page number (get pages number) page (are number) is

-- the bytes of a mapped page are mapped
pub page_mapped : (pages : Pages) (number : ℕ) (page bytes : List ℕ) → ArePages pages → get pages number ≡ Some page → length bytes ≡ 4096 → IsSome (bytes_at pages (number * 4096) (length bytes))
page_mapped pages number page bytes are is whole =
    let place : number * 4096 ≡ 4096 * number + 0 = omega arith in
    let found = bytes_at-in_page pages number 0 4096 page is (length-page pages number page are is) (omega arith) in
    rw (whole, place, found) refl

put_whole : (page bytes : List ℕ) → length bytes ≡ length page → put_bytes page 0 bytes ≡ bytes
put_whole page bytes same = put_bytes-between page 0 bytes (omega arith) ∙ ap (λ l. bytes ++ l) (drop_all (0 + length bytes) page (omega arith)) ∙ append-nil bytes

-- to write a whole page is to put it in the place of the old one
pub set_page : (pages : Pages) (number : ℕ) (page bytes : List ℕ) → ArePages pages → get pages number ≡ Some page → length bytes ≡ 4096 → set_bytes pages (number * 4096) bytes ≡ insert pages number bytes
set_page pages number page bytes are is whole =
    let place : number * 4096 ≡ 4096 * number + 0 = omega arith in
    let long = length-page pages number page are is in
    ap (λ a. set_bytes pages a bytes) place ∙ set_bytes-in_page pages number 0 bytes page is (omega arith) ∙ ap (insert pages number) (put_whole page bytes (omega arith))

pub get-inserted : (pages : Pages) (number : ℕ) (page : List ℕ) → get (insert pages number page) number ≡ Some page
get-inserted pages number page = grind (arith, gets, common_steps)

-- ---- bytes that are written

chosen_whole : (b : Bool) (page : List ℕ) (other : Option (List ℕ)) → length page ≡ 4096 → IfSome other (λ p. length p ≡ 4096) → IfSome (cond b (Some page) other) (λ p. length p ≡ 4096)
chosen_whole true page other whole rest = whole
chosen_whole false page other whole rest = rest

pub AreWhole-insert : (pages : Pages) (number : ℕ) (page : List ℕ) → AreWhole pages → length page ≡ 4096 → AreWhole (insert pages number page)
AreWhole-insert pages number page whole is q = rw (get-insert nat_cmp_total pages number page q) (chosen_whole (eq_by_cmp nat_cmp q number) page (get pages q) is (whole q))

replaced_whole : (pages : Pages) (number offset b : ℕ) (page : Option (List ℕ)) → AreWhole pages → IfSome page (λ p. length p ≡ 4096) → AreWhole (unwrap_or (option_map (λ p. insert pages number (slice_set p offset b)) page) pages)
replaced_whole pages number offset b None whole is = whole
replaced_whole pages number offset b (Some page) whole is = AreWhole-insert pages number (slice_set page offset b) whole (length-set page offset b ∙ is)

AreWhole-set_byte : (pages : Pages) (address b : ℕ) → AreWhole pages → AreWhole (set_byte pages address b)
unfolding set_byte
AreWhole-set_byte pages address b whole = replaced_whole pages (address / 4096) (address % 4096) b (get pages (address / 4096)) whole (whole (address / 4096))

pub AreWhole-set_bytes : (pages : Pages) (address : ℕ) (bytes : List ℕ) → AreWhole pages → AreWhole (set_bytes pages address bytes)
unfolding set_bytes
AreWhole-set_bytes pages address [] whole = whole
AreWhole-set_bytes pages address (b ∷ bs) whole = AreWhole-set_bytes (set_byte pages address b) (address + 1) bs (AreWhole-set_byte pages address b whole)
