-- Bytes that are written part by part.
use Rattle.std.proofs.Common.{◌≡◌, ℕ, ◌+◌, ◌-◌, ◌/◌, ◌<◌, List, [], ◌∷◌, ◌++◌, length, length-append, refl, ◌∙◌, arith}
use Rattle.std.specs.Prelude.{IsSome}
use Rattle.std.specs.FinMap.{get}
use Rattle.sl_model.specs.Pages.{Pages, set_bytes}
use Rattle.sl_model.proofs.PagesLaws.{set_bytes-append, is_some-set_bytes}
use Rattle.page_frames.specs.MarkedPages.{MarkedPages, mark_bytes, with_bytes}
use Rattle.page_frames.proofs.Marking.{mark_bytes-add}

-- each page of some bytes from an address on is mapped
abbrev pub AreMapped : Pages → ℕ → ℕ → Type 0
AreMapped pages address count = (k : ℕ) → k < count → IsSome (get pages ((address + k) / 4096))

-- one part after the other
pub with_bytes-append : (m : MarkedPages) (address : ℕ) (xs ys : List ℕ) → with_bytes m address (xs ++ ys) ≡ with_bytes (with_bytes m address xs) (address + length xs) ys
with_bytes-append m address xs ys =
    let pages = set_bytes-append m.pages address xs ys in
    let dirty : mark_bytes m.dirty address (length (xs ++ ys)) ≡ mark_bytes (mark_bytes m.dirty address (length xs)) (address + length xs) (length ys) = rw (length-append xs ys) (mark_bytes-add m.dirty address (length xs) (length ys)) in
    λ i. record { pages = pages i; dirty = dirty i }

-- the pages of the bytes after a part stay mapped when the part is written
pub AreMapped-rest : (pages : Pages) (address count : ℕ) (part : List ℕ) → AreMapped pages address count → AreMapped (set_bytes pages address part) (address + length part) (count - length part)
AreMapped-rest pages address count part are k within =
    let place : address + length part + k ≡ address + (length part + k) = omega arith in
    is_some-set_bytes pages address part ((address + length part + k) / 4096) ∙ rw place (are (length part + k) (omega arith))

-- no bytes
pub with_bytes-nil : (m : MarkedPages) (address : ℕ) (bytes : List ℕ) → length bytes ≡ 0 → with_bytes m address bytes ≡ m
unfolding set_bytes mark_bytes
with_bytes-nil m address [] none = refl
with_bytes-nil m address (b ∷ bs) none = absurd (omega arith)
