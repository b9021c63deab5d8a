-- What marking the pages of bytes does.
use Rattle.std.proofs.Common.{◌≡◌, ℕ, zero, suc, ◌+◌, ◌*◌, ◌/◌, ◌%◌, ◌<◌, ◌≤◌, List, [], ◌∷◌, ◌++◌, length, Bool, true, false, cond, refl, ap, ◌∙◌, sym, arith, add-zero, zero-add, eqb, append-nil, inl, inr, ⊎_elim, ◌≢◌}
use Rattle.std.specs.Prelude.{Contains}
use Rattle.std.specs.List.{list_any}
use Rattle.std.proofs.lemmas.Bool.Decides.{eqb_tells}
use Rattle.std.proofs.lemmas.List.Elements.{Contains-push}
use Rattle.std.proofs.lemmas.List.Folds.{list_any-append}
use Rattle.std.proofs.lemmas.Map.Views.{Contains-from_any}
use Rattle.std.proofs.lemmas.Grind.{common_steps}
use Rattle.sl_model.specs.Pages.{Pages, set_byte, set_bytes}
use Rattle.sl_model.specs.Marks.{MarksGoOn}
use Rattle.sl_model.proofs.PagesLaws.{get-set_byte_other}
use Rattle.sl_model.proofs.MarksLaws.{MarksGoOn-same, MarksGoOn-then}
use Rattle.page_frames.specs.MarkedPages.{mark, mark_bytes}

marked_if : (b : Bool) (dirty : List ℕ) (page : ℕ) → list_any (eqb page) dirty ≡ b → mark (cond b dirty (dirty ++ page ∷ [])) page ≡ cond b dirty (dirty ++ page ∷ [])
marked_if true dirty page e = rw e refl
marked_if false dirty page e =
    let yes : list_any (eqb page) (dirty ++ page ∷ []) ≡ true = grind (arith, common_steps, list_any-append {X = ℕ}) in
    rw yes refl

-- to mark a page again changes nothing
mark-again : (dirty : List ℕ) (page : ℕ) → mark (mark dirty page) page ≡ mark dirty page
mark-again dirty page = marked_if (list_any (eqb page) dirty) dirty page refl

-- bytes of one page mark this page
marked_in_page : (dirty : List ℕ) (number offset count : ℕ) → offset + suc count ≤ 4096 → mark_bytes dirty (4096 * number + offset) (suc count) ≡ mark dirty number
unfolding mark_bytes
marked_in_page dirty number offset zero within =
    let quotient : (4096 * number + offset) / 4096 ≡ number = omega arith in
    rw quotient refl
marked_in_page dirty number offset (suc count) within =
    let quotient : (4096 * number + offset) / 4096 ≡ number = omega arith in
    let next : 4096 * number + offset + 1 ≡ 4096 * number + (offset + 1) = omega arith in
    rw (quotient, next) (marked_in_page (mark dirty number) number (offset + 1) count (omega arith) ∙ mark-again dirty number)

pub mark_bytes-in_page : (dirty : List ℕ) (address count : ℕ) → 0 < count → address % 4096 + count ≤ 4096 → mark_bytes dirty address count ≡ mark dirty (address / 4096)
mark_bytes-in_page dirty address zero some within = absurd (omega arith)
mark_bytes-in_page dirty address (suc count) some within =
    let split : 4096 * (address / 4096) + address % 4096 ≡ address = omega arith in
    ap (λ a. mark_bytes dirty a (suc count)) (sym split) ∙ marked_in_page dirty (address / 4096) (address % 4096) count within

-- one part after the other
pub mark_bytes-add : (dirty : List ℕ) (address m n : ℕ) → mark_bytes dirty address (m + n) ≡ mark_bytes (mark_bytes dirty address m) (address + m) n
unfolding mark_bytes
mark_bytes-add dirty address zero n = rw (zero-add, add-zero) refl
mark_bytes-add dirty address (suc m) n =
    let longer : suc m + n ≡ suc (m + n) = omega arith in
    let after : address + 1 + m ≡ address + suc m = omega arith in
    rw longer (mark_bytes-add (mark dirty (address / 4096)) (address + 1) m n ∙ ap (λ a. mark_bytes (mark_bytes (mark dirty (address / 4096)) (address + 1) m) a n) after)

kept_if : (b : Bool) (dirty : List ℕ) (page : ℕ) → (more : List ℕ) × (cond b dirty (dirty ++ page ∷ []) ≡ dirty ++ more)
kept_if true dirty page = ([], sym (append-nil dirty))
kept_if false dirty page = (page ∷ [], refl)

equal : (x y : ℕ) → eqb x y ≡ true → x ≡ y
equal x y h = grind (arith, common_steps)

contained_if : (b : Bool) (dirty : List ℕ) (page : ℕ) → list_any (eqb page) dirty ≡ b → Contains (cond b dirty (dirty ++ page ∷ [])) page
contained_if true dirty page e = Contains-from_any equal page dirty e
contained_if false dirty page e = Contains-push dirty page

-- a page that was marked stands in the list
Contains-mark : (dirty : List ℕ) (page : ℕ) → Contains (mark dirty page) page
Contains-mark dirty page = contained_if (list_any (eqb page) dirty) dirty page refl

-- the page of a byte that is written is marked
mark-goes_on : (pages : Pages) (dirty : List ℕ) (address b : ℕ) → MarksGoOn true pages dirty (set_byte pages address b) (mark dirty (address / 4096))
unfolding set_byte
mark-goes_on pages dirty address b = record {
  keeps = kept_if (list_any (eqb (address / 4096)) dirty) dirty (address / 4096);
  marks = λ marking page below. ⊎_elim
      (λ (same : (eqb (address / 4096) page ≡ true) × (address / 4096 ≡ page)). inr (rw (← same.1) (Contains-mark dirty (address / 4096))))
      (λ (differ : (eqb (address / 4096) page ≡ false) × (address / 4096 ≢ page)). inl (get-set_byte_other pages address b page differ.0))
      (eqb_tells (address / 4096) page);
}

-- and so are those of bytes
pub mark_bytes-goes_on : (pages : Pages) (dirty : List ℕ) (address : ℕ) (bytes : List ℕ) → MarksGoOn true pages dirty (set_bytes pages address bytes) (mark_bytes dirty address (length bytes))
unfolding set_bytes mark_bytes
mark_bytes-goes_on pages dirty address [] = MarksGoOn-same true pages dirty
mark_bytes-goes_on pages dirty address (b ∷ bs) = MarksGoOn-then true pages dirty (set_byte pages address b) (mark dirty (address / 4096)) _ _ (mark-goes_on pages dirty address b) (mark_bytes-goes_on (set_byte pages address b) (mark dirty (address / 4096)) (address + 1) bs)
