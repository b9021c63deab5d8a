-- Memory in which one page is mapped, page 16.
use Rattle.std.specs.Prelude.{Option, is_some, Contains, if◌then◌else◌}
use Rattle.std.specs.Option.{option_map}
use Rattle.std.specs.Ordering.{nat_cmp}
use Rattle.std.specs.Cmp.{nat_cmp_total}
use Rattle.std.specs.FinMap.{get, insert, empty, gets, get-empty, same_map, nat_cmp-IsAntisymmetric}
use Rattle.std.proofs.Common.{◌≡◌, ℕ, ◌+◌, ◌-◌, ◌*◌, ◌/◌, ◌%◌, ◌<◌, ◌≤◌, ◌⊎◌, ◌≢◌, ◌∷◌, ◌++◌, [], inl, inr, ⊎_elim, Bool, eqb, List, length, take, drop, Some, None, true, false, refl, subst, sym, ap, ◌∙◌, arith, true≢false}
use Rattle.std.proofs.lemmas.Bool.Decides.{eqb_tells}
use Rattle.std.proofs.lemmas.Grind.{common_steps}
use Rattle.sl_model.specs.Marks.{MarksGoOn}
use Rattle.sl_model.specs.Pages.{Pages, bytes_at, load_at, store_at, set_bytes, put_bytes, from_bytes, low_bytes}
use Rattle.sl_model.proofs.PagesLaws.{load_at-in_page, bytes_at-in_page, bytes_at-mapped, set_bytes-in_page, length-low_bytes}

abbrev pub one_page : List ℕ → Pages
one_page page = insert empty 16 page

there : (page : List ℕ) (address : ℕ) → address / 4096 ≡ 16 → get (one_page page) (address / 4096) ≡ Some page
there page address is = rw is (grind (arith, gets, common_steps))

elsewhere : (page : List ℕ) (number : ℕ) → (number ≡ 16 → ⊥) → get (one_page page) number ≡ None
elsewhere page number apart =
    let none : get (empty {X = List ℕ} {R = nat_cmp}) number ≡ None = get-empty nat_cmp number in
    grind (arith, gets, common_steps, apart, none)

pub loaded : (page : List ℕ) (address offset width : ℕ) → length page ≡ 4096 → address ≡ 65536 + offset → offset + width ≤ 4096 → 0 < width
    → Some (from_bytes (take width (drop offset page))) ≡ load_at (one_page page) address width
loaded page address offset width whole is within some =
    let at : address % 4096 ≡ offset = omega arith in
    let found : load_at (one_page page) address width ≡ Some (from_bytes (take width (drop (address % 4096) page))) =
    load_at-in_page (one_page page) address width page (there page address (omega arith)) whole (omega arith) in
    sym (found ∙ ap (λ o. Some (from_bytes (take width (drop o page)))) at)

no_bytes : (pages : Pages) (address width k : ℕ) → k < width → get pages ((address + k) / 4096) ≡ None → bytes_at pages address width ≡ None
no_bytes pages address width k within none = of (bytes_at pages address width) refl
  where
    of : (o : Option (List ℕ)) → bytes_at pages address width ≡ o → o ≡ None
    of None found = refl
    of (Some bytes) found =
        let mapped : is_some (get pages ((address + k) / 4096)) ≡ true = bytes_at-mapped pages address width (ap is_some found) k within in
        absurd (true≢false (sym mapped ∙ ap is_some none))

pub unmapped : (page : List ℕ) (address width : ℕ) → 0 < width → width ≤ 4 → (address < 65536) ⊎ (65536 + 4096 < address + width) → bytes_at (one_page page) address width ≡ None
unmapped page address width some few (inl below) =
    no_bytes (one_page page) address width 0 some (elsewhere page ((address + 0) / 4096) (λ same. absurd (omega arith)))
unmapped page address width some few (inr above) =
    no_bytes (one_page page) address width (width - 1) (omega arith) (elsewhere page ((address + (width - 1)) / 4096) (λ same. absurd (omega arith)))

pub not_loaded : (page : List ℕ) (address width : ℕ) → 0 < width → width ≤ 4 → (address < 65536) ⊎ (65536 + 4096 < address + width) → None ≡ load_at (one_page page) address width
unfolding load_at
not_loaded page address width some few outside = sym (ap (option_map from_bytes) (unmapped page address width some few outside))

pub not_stored : (page : List ℕ) (address width value : ℕ) → 0 < width → width ≤ 4 → (address < 65536) ⊎ (65536 + 4096 < address + width) → store_at (one_page page) address width value ≡ None
unfolding store_at
not_stored page address width value some few outside =
    ap (option_map (λ _. set_bytes (one_page page) address (low_bytes width value))) (unmapped page address width some few outside)

pub stored : (page after : List ℕ) (address offset width value : ℕ) → length page ≡ 4096 → address ≡ 65536 + offset → offset + width ≤ 4096 → after ≡ put_bytes page offset (low_bytes width value)
    → store_at (one_page page) address width value ≡ Some (one_page after)
unfolding store_at
stored page after address offset width value whole is within put =
    let place : address ≡ 4096 * 16 + offset = omega arith in
    let found : get (one_page page) 16 ≡ Some page = grind (arith, gets, common_steps) in
    let bytes : bytes_at (one_page page) address width ≡ Some (take width (drop offset page)) =
    ap (λ a. bytes_at (one_page page) a width) place ∙ bytes_at-in_page (one_page page) 16 offset width page found whole within in
    let set : set_bytes (one_page page) address (low_bytes width value) ≡ insert (one_page page) 16 (put_bytes page offset (low_bytes width value)) =
    ap (λ a. set_bytes (one_page page) a (low_bytes width value)) place ∙ set_bytes-in_page (one_page page) 16 offset (low_bytes width value) page found (omega (arith, length-low_bytes width value)) in
    ap (option_map (λ _. set_bytes (one_page page) address (low_bytes width value))) bytes
    ∙ ap Some (set ∙ twice page (put_bytes page offset (low_bytes width value)) ∙ ap one_page (sym put))
  where
    twice : (first last : List ℕ) → insert (one_page first) 16 last ≡ one_page last
    twice first last = same_map nat_cmp_total nat_cmp-IsAntisymmetric _ _ (λ q. grind (arith, gets, common_steps))

go_on : (was : Bool) → (more : List ℕ) × (16 ∷ [] ≡ (if was then 16 ∷ [] else []) ++ more)
go_on true = ([], refl)
go_on false = (16 ∷ [], refl)

-- the marks go on where the page is marked, whether or not it was before
pub marked : (page after : List ℕ) (was : Bool) → MarksGoOn true (one_page page) (if was then 16 ∷ [] else []) (one_page after) (16 ∷ [])
marked page after was = record {
  keeps = go_on was;
  marks = λ marking number below. ⊎_elim
      (λ (it : (eqb number 16 ≡ true) × (number ≡ 16)). inr (subst (Contains (16 ∷ [])) (sym it.1) (0, omega arith, refl)))
      (λ (other : (eqb number 16 ≡ false) × (number ≢ 16)). inl (elsewhere after number other.1 ∙ sym (elsewhere page number other.1)))
      (eqb_tells number 16);
}
