-- Laws of pages of zeros that are mapped where none stands.
use Rattle.std.specs.Prelude.{if◌then◌else◌, ◌&&◌, ◌||◌, nat_le, nat_lt, nat_eq, IfSome, is_some, replicate}
use Rattle.std.specs.List.{All}
use Rattle.std.specs.Cmp.{nat_cmp_total}
use Rattle.std.specs.FinMap.{get, insert, len, contains_key, get-insert, len-insert, gets}
use Rattle.std.proofs.Common.{◌≡◌, ℕ, zero, suc, ◌+◌, ◌-◌, ◌^◌, ◌<◌, ◌≤◌, Bool, true, false, cond, List, length, Option, Some, None, ⊎_elim, refl, sym, ap, ◌∙◌, arith, eq-eqb, ne_eqb}
use Rattle.std.proofs.lemmas.Bool.{cases_eq, and_parts, ltb-true}
use Rattle.std.proofs.lemmas.Bool.Decides.{nat_tests}
use Rattle.std.proofs.lemmas.Grind.{common_steps}
use Rattle.std.proofs.lemmas.List.{length-replicate}
use Rattle.std.proofs.lemmas.List.Elements.{All-nil, All-cons}
use Rattle.sl_model.specs.Pages.{Pages, ArePages, IsPage}
use Rattle.sl_model.proofs.PagesLaws.{AreWhole}
use Rattle.sl_model.specs.Mapping.{zero_page, map_page, map_pages}

-- ---- which pages stand in memory then

-- a page, or one of zeros where there is none and it is to be mapped
abbrev pub or_zeros : Option (List ℕ) → Bool → Option (List ℕ)
or_zeros (Some page) mapped = Some page
or_zeros None true = Some zero_page
or_zeros None false = None

pub or_zeros-false : (page : Option (List ℕ)) → or_zeros page false ≡ page
or_zeros-false None = refl
or_zeros-false (Some page) = refl

or_zeros-twice : (page : Option (List ℕ)) (a b : Bool) → or_zeros (or_zeros page a) b ≡ or_zeros page (a || b)
or_zeros-twice (Some page) a b = refl
or_zeros-twice None true b = refl
or_zeros-twice None false b = refl

pub is_some-or_zeros : (page : Option (List ℕ)) (mapped : Bool) → is_some (or_zeros page mapped) ≡ (is_some page || mapped)
is_some-or_zeros (Some page) mapped = refl
is_some-or_zeros None true = refl
is_some-or_zeros None false = refl

pub whole-or_zeros : (page : Option (List ℕ)) (mapped : Bool) → IfSome page (λ p. length p ≡ 4096) → IfSome (or_zeros page mapped) (λ p. length p ≡ 4096)
whole-or_zeros (Some page) mapped whole = whole
whole-or_zeros None true whole = length-replicate {A = ℕ} 4096 0
whole-or_zeros None false whole = tt

-- a page among so many from one on
abbrev pub is_among : ℕ → ℕ → ℕ → Bool
is_among first stop number = nat_le first number && nat_lt number stop

chosen : (mapped : Bool) (pages : Pages) (page number : ℕ) → contains_key pages page ≡ mapped → get (if mapped then pages else insert pages page zero_page) number ≡ or_zeros (get pages number) (nat_eq number page)
chosen mapped pages page number is = ⊎_elim
    (λ (same : number ≡ page). at mapped same is ∙ ap (or_zeros (get pages number)) (sym (eq-eqb number page same)))
    (λ (apart : number ≡ page → ⊥). other mapped apart ∙ sym (or_zeros-false (get pages number)) ∙ ap (or_zeros (get pages number)) (sym (ne_eqb number page apart)))
    (cases_eq number page)
  where
    there : (page : Option (List ℕ)) → is_some page ≡ true → page ≡ or_zeros page true
    there (Some page) is = refl
    there None is = absurd cc

    gone : (page : Option (List ℕ)) → is_some page ≡ false → Some zero_page ≡ or_zeros page true
    gone (Some page) is = absurd cc
    gone None is = refl

    at : (mapped : Bool) → number ≡ page → contains_key pages page ≡ mapped → get (if mapped then pages else insert pages page zero_page) number ≡ or_zeros (get pages number) true
    at true same is = there (get pages number) (rw same is)
    at false same is = get-insert nat_cmp_total pages page zero_page number ∙ grind (arith, gets, common_steps, same) ∙ gone (get pages number) (rw same is)

    other : (mapped : Bool) → (number ≡ page → ⊥) → get (if mapped then pages else insert pages page zero_page) number ≡ get pages number
    other true apart = refl
    other false apart = grind (arith, gets, common_steps, apart)

pub get-map_page : (pages : Pages) (page number : ℕ) → get (map_page pages page) number ≡ or_zeros (get pages number) (nat_eq number page)
get-map_page pages page number = chosen (contains_key pages page) pages page number refl

one_first : (first count number : ℕ) → (nat_eq number first || is_among (first + 1) (first + 1 + count) number) ≡ is_among first (first + suc count) number
one_first first count number = grind (arith, nat_tests)

pub get-map_pages : (pages : Pages) (first count number : ℕ) → get (map_pages pages first count) number ≡ or_zeros (get pages number) (is_among first (first + count) number)
unfolding map_pages
get-map_pages pages first zero number =
    let none : is_among first (first + 0) number ≡ false = grind (arith, nat_tests) in
    sym (or_zeros-false (get pages number)) ∙ ap (or_zeros (get pages number)) (sym none)
get-map_pages pages first (suc count) number =
    get-map_pages (map_page pages first) (first + 1) count number
    ∙ ap (λ page. or_zeros page (is_among (first + 1) (first + 1 + count) number)) (get-map_page pages first number)
    ∙ or_zeros-twice (get pages number) (nat_eq number first) (is_among (first + 1) (first + 1 + count) number)
    ∙ ap (or_zeros (get pages number)) (one_first first count number)

pub AreWhole-map_pages : (pages : Pages) (first count : ℕ) → AreWhole pages → AreWhole (map_pages pages first count)
AreWhole-map_pages pages first count whole number =
    rw (get-map_pages pages first count number) (whole-or_zeros (get pages number) (is_among first (first + count) number) (whole number))

pub is_some-map_pages : (pages : Pages) (first count number : ℕ) → is_some (get (map_pages pages first count) number) ≡ (is_some (get pages number) || is_among first (first + count) number)
is_some-map_pages pages first count number = ap is_some (get-map_pages pages first count number) ∙ is_some-or_zeros (get pages number) (is_among first (first + count) number)

-- ---- one page after the other

pub map_page_new : (pages : Pages) (page : ℕ) → contains_key pages page ≡ false → map_page pages page ≡ insert pages page zero_page
map_page_new pages page new = rw new refl

one_more : (b : Bool) (n : ℕ) → cond b n (cond b n (n + 1)) ≤ n + 1
one_more true n = omega arith
one_more false n = omega arith

len_of_choice : (b : Bool) (pages : Pages) (page : ℕ) → contains_key pages page ≡ b → len (cond b pages (insert pages page zero_page)) ≡ cond b (len pages) (cond b (len pages) (len pages + 1))
len_of_choice true pages page e = refl
len_of_choice false pages page e = len-insert nat_cmp_total pages page zero_page ∙ ap (λ (b : Bool). cond b (len pages) (len pages + 1)) e

pub len-map_page : (pages : Pages) (page : ℕ) → len (map_page pages page) ≤ len pages + 1
len-map_page pages page = rw (len_of_choice (contains_key pages page) pages page refl) (one_more (contains_key pages page) (len pages))

pub map_pages_step : (pages new : Pages) (page stop : ℕ) → page < stop → new ≡ map_page pages page → map_pages new (page + 1) (stop - (page + 1)) ≡ map_pages pages page (stop - page)
unfolding map_pages
map_pages_step pages new page stop lt is =
    let left = stop - (page + 1) in
    let one : stop - page ≡ suc (stop - (page + 1)) = omega arith in
    ap (λ (p : Pages). map_pages p (page + 1) left) is ∙ sym (ap (map_pages pages page) one)

pub map_pages_done : (pages : Pages) (page stop : ℕ) → stop ≤ page → map_pages pages page (stop - page) ≡ pages
unfolding map_pages
map_pages_done pages page stop le =
    let none : stop - page ≡ 0 = omega arith in
    ap (map_pages pages page) none

-- ---- pages stay pages

small_zeros : (n : ℕ) → All (λ b. b < 256) (replicate n 0)
small_zeros zero = All-nil (λ b. b < 256)
small_zeros (suc n) = All-cons (λ b. b < 256) 0 (replicate n 0) (omega arith) (small_zeros n)

pub IsPage-zeros : IsPage zero_page
IsPage-zeros = record { whole = length-replicate {A = ℕ} 4096 0; bytes = small_zeros 4096 }

page-or_zeros : (number : ℕ) (page : Option (List ℕ)) (mapped : Bool) → IfSome page (λ p. (number < 2 ^ 20) × IsPage p) → (mapped ≡ true → number < 2 ^ 20)
    → IfSome (or_zeros page mapped) (λ p. (number < 2 ^ 20) × IsPage p)
page-or_zeros number (Some page) mapped is below = is
page-or_zeros number None true is below = (below refl, IsPage-zeros)
page-or_zeros number None false is below = tt

pub ArePages-map_pages : (pages : Pages) (first count : ℕ) → ArePages pages → first + count ≤ 2 ^ 20 → ArePages (map_pages pages first count)
ArePages-map_pages pages first count are within number =
    rw (get-map_pages pages first count number) (page-or_zeros number (get pages number) (is_among first (first + count) number) (are number) (λ new.
    let last : number < first + count = ltb-true number (first + count) (and_parts (nat_le first number) (nat_lt number (first + count)) new).1 in
    omega arith))
