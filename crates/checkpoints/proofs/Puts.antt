-- Listed pages that are put into memory, the last listing of a page first.
use Rattle.std.proofs.Common.{◌≡◌, ◌≢◌, ℕ, ◌*◌, ◌/◌, ◌%◌, Bool, true, false, cond}
use Rattle.std.proofs.Common.{List, [], ◌∷◌, ◌++◌, length, Some, None, refl, ap, ◌∙◌, sym, arith, eqb, ⊎_elim}
use Rattle.std.specs.Prelude.{Option, is_some, ◌||◌, ◌&&◌, ◌==◌, if◌then◌else◌}
use Rattle.std.specs.Option.{option_map}
use Rattle.std.specs.List.{list_any}
use Rattle.std.specs.Cmp.{nat_cmp_total}
use Rattle.std.specs.FinMap.{get, insert, contains_key, gets, same_map, nat_cmp-IsAntisymmetric}
use Rattle.std.proofs.lemmas.Bool.{cases_Bool}
use Rattle.std.proofs.lemmas.Bool.Decides.{eqb_tells}
use Rattle.std.proofs.lemmas.List.Folds.{list_any-append}
use Rattle.std.proofs.lemmas.Grind.{common_steps}
use Rattle.sl_model.specs.Pages.{Pages, ArePages}
use Rattle.sl_model.proofs.WholePages.{set_page}
use Rattle.page_frames.specs.MarkedPages.{MarkedPages, mark, with_bytes}
use Rattle.page_frames.proofs.Marking.{mark_bytes-in_page}
use Rattle.rec_format.specs.declared.recording.ListedPage.{ListedPage}
use Rattle.rec_format.specs.Recorded.{is_listed, last_listing, put_all_listed}
use Rattle.rec_format.proofs.RecordedStates.{get-put_all_listed}
use Rattle.checkpoints.specs.Putting.{ArePut}
use Rattle.checkpoints.proofs.Marked.{unlisted}

-- ---- one listing before others

listed_by : (p page : ℕ) (bytes held : List ℕ) (b : Bool) → (p == page) ≡ b → b ≡ false
    → (if p == page then bytes else held) ≡ held
listed_by p page bytes held b is other = rw (is ∙ other) refl

-- it does not matter to another page
other_listing : (x : ListedPage) (later : List ListedPage) (held : List ℕ) (page : ℕ) → (x.number == page) ≡ false
    → last_listing held (x ∷ later) page ≡ last_listing held later page
other_listing x later held page other = rw other refl

last_by : (p : ListedPage) (a b : List ℕ) (ps : List ListedPage) (page : ℕ) (here : Bool) → (p.number == page) ≡ here
    → (here ≡ false → last_listing a ps page ≡ last_listing b ps page)
    → last_listing (if p.number == page then p.bytes else a) ps page
    ≡ last_listing (if p.number == page then p.bytes else b) ps page
last_by p a b ps page true is rest = rw is refl
last_by p a b ps page false is rest = rw is (rest refl)

-- nor to its own where that is listed later
pub last_of_later : (a b : List ℕ) (later : List ListedPage) (page : ℕ) → is_listed later page ≡ true
    → last_listing a later page ≡ last_listing b later page
last_of_later a b [] page is = absurd cc
last_of_later a b (p ∷ ps) page is =
    last_by p a b ps page (p.number == page) refl (λ (other : (p.number == page) ≡ false). last_of_later a b ps page (rw other at is))

same_by : (o : Option (List ℕ)) (f g : List ℕ → List ℕ) → (is_some o ≡ true → (held : List ℕ) → f held ≡ g held)
    → option_map f o ≡ option_map g o
same_by None f g same = refl
same_by (Some held) f g same = ap Some (same refl held)

-- a listing that changes nothing
passed_over : (before : Pages) (x : ListedPage) (later : List ListedPage)
    → ((page : ℕ) → is_some (get before page) ≡ true → (held : List ℕ)
    → last_listing held (x ∷ later) page ≡ last_listing held later page)
    → put_all_listed before (x ∷ later) ≡ put_all_listed before later
passed_over before x later same = same_map nat_cmp_total nat_cmp-IsAntisymmetric _ _ (λ page.
    get-put_all_listed before (x ∷ later) page
    ∙ same_by (get before page) (λ held. last_listing held (x ∷ later) page) (λ held. last_listing held later page) (same page)
    ∙ sym (get-put_all_listed before later page))

get-insert_page : (pages : Pages) (number : ℕ) (page : List ℕ) (q : ℕ)
    → get (insert pages number page) q ≡ cond (eqb number q) (Some page) (get pages q)
get-insert_page pages number page q = grind (arith, gets, common_steps)

mapped_by : (o : Option (List ℕ)) (f : List ℕ → List ℕ) → is_some (option_map f o) ≡ is_some o
mapped_by None f = refl
mapped_by (Some held) f = refl

-- the same pages are mapped
mapped_put : (before : Pages) (listed : List ListedPage) (page : ℕ)
    → contains_key (put_all_listed before listed) page ≡ contains_key before page
mapped_put before listed page =
    ap is_some (get-put_all_listed before listed page)
    ∙ mapped_by (get before page) (λ held. last_listing held listed page)

written_by : (o : Option (List ℕ)) (f : List ℕ → List ℕ) (bytes : List ℕ) → is_some o ≡ true
    → ((held : List ℕ) → f held ≡ bytes) → Some bytes ≡ option_map f o
written_by None f bytes some same = absurd cc
written_by (Some held) f bytes some same = ap Some (sym (same held))

-- a listing of a page that is not listed later
put_first : (before : Pages) (x : ListedPage) (later : List ListedPage) → contains_key before x.number ≡ true
    → is_listed later x.number ≡ false
    → insert (put_all_listed before later) x.number x.bytes ≡ put_all_listed before (x ∷ later)
put_first before x later mapped fresh = same_map nat_cmp_total nat_cmp-IsAntisymmetric _ _ (λ q. ⊎_elim
    (λ (same : (eqb x.number q ≡ true) × (x.number ≡ q)).
    get-insert_page (put_all_listed before later) x.number x.bytes q ∙ rw same.0
    (written_by (get before q) (λ held. last_listing held (x ∷ later) q) x.bytes (rw (← same.1) mapped)
    (λ held. rw same.0 (unlisted x.bytes later q (rw (← same.1) fresh))) ∙ sym (get-put_all_listed before (x ∷ later) q)))
    (λ (differ : (eqb x.number q ≡ false) × (x.number ≢ q)).
    get-insert_page (put_all_listed before later) x.number x.bytes q ∙ rw differ.0
    (get-put_all_listed before later q
    ∙ same_by (get before q) (λ held. last_listing held later q) (λ held. last_listing held (x ∷ later) q)
    (λ some held. sym (other_listing x later held q differ.0))
    ∙ sym (get-put_all_listed before (x ∷ later) q)))
    (eqb_tells x.number q))

-- ---- a page that is passed over

itself : (n : ℕ) → eqb n n ≡ true
itself n = grind (arith, common_steps)

unmapped_marks : (a b c : Bool) → (a ≡ true → c ≡ false) → (b && c) ≡ ((a || b) && c)
unmapped_marks true true true none = absurd (let e = none refl in cc)
unmapped_marks true true false none = refl
unmapped_marks true false true none = absurd (let e = none refl in cc)
unmapped_marks true false false none = refl
unmapped_marks false b c none = refl

put_unmapped_by : (before : Pages) (x : ListedPage) (page : ℕ) → contains_key before x.number ≡ false
    → (x.number == page) ≡ true → contains_key before page ≡ false
put_unmapped_by before x page none same =
    let here : x.number ≡ page = grind (arith, common_steps) in
    rw (← here) none

apart_by : (before : Pages) (x : ListedPage) (page : ℕ) → contains_key before x.number ≡ false
    → is_some (get before page) ≡ true → (x.number == page) ≡ false
apart_by before x page none some = ⊎_elim
    (λ (same : (x.number == page) ≡ true).
    let other = put_unmapped_by before x page none same in absurd cc)
    (λ (differ : (x.number == page) ≡ false). differ)
    (cases_Bool (x.number == page))

-- one that is not mapped
pub put-unmapped : (before : Pages) (x : ListedPage) (later : List ListedPage) (memory : MarkedPages)
    → ArePut before later memory → contains_key memory.pages x.number ≡ false → ArePut before (x ∷ later) memory
put-unmapped before x later memory are none =
    let absent : contains_key before x.number ≡ false =
    sym (mapped_put before later x.number) ∙ ap (λ p. contains_key p x.number) (sym are.pages) ∙ none in
    record {
      pages = are.pages ∙ sym (passed_over before x later (λ page some held.
          other_listing x later held page (apart_by before x page absent some)));
      marked = λ page. are.marked page ∙ unmapped_marks (x.number == page) (is_listed later page)
          (contains_key before page) (put_unmapped_by before x page absent);
    }

listed_marks : (a b c : Bool) → (a ≡ true → (b && c) ≡ true) → (b && c) ≡ ((a || b) && c)
listed_marks true true c is = refl
listed_marks true false c is = absurd (let e = is refl in cc)
listed_marks false b c is = refl

and_left : (b c : Bool) → (b && c) ≡ true → b ≡ true
and_left true c e = refl
and_left false c e = absurd cc

-- one with a later listing
pub put-later : (before : Pages) (x : ListedPage) (later : List ListedPage) (memory : MarkedPages)
    → ArePut before later memory → list_any (eqb x.number) memory.dirty ≡ true → ArePut before (x ∷ later) memory
put-later before x later memory are dirty =
    let here : (is_listed later x.number && contains_key before x.number) ≡ true = sym (are.marked x.number) ∙ dirty in
    let listed : is_listed later x.number ≡ true = and_left (is_listed later x.number) (contains_key before x.number) here in
    record {
      pages = are.pages ∙ sym (passed_over before x later (λ page some held. ⊎_elim
          (λ (same : (eqb x.number page ≡ true) × (x.number ≡ page)).
          rw same.0 (last_of_later x.bytes held later page (rw (← same.1) listed)))
          (λ (differ : (eqb x.number page ≡ false) × (x.number ≢ page)). other_listing x later held page differ.0)
          (eqb_tells x.number page)));
      marked = λ page. are.marked page ∙ listed_marks (x.number == page) (is_listed later page)
          (contains_key before page) (λ same.
          let number : x.number ≡ page = grind (arith, common_steps) in
          rw (← number) here);
    }

-- ---- a page that is written

flip : (x y : ℕ) → eqb x y ≡ eqb y x
flip x y = grind (arith, common_steps)

marked_more : (n q : ℕ) (dirty : List ℕ) → list_any (eqb n) dirty ≡ false
    → list_any (eqb q) (mark dirty n) ≡ (eqb n q || list_any (eqb q) dirty)
marked_more n q dirty fresh =
    let more : mark dirty n ≡ dirty ++ n ∷ [] = rw fresh refl in
    ap (list_any (eqb q)) more ∙ grind (arith, common_steps, list_any-append {X = ℕ}, flip q n)

written_marks : (a b c : Bool) → (a ≡ true → c ≡ true) → (a || (b && c)) ≡ ((a || b) && c)
written_marks true true true some = refl
written_marks true false true some = refl
written_marks true b false some = absurd (let e = some refl in cc)
written_marks false b c some = refl

pub some_page : (o : Option (List ℕ)) → is_some o ≡ true → (page : List ℕ) × (o ≡ Some page)
some_page None is = absurd cc
some_page (Some page) is = (page, refl)

fresh_by : (b c : Bool) → (b && c) ≡ false → c ≡ true → b ≡ false
fresh_by true c e some = absurd cc
fresh_by false c e some = refl

-- one that is mapped and has no later listing
pub put-written : (before : Pages) (x : ListedPage) (later : List ListedPage) (old new : MarkedPages)
    → ArePut before later old → ArePages old.pages → contains_key old.pages x.number ≡ true
    → list_any (eqb x.number) old.dirty ≡ false → length x.bytes ≡ 4096
    → new ≡ with_bytes old (x.number * 4096) x.bytes → ArePut before (x ∷ later) new
put-written before x later old new are whole mapped clean long is =
    let n = x.number in
    let was = some_page (get old.pages n) mapped in
    let stood : contains_key before n ≡ true =
    sym (mapped_put before later n) ∙ ap (λ p. contains_key p n) (sym are.pages) ∙ mapped in
    let fresh : is_listed later n ≡ false =
    fresh_by (is_listed later n) (contains_key before n) (sym (are.marked n) ∙ clean) stood in
    let place : n * 4096 / 4096 ≡ n = omega arith in
    let rest : n * 4096 % 4096 ≡ 0 = omega arith in
    let marks : new.dirty ≡ mark old.dirty n =
    ap (λ m. m.dirty) is
    ∙ mark_bytes-in_page old.dirty (n * 4096) (length x.bytes) (omega (arith, long)) (omega (arith, long, rest))
    ∙ ap (mark old.dirty) place in
    record {
      pages = ap (λ m. m.pages) is ∙ set_page old.pages n was.0 x.bytes whole was.1 long
          ∙ ap (λ p. insert p n x.bytes) are.pages ∙ put_first before x later stood fresh;
      marked = λ q. ap (list_any (eqb q)) marks ∙ marked_more n q old.dirty clean
          ∙ ap (λ b. eqb n q || b) (are.marked q)
          ∙ written_marks (eqb n q) (is_listed later q) (contains_key before q) (λ same.
          let number : n ≡ q = grind (arith, common_steps) in
          rw (← number) stood);
    }

-- ---- all listings

pub put-none : (memory : MarkedPages) → memory.dirty ≡ [] → ArePut memory.pages [] memory
unfolding put_all_listed
put-none memory clean = record { pages = refl; marked = λ page. rw clean refl }
