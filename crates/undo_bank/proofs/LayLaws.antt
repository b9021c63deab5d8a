-- What follows from the definition of an area that lies over other memory.
use Rattle.std.specs.Prelude.{Option, IfSome, IsSome, is_some, unwrap_or, ◌⊎◌}
use Rattle.std.specs.List.{All}
use Rattle.std.specs.Option.{option_and_then, option_map}
use Rattle.std.specs.Cmp.{nat_cmp_total}
use Rattle.std.specs.FinMap.{get, insert, gets, same_map, nat_cmp-IsAntisymmetric}
use Rattle.std.proofs.Common.{◌≡◌, ℕ, zero, suc, ◌+◌, ◌*◌, ◌-◌, ◌/◌, ◌%◌, ◌^◌, ◌<◌, ◌≤◌, ◌≢◌, List, [], ◌∷◌, length, take, drop, Some, None, refl, ap, ◌∙◌, sym, subst, arith, inl, inr, ⊎_elim, get_or, slice_set, slice_get}
use Rattle.std.proofs.Math.ListN.{length-set}
use Rattle.std.proofs.lemmas.Bool.{cases_eq, cases_lt}
use Rattle.std.proofs.lemmas.Grind.{common_steps}
use Rattle.std.proofs.lemmas.List.{drop-drop, get_or-take, get_or-drop, ext_get_or, length-take-le, length-drop, get_or-set_same, get_or-set_other}
use Rattle.std.proofs.lemmas.List.Elements.{All-take, All-drop}
use Rattle.std.proofs.lemmas.Option.{slice_get-get_or, slice_get_past}
use Rattle.sl_model.specs.Pages.{Pages, ArePages, byte_at, set_byte, set_bytes, put_bytes}
use Rattle.sl_model.specs.Stores.{IsElsewhere}
use Rattle.sl_model.proofs.PagesLaws.{AreWhole}
use Rattle.sl_model.proofs.WholePages.{AreWhole-insert, AreWhole-set_bytes}
use Rattle.sl_model.proofs.Memory.{ArePages-insert, byte_at-set_byte, byte_at-set_byte_other}
use Rattle.undo_bank.specs.Areas.{lay, lay_at}

-- ---- memories with the same bytes

same_page : (p q : Option (List ℕ)) → IfSome p (λ page. length page ≡ 4096) → IfSome q (λ page. length page ≡ 4096)
    → ((offset : ℕ) → offset < 4096 → option_and_then (λ page. slice_get page offset) p ≡ option_and_then (λ page. slice_get page offset) q) → p ≡ q
same_page None None first second same = refl
same_page None (Some b) first second same =
    let stands : slice_get b 0 ≡ Some (get_or b 0 0) = slice_get-get_or b 0 0 (omega arith) in
    let none : None ≡ slice_get b 0 = same 0 (omega arith) in
    absurd cc
same_page (Some a) None first second same =
    let stands : slice_get a 0 ≡ Some (get_or a 0 0) = slice_get-get_or a 0 0 (omega arith) in
    let none : slice_get a 0 ≡ None = same 0 (omega arith) in
    absurd cc
same_page (Some a) (Some b) first second same = ap Some (ext_get_or 0 a b (omega arith) (λ i below.
    let left : slice_get a i ≡ Some (get_or a i 0) = slice_get-get_or a i 0 below in
    let right : slice_get b i ≡ Some (get_or b i 0) = slice_get-get_or b i 0 (omega arith) in
    let both : slice_get a i ≡ slice_get b i = same i (omega arith) in
    cc))

-- memories of whole pages whose bytes are the same are one
pub same_memory : (p q : Pages) → AreWhole p → AreWhole q → ((address : ℕ) → byte_at p address ≡ byte_at q address) → p ≡ q
unfolding byte_at
same_memory p q first second same = same_map nat_cmp_total nat_cmp-IsAntisymmetric p q (λ number.
    same_page (get p number) (get q number) (first number) (second number) (λ offset below.
    let quotient : (4096 * number + offset) / 4096 ≡ number = omega arith in
    let rest : (4096 * number + offset) % 4096 ≡ offset = omega arith in
    let here = same (4096 * number + offset) in
    rw (quotient, rest) at here))

-- ---- the pages of an area

get-insert_here : (pages : Pages) (number q : ℕ) (page : List ℕ) → q ≡ number → get (insert pages number page) q ≡ Some page
get-insert_here pages number q page same = grind (arith, gets, common_steps, same)

get-insert_other : (pages : Pages) (number q : ℕ) (page : List ℕ) → q ≢ number → get (insert pages number page) q ≡ get pages q
get-insert_other pages number q page apart = grind (arith, gets, common_steps, apart)

-- the page of an index
pub get-lay : (first count : ℕ) (bytes : List ℕ) (pages : Pages) (index : ℕ) → index < count → get (lay first count bytes pages) (first + index) ≡ Some (take 4096 (drop (4096 * index) bytes))
unfolding lay
get-lay first zero bytes pages index below = absurd (omega arith)
get-lay first (suc count) bytes pages zero below = get-insert_here (lay (first + 1) count (drop 4096 bytes) pages) first (first + 0) (take 4096 bytes) (omega arith)
get-lay first (suc count) bytes pages (suc index) below =
    let next : first + suc index ≡ first + 1 + index = omega arith in
    let place : 4096 + 4096 * index ≡ 4096 * suc index = omega arith in
    get-insert_other (lay (first + 1) count (drop 4096 bytes) pages) first (first + suc index) (take 4096 bytes) (λ same. omega arith)
    ∙ ap (get (lay (first + 1) count (drop 4096 bytes) pages)) next ∙ get-lay (first + 1) count (drop 4096 bytes) pages index (omega arith)
    ∙ ap (λ l. Some (take 4096 l)) (drop-drop (4096 * index) 4096 bytes ∙ ap (λ n. drop n bytes) place)

-- a page elsewhere
pub get-lay_elsewhere : (first count : ℕ) (bytes : List ℕ) (pages : Pages) (number : ℕ) → IsElsewhere first count number → get (lay first count bytes pages) number ≡ get pages number
unfolding lay
get-lay_elsewhere first zero bytes pages number outside = refl
get-lay_elsewhere first (suc count) bytes pages number outside =
    let apart : number ≢ first = λ same. ⊎_elim (λ (before : number < first). omega arith) (λ (behind : first + suc count ≤ number). omega arith) outside in
    let rest : IsElsewhere (first + 1) count number = ⊎_elim (λ (before : number < first). inl (omega arith)) (λ (behind : first + suc count ≤ number). inr (omega arith)) outside in
    get-insert_other (lay (first + 1) count (drop 4096 bytes) pages) first number (take 4096 bytes) apart ∙ get-lay_elsewhere (first + 1) count (drop 4096 bytes) pages number rest

AreWhole-lay : (first count : ℕ) (bytes : List ℕ) (pages : Pages) → length bytes ≡ 4096 * count → AreWhole pages → AreWhole (lay first count bytes pages)
unfolding lay
AreWhole-lay first zero bytes pages long whole = whole
AreWhole-lay first (suc count) bytes pages long whole =
    AreWhole-insert (lay (first + 1) count (drop 4096 bytes) pages) first (take 4096 bytes)
    (AreWhole-lay (first + 1) count (drop 4096 bytes) pages (omega (arith, length-drop 4096 bytes)) whole)
    (length-take-le 4096 bytes (omega arith))

pub AreWhole-lay_at : (start : ℕ) (bytes : List ℕ) (pages : Pages) → length bytes % 4096 ≡ 0 → AreWhole pages → AreWhole (lay_at start bytes pages)
AreWhole-lay_at start bytes pages long whole = AreWhole-lay (start / 4096) (length bytes / 4096) bytes pages (omega arith) whole

ArePages-lay : (first count : ℕ) (bytes : List ℕ) (pages : Pages) → length bytes ≡ 4096 * count → All (λ b. b < 256) bytes → first + count ≤ 2 ^ 20 → ArePages pages → ArePages (lay first count bytes pages)
unfolding lay
ArePages-lay first zero bytes pages long all below are = are
ArePages-lay first (suc count) bytes pages long all below are =
    ArePages-insert (lay (first + 1) count (drop 4096 bytes) pages) first (take 4096 bytes)
    (ArePages-lay (first + 1) count (drop 4096 bytes) pages (omega (arith, length-drop 4096 bytes)) (All-drop (λ b. b < 256) 4096 bytes all) (omega arith) are)
    (omega arith)
    (record { whole = length-take-le 4096 bytes (omega arith); bytes = All-take (λ b. b < 256) 4096 bytes all })

pub ArePages-lay_at : (start : ℕ) (bytes : List ℕ) (pages : Pages) → length bytes % 4096 ≡ 0 → All (λ b. b < 256) bytes → start + length bytes ≤ 2 ^ 32 → ArePages pages → ArePages (lay_at start bytes pages)
ArePages-lay_at start bytes pages long all below are = ArePages-lay (start / 4096) (length bytes / 4096) bytes pages (omega arith) all (omega arith) are

-- ---- its bytes

byte_of_page : (bytes : List ℕ) (i : ℕ) → length bytes % 4096 ≡ 0 → i < length bytes → slice_get (take 4096 (drop (4096 * (i / 4096)) bytes)) (i % 4096) ≡ slice_get bytes i
byte_of_page bytes i long below =
    let rest : List ℕ = drop (4096 * (i / 4096)) bytes in
    let whole : 4096 ≤ length rest = omega (arith, length-drop (4096 * (i / 4096)) bytes) in
    let place : 4096 * (i / 4096) + i % 4096 ≡ i = omega arith in
    slice_get-get_or (take 4096 rest) (i % 4096) 0 (omega (arith, length-take-le 4096 rest whole))
    ∙ ap Some (get_or-take 4096 rest (i % 4096) 0 (omega arith) ∙ get_or-drop (4096 * (i / 4096)) bytes (i % 4096) 0 ∙ ap (λ n. get_or bytes n 0) place)
    ∙ sym (slice_get-get_or bytes i 0 below)

-- a byte of the area
pub byte_at-lay_at : (start : ℕ) (bytes : List ℕ) (pages : Pages) (i : ℕ) → start % 4096 ≡ 0 → length bytes % 4096 ≡ 0 → i < length bytes → byte_at (lay_at start bytes pages) (start + i) ≡ slice_get bytes i
unfolding byte_at
byte_at-lay_at start bytes pages i aligned long below =
    let quotient : (start + i) / 4096 ≡ start / 4096 + i / 4096 = omega arith in
    let rest : (start + i) % 4096 ≡ i % 4096 = omega arith in
    rw (quotient, rest, get-lay (start / 4096) (length bytes / 4096) bytes pages (i / 4096) (omega arith)) (byte_of_page bytes i long below)

-- a byte elsewhere
pub byte_at-lay_elsewhere : (start : ℕ) (bytes : List ℕ) (pages : Pages) (address : ℕ) → start % 4096 ≡ 0 → length bytes % 4096 ≡ 0 → IsElsewhere start (length bytes) address → byte_at (lay_at start bytes pages) address ≡ byte_at pages address
unfolding byte_at
byte_at-lay_elsewhere start bytes pages address aligned long outside =
    let there : IsElsewhere (start / 4096) (length bytes / 4096) (address / 4096) = ⊎_elim (λ (before : address < start). inl (omega arith)) (λ (behind : start + length bytes ≤ address). inr (omega arith)) outside in
    rw (get-lay_elsewhere (start / 4096) (length bytes / 4096) bytes pages (address / 4096) there) refl

-- ---- bytes that are written

set_whole : (pages : Pages) (address b : ℕ) → AreWhole pages → AreWhole (set_byte pages address b)
unfolding set_bytes
set_whole pages address b whole = AreWhole-set_bytes pages address (b ∷ []) whole

get-set : (bytes : List ℕ) (i j b : ℕ) → j ≢ i → slice_get (slice_set bytes i b) j ≡ slice_get bytes j
get-set bytes i j b apart = ⊎_elim
    (λ (inside : j < length bytes).
    slice_get-get_or (slice_set bytes i b) j 0 (omega (arith, length-set bytes i b)) ∙ ap Some (get_or-set_other bytes i j b 0 apart) ∙ sym (slice_get-get_or bytes j 0 inside))
    (λ (past : length bytes ≤ j). slice_get_past (slice_set bytes i b) j (omega (arith, length-set bytes i b)) ∙ sym (slice_get_past bytes j past))
    (cases_lt j (length bytes))

get-set_here : (bytes : List ℕ) (i b : ℕ) → i < length bytes → slice_get (slice_set bytes i b) i ≡ Some b
get-set_here bytes i b below = slice_get-get_or (slice_set bytes i b) i 0 (omega (arith, length-set bytes i b)) ∙ ap Some (get_or-set_same bytes i b 0 below)

-- a place of the area, or one elsewhere
data Place (start size address : ℕ) : Type 0 where
  Inside : (i : ℕ) → i < size → start + i ≡ address → Place start size address
  Elsewhere : IsElsewhere start size address → Place start size address

place : (start size address : ℕ) → Place start size address
place start size address = ⊎_elim
    (λ (before : address < start). Elsewhere (inl before))
    (λ (from : start ≤ address). ⊎_elim
    (λ (inside : address < start + size). Inside (address - start) (omega arith) (omega arith))
    (λ (behind : start + size ≤ address). Elsewhere (inr behind))
    (cases_lt address (start + size)))
    (cases_lt address start)

-- to write a byte of the area changes its bytes
set_byte-lay_at : (start : ℕ) (bytes : List ℕ) (pages : Pages) (i b : ℕ) → start % 4096 ≡ 0 → length bytes % 4096 ≡ 0 → AreWhole pages → i < length bytes
    → set_byte (lay_at start bytes pages) (start + i) b ≡ lay_at start (slice_set bytes i b) pages
set_byte-lay_at start bytes pages i b aligned long whole below =
    same_memory (set_byte (lay_at start bytes pages) (start + i) b) (lay_at start (slice_set bytes i b) pages)
    (set_whole (lay_at start bytes pages) (start + i) b (AreWhole-lay_at start bytes pages long whole)) (AreWhole-lay_at start (slice_set bytes i b) pages long_still whole)
    (λ address. of address (place start (length bytes) address))
  where
    long_still : length (slice_set bytes i b) % 4096 ≡ 0
    long_still = omega (arith, length-set bytes i b)

    stands : IsSome (byte_at (lay_at start bytes pages) (start + i))
    stands = ap is_some (byte_at-lay_at start bytes pages i aligned long below ∙ slice_get-get_or bytes i 0 below)

    same_place : (j : ℕ) → j < length bytes → byte_at (set_byte (lay_at start bytes pages) (start + i) b) (start + j) ≡ slice_get (slice_set bytes i b) j
    same_place j inside = ⊎_elim
        (λ (same : j ≡ i). subst (λ (k : ℕ). byte_at (set_byte (lay_at start bytes pages) (start + i) b) (start + k) ≡ slice_get (slice_set bytes i b) k) (sym same)
        (byte_at-set_byte (lay_at start bytes pages) (start + i) b stands ∙ sym (get-set_here bytes i b below)))
        (λ (apart : j ≢ i). byte_at-set_byte_other (lay_at start bytes pages) (start + i) (start + j) b (λ same. apart (omega arith))
        ∙ byte_at-lay_at start bytes pages j aligned long inside ∙ sym (get-set bytes i j b apart))
        (cases_eq j i)

    of : (address : ℕ) → Place start (length bytes) address → byte_at (set_byte (lay_at start bytes pages) (start + i) b) address ≡ byte_at (lay_at start (slice_set bytes i b) pages) address
    of address (Inside j inside at) = subst (λ (a : ℕ). byte_at (set_byte (lay_at start bytes pages) (start + i) b) a ≡ byte_at (lay_at start (slice_set bytes i b) pages) a) at
        (same_place j inside ∙ sym (byte_at-lay_at start (slice_set bytes i b) pages j aligned long_still (omega (arith, length-set bytes i b))))
    of address (Elsewhere outside) =
        let apart : address ≢ start + i = λ same. ⊎_elim (λ (before : address < start). omega arith) (λ (behind : start + length bytes ≤ address). omega arith) outside in
        let outside_still : IsElsewhere start (length (slice_set bytes i b)) address = rw (length-set bytes i b) outside in
        byte_at-set_byte_other (lay_at start bytes pages) (start + i) address b apart ∙ byte_at-lay_elsewhere start bytes pages address aligned long outside
        ∙ sym (byte_at-lay_elsewhere start (slice_set bytes i b) pages address aligned long_still outside_still)

insert_comm : (pages : Pages) (m n : ℕ) (p q : List ℕ) → m ≢ n → insert (insert pages m p) n q ≡ insert (insert pages n q) m p
insert_comm pages m n p q apart = same_map nat_cmp_total nat_cmp-IsAntisymmetric _ _ (λ k. grind (arith, gets, common_steps, apart))

insert-lay : (first count : ℕ) (bytes : List ℕ) (pages : Pages) (number : ℕ) (page : List ℕ) → IsElsewhere first count number → insert (lay first count bytes pages) number page ≡ lay first count bytes (insert pages number page)
unfolding lay
insert-lay first zero bytes pages number page outside = refl
insert-lay first (suc count) bytes pages number page outside =
    let apart : first ≢ number = λ same. ⊎_elim (λ (before : number < first). omega arith) (λ (behind : first + suc count ≤ number). omega arith) outside in
    let rest : IsElsewhere (first + 1) count number = ⊎_elim (λ (before : number < first). inl (omega arith)) (λ (behind : first + suc count ≤ number). inr (omega arith)) outside in
    insert_comm (lay (first + 1) count (drop 4096 bytes) pages) first number (take 4096 bytes) page apart
    ∙ ap (λ (p : Pages). insert p first (take 4096 bytes)) (insert-lay (first + 1) count (drop 4096 bytes) pages number page rest)

replaced_below : (first count : ℕ) (bytes : List ℕ) (pages : Pages) (number : ℕ) (change : List ℕ → List ℕ) (page : Option (List ℕ)) → IsElsewhere first count number
    → unwrap_or (option_map (λ p. insert (lay first count bytes pages) number (change p)) page) (lay first count bytes pages)
    ≡ lay first count bytes (unwrap_or (option_map (λ p. insert pages number (change p)) page) pages)
replaced_below first count bytes pages number change None outside = refl
replaced_below first count bytes pages number change (Some page) outside = insert-lay first count bytes pages number (change page) outside

-- and to write one elsewhere changes the other memory
set_byte-lay_elsewhere : (start : ℕ) (bytes : List ℕ) (pages : Pages) (address b : ℕ) → start % 4096 ≡ 0 → length bytes % 4096 ≡ 0 → IsElsewhere start (length bytes) address
    → set_byte (lay_at start bytes pages) address b ≡ lay_at start bytes (set_byte pages address b)
unfolding set_byte
set_byte-lay_elsewhere start bytes pages address b aligned long outside =
    let there : IsElsewhere (start / 4096) (length bytes / 4096) (address / 4096) = ⊎_elim (λ (before : address < start). inl (omega arith)) (λ (behind : start + length bytes ≤ address). inr (omega arith)) outside in
    rw (get-lay_elsewhere (start / 4096) (length bytes / 4096) bytes pages (address / 4096) there)
    (replaced_below (start / 4096) (length bytes / 4096) bytes pages (address / 4096) (λ p. slice_set p (address % 4096) b) (get pages (address / 4096)) there)

-- the same with some bytes
pub set_bytes-lay_at : (start : ℕ) (bytes : List ℕ) (pages : Pages) (i : ℕ) (new : List ℕ) → start % 4096 ≡ 0 → length bytes % 4096 ≡ 0 → AreWhole pages → i + length new ≤ length bytes
    → set_bytes (lay_at start bytes pages) (start + i) new ≡ lay_at start (put_bytes bytes i new) pages
unfolding set_bytes put_bytes
set_bytes-lay_at start bytes pages i [] aligned long whole within = refl
set_bytes-lay_at start bytes pages i (b ∷ bs) aligned long whole within =
    let next : start + i + 1 ≡ start + (i + 1) = omega arith in
    ap (λ (p : Pages). set_bytes p (start + i + 1) bs) (set_byte-lay_at start bytes pages i b aligned long whole (omega arith))
    ∙ ap (λ a. set_bytes (lay_at start (slice_set bytes i b) pages) a bs) next
    ∙ set_bytes-lay_at start (slice_set bytes i b) pages (i + 1) bs aligned (omega (arith, length-set bytes i b)) whole (omega (arith, length-set bytes i b))

-- bytes lie before an area or behind it
abbrev pub AreElsewhere : ℕ → ℕ → ℕ → ℕ → Type 0
AreElsewhere start size address count = (address + count ≤ start) ⊎ (start + size ≤ address)

pub set_bytes-lay_elsewhere : (start : ℕ) (bytes : List ℕ) (pages : Pages) (address : ℕ) (new : List ℕ) → start % 4096 ≡ 0 → length bytes % 4096 ≡ 0 → AreElsewhere start (length bytes) address (length new)
    → set_bytes (lay_at start bytes pages) address new ≡ lay_at start bytes (set_bytes pages address new)
unfolding set_bytes
set_bytes-lay_elsewhere start bytes pages address [] aligned long outside = refl
set_bytes-lay_elsewhere start bytes pages address (b ∷ bs) aligned long outside =
    let first : IsElsewhere start (length bytes) address = ⊎_elim (λ (before : address + suc (length bs) ≤ start). inl (omega arith)) (λ (behind : start + length bytes ≤ address). inr behind) outside in
    let rest : AreElsewhere start (length bytes) (address + 1) (length bs) = ⊎_elim (λ (before : address + suc (length bs) ≤ start). inl (omega arith)) (λ (behind : start + length bytes ≤ address). inr (omega arith)) outside in
    ap (λ (p : Pages). set_bytes p (address + 1) bs) (set_byte-lay_elsewhere start bytes pages address b aligned long first)
    ∙ set_bytes-lay_elsewhere start bytes (set_byte pages address b) (address + 1) bs aligned long rest
