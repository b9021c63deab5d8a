-- What follows from the definitions of memory of one piece.
use Rattle.std.specs.Prelude.{nat_le, ◌⊎◌}
use Rattle.std.specs.List.{All}
use Rattle.std.proofs.Common.{◌≡◌, ℕ, ◌+◌, ◌*◌, ◌-◌, ◌%◌, ◌^◌, ◌<◌, ◌≤◌, ◌≢◌, List, [], ◌∷◌, ◌++◌, length, take, drop, replicate, Some, None, true, false, refl, ap, ◌∙◌, sym, arith, inl, inr, ⊎_elim, get_or, slice_set}
use Rattle.std.proofs.lemmas.Bool.{cases_lt, cases_eq}
use Rattle.std.proofs.lemmas.Bool.Decides.{nat_tests}
use Rattle.std.proofs.lemmas.List.{take-set-le, drop-set-lt, drop-take, get_or-set_other, take_at, drop_at, length-take-le, length-take, length-drop, length-append, length-replicate, get_or-replicate, get_or_past, get_or_append_left, get_or-append_right, get_or-drop, get_or-take, ext_get_or, drop-replicate, take-replicate}
use Rattle.std.proofs.lemmas.List.Elements.{All-replicate}
use Rattle.sl_model.specs.Pages.{from_bytes, low_bytes, put_bytes}
use Rattle.sl_model.proofs.PagesLaws.{length-low_bytes, All-low_bytes, length-put_bytes, All-put_bytes, put_bytes-between}
use Rattle.sl_model.proofs.Memory.{from_bytes-low_bytes}
use Rattle.undo_bank.specs.Dense.{load_in, store_in, HoldsWords}

within : (n m : ℕ) → n ≤ m → nat_le n m ≡ true
within n m le = grind (arith, nat_tests)

past : (n m : ℕ) → m < n → nat_le n m ≡ false
past n m lt = grind (arith, nat_tests)

-- ---- where bytes stand, and where they don't

pub load_in-within : (bytes : List ℕ) (offset width : ℕ) → offset + width ≤ length bytes → load_in bytes offset width ≡ Some (from_bytes (take width (drop offset bytes)))
unfolding load_in
load_in-within bytes offset width le = rw (within (offset + width) (length bytes) le) refl

pub load_in-past : (bytes : List ℕ) (offset width : ℕ) → length bytes < offset + width → load_in bytes offset width ≡ None
unfolding load_in
load_in-past bytes offset width lt = rw (past (offset + width) (length bytes) lt) refl

pub store_in-within : (bytes : List ℕ) (offset width value : ℕ) → offset + width ≤ length bytes → store_in bytes offset width value ≡ Some (put_bytes bytes offset (low_bytes width value))
unfolding store_in
store_in-within bytes offset width value le = rw (within (offset + width) (length bytes) le) refl

pub store_in-past : (bytes : List ℕ) (offset width value : ℕ) → length bytes < offset + width → store_in bytes offset width value ≡ None
unfolding store_in
store_in-past bytes offset width value lt = rw (past (offset + width) (length bytes) lt) refl

-- ---- bytes that are put into others

take-put : (page : List ℕ) (index : ℕ) (bytes : List ℕ) (count : ℕ) → count ≤ index → take count (put_bytes page index bytes) ≡ take count page
unfolding put_bytes
take-put page index [] count before = refl
take-put page index (b ∷ bs) count before = take-put (slice_set page index b) (index + 1) bs count (omega arith) ∙ take-set-le count page index b before

drop-put : (page : List ℕ) (index : ℕ) (bytes : List ℕ) (count : ℕ) → index + length bytes ≤ count → drop count (put_bytes page index bytes) ≡ drop count page
unfolding put_bytes
drop-put page index [] count behind = refl
drop-put page index (b ∷ bs) count behind = drop-put (slice_set page index b) (index + 1) bs count (omega arith) ∙ drop-set-lt count page index b (omega arith)

-- the bytes stand where they were put
taken-put : (page : List ℕ) (index : ℕ) (bytes : List ℕ) → index + length bytes ≤ length page → take (length bytes) (drop index (put_bytes page index bytes)) ≡ bytes
taken-put page index bytes inside =
    ap (λ l. take (length bytes) (drop index l)) (put_bytes-between page index bytes inside)
    ∙ ap (take (length bytes)) (drop_at (take index page) (bytes ++ drop (index + length bytes) page) index (length-take-le index page (omega arith)))
    ∙ take_at bytes (drop (index + length bytes) page) (length bytes) refl

-- a byte behind them stays
pub get_or-put : (page : List ℕ) (index : ℕ) (bytes : List ℕ) (other : ℕ) → index + length bytes ≤ other → get_or (put_bytes page index bytes) other 0 ≡ get_or page other 0
unfolding put_bytes
get_or-put page index [] other behind = refl
get_or-put page index (b ∷ bs) other behind = get_or-put (slice_set page index b) (index + 1) bs other (omega arith) ∙ get_or-set_other page index other b 0 (λ same. omega arith)

-- ---- what a store does

-- the bytes after a store
abbrev pub stored_in : List ℕ → ℕ → ℕ → ℕ → List ℕ
stored_in bytes offset width value = put_bytes bytes offset (low_bytes width value)

pub length-stored : (bytes : List ℕ) (offset width value : ℕ) → length (stored_in bytes offset width value) ≡ length bytes
length-stored bytes offset width value = length-put_bytes bytes offset (low_bytes width value)

pub All-stored : (bytes : List ℕ) (offset width value : ℕ) → All (λ b. b < 256) bytes → All (λ b. b < 256) (stored_in bytes offset width value)
All-stored bytes offset width value all = All-put_bytes (λ b. b < 256) bytes offset (low_bytes width value) all (All-low_bytes width value)

-- a load of what was stored gives it, modulo the numbers that so many bytes hold
pub load-stored : (bytes : List ℕ) (offset width value : ℕ) → offset + width ≤ length bytes → load_in (stored_in bytes offset width value) offset width ≡ Some (value % 256 ^ width)
load-stored bytes offset width value inside =
    let low : List ℕ = low_bytes width value in
    let long : length low ≡ width = length-low_bytes width value in
    let taken : take width (drop offset (put_bytes bytes offset low)) ≡ low = rw long at (taken-put bytes offset low (omega arith)) in
    load_in-within (stored_in bytes offset width value) offset width (omega (arith, length-stored bytes offset width value))
    ∙ ap (λ l. Some (from_bytes l)) taken ∙ ap Some (from_bytes-low_bytes width value)

-- what is loaded from elsewhere stays
pub load-elsewhere : (bytes : List ℕ) (offset width value other count : ℕ) → (other + count ≤ offset) ⊎ (offset + width ≤ other) → load_in (stored_in bytes offset width value) other count ≡ load_in bytes other count
load-elsewhere bytes offset width value other count outside = ⊎_elim
    (λ (inside : other + count ≤ length bytes).
    load_in-within (stored_in bytes offset width value) other count (omega (arith, length-stored bytes offset width value))
    ∙ ap (λ l. Some (from_bytes l)) same ∙ sym (load_in-within bytes other count inside))
    (λ (over : length bytes < other + count).
    load_in-past (stored_in bytes offset width value) other count (omega (arith, length-stored bytes offset width value)) ∙ sym (load_in-past bytes other count over))
    (sides (other + count) (length bytes))
  where
    sides : (n m : ℕ) → (n ≤ m) ⊎ (m < n)
    sides n m = ⊎_elim (λ (h : m < n). inr h) (λ (h : n ≤ m). inl h) (cases_lt m n)

    same : take count (drop other (stored_in bytes offset width value)) ≡ take count (drop other bytes)
    same = ⊎_elim
        (λ (before : other + count ≤ offset).
        sym (drop-take other count (stored_in bytes offset width value))
        ∙ ap (drop other) (take-put bytes offset (low_bytes width value) (other + count) before) ∙ drop-take other count bytes)
        (λ (behind : offset + width ≤ other).
        ap (take count) (drop-put bytes offset (low_bytes width value) other (omega (arith, length-low_bytes width value))))
        outside

-- ---- zeros

pub get_or-zeros : (n i : ℕ) → get_or {A = ℕ} (replicate n 0) i 0 ≡ 0
get_or-zeros n i = ⊎_elim
    (λ (inside : i < n). get_or-replicate n i 0 0 inside)
    (λ (past : n ≤ i). get_or_past (replicate n 0) i 0 (omega (arith, length-replicate {A = ℕ} n 0)))
    (cases_lt i n)

-- bytes that are 0 from an index on are zeros once those before it are made 0
pub zeros-cleared : (bytes : List ℕ) (count : ℕ) → count ≤ length bytes → ((i : ℕ) → count ≤ i → get_or bytes i 0 ≡ 0) → replicate {A = ℕ} count 0 ++ drop count bytes ≡ replicate (length bytes) 0
zeros-cleared bytes count inside none = ext_get_or 0 _ _ (omega (arith, length-append (replicate count 0) (drop count bytes), length-replicate {A = ℕ} count 0, length-drop count bytes, length-replicate {A = ℕ} (length bytes) 0)) (λ i inside. of i ∙ sym (get_or-zeros (length bytes) i))
  where
    of : (i : ℕ) → get_or (replicate count 0 ++ drop count bytes) i 0 ≡ 0
    of i = ⊎_elim
        (λ (before : i < count). get_or_append_left (replicate count 0) (drop count bytes) 0 i (omega (arith, length-replicate {A = ℕ} count 0)) ∙ get_or-zeros count i)
        (λ (behind : count ≤ i).
        let place : count + (i - count) ≡ i = omega arith in
        get_or-append_right (replicate count 0) (drop count bytes) count i 0 (length-replicate {A = ℕ} count 0) behind
        ∙ get_or-drop count bytes (i - count) 0 ∙ ap (λ n. get_or bytes n 0) place ∙ none i behind)
        (cases_lt i count)

-- ---- words

-- zeros hold no words
pub HoldsWords-zeros : (n : ℕ) → n % 4 ≡ 0 → HoldsWords [] (replicate n 0)
HoldsWords-zeros n whole index below =
    let long : length {A = ℕ} (replicate n 0) ≡ n = length-replicate {A = ℕ} n 0 in
    let inside : 4 * index + 4 ≤ n = omega arith in
    let left : 4 ≤ n - 4 * index = omega arith in
    load_in-within (replicate n 0) (4 * index) 4 (omega arith)
    ∙ ap (λ l. Some (from_bytes (take 4 l))) (drop-replicate (4 * index) n 0)
    ∙ ap (λ l. Some (from_bytes l)) (take-replicate 4 (n - 4 * index) 0 left)

other_word : (words : List ℕ) (k index : ℕ) → index ≢ k → get_or (take (k + 1) words) index 0 ≡ get_or (take k words) index 0
other_word words k index apart = ⊎_elim
    (λ (before : index < k). get_or-take (k + 1) words index 0 (omega arith) ∙ sym (get_or-take k words index 0 before))
    (λ (from : k ≤ index).
    let behind : k < index = omega arith in
    get_or_past (take (k + 1) words) index 0 (omega (arith, length-take (k + 1) words)) ∙ sym (get_or_past (take k words) index 0 (omega (arith, length-take k words))))
    (cases_lt index k)

-- one more word
pub HoldsWords-more : (words bytes : List ℕ) (k : ℕ) → 4 * k + 4 ≤ length bytes → get_or words k 0 < 2 ^ 32 → HoldsWords (take k words) bytes → HoldsWords (take (k + 1) words) (stored_in bytes (4 * k) 4 (get_or words k 0))
HoldsWords-more words bytes k inside small holds index below = ⊎_elim
    (λ (same : index ≡ k).
    let whole : get_or words k 0 % 256 ^ 4 ≡ get_or words k 0 = omega arith in
    rw same (load-stored bytes (4 * k) 4 (get_or words k 0) inside ∙ ap Some (whole ∙ sym (get_or-take (k + 1) words k 0 (omega arith)))))
    (λ (apart : index ≢ k).
    let sides : (4 * index + 4 ≤ 4 * k) ⊎ (4 * k + 4 ≤ 4 * index) = ⊎_elim (λ (before : index < k). inl (omega arith)) (λ (from : k ≤ index). inr (omega arith)) (cases_lt index k) in
    load-elsewhere bytes (4 * k) 4 (get_or words k 0) (4 * index) 4 sides
    ∙ holds index (omega (arith, length-stored bytes (4 * k) 4 (get_or words k 0))) ∙ ap Some (sym (other_word words k index apart)))
    (cases_eq index k)

-- bytes that are all 0 hold no words
pub HoldsWords-zero : (bytes : List ℕ) → length bytes % 4 ≡ 0 → bytes ≡ replicate (length bytes) 0 → HoldsWords [] bytes
HoldsWords-zero bytes whole zeros = rw zeros (HoldsWords-zeros (length bytes) whole)

pub All-zero : (bytes : List ℕ) → bytes ≡ replicate (length bytes) 0 → All (λ b. b < 256) bytes
All-zero bytes zeros = rw zeros (All-replicate (λ b. b < 256) (length bytes) 0 (omega arith))
