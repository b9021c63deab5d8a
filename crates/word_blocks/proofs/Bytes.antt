-- Memory by bytes: what a load takes from them, what a store makes of them, and pages from them.
use Rattle.std.specs.Prelude.{Option, IfSome, is_some, ◌&&◌, ◌⊎◌}
use Rattle.std.specs.Option.{option_and_then, option_map}
use Rattle.std.specs.FinMap.{get}
use Rattle.std.proofs.Common.{◌≡◌, ℕ, zero, suc, ◌+◌, ◌*◌, ◌/◌, ◌%◌, ◌^◌, ◌<◌, ◌≤◌, inl, inr, ⊎_elim, List, length, Some, None, refl, ap, ◌∙◌, sym, subst, arith, get_or}
use Rattle.std.proofs.lemmas.Bool.{cases_eq}
use Rattle.std.proofs.lemmas.List.{ext_get_or}
use Rattle.std.proofs.lemmas.Option.{slice_get-get_or}
use Rattle.sl_model.specs.Pages.{Pages, ArePages, byte_at, bytes_at, load_at}
use Rattle.sl_model.specs.Stores.{IsStored}
use Rattle.sl_model.proofs.PagesLaws.{load_at-suc, is_some-byte_at, byte_at-in_page, byte_at-none}
use Rattle.sl_model.proofs.Memory.{byte_at-small, AreWhole-pages}

-- ---- the same bytes

-- two memories have the same bytes at so many addresses
abbrev pub SameBytes : ℕ → ℕ → Pages → Pages → Type 0
SameBytes start size m m' = (a : ℕ) → start ≤ a → a < start + size → byte_at m a ≡ byte_at m' a

-- a part of a range
pub SameBytes-part : (start size first count : ℕ) (m m' : Pages) → SameBytes start size m m' → start ≤ first → first + count ≤ start + size → SameBytes first count m m'
SameBytes-part start size first count m m' same from to a after before = same a (omega arith) (omega arith)

-- a load takes bytes alone
pub load_at-same : (m m' : Pages) (address width : ℕ) → SameBytes address width m m' → load_at m address width ≡ load_at m' address width
unfolding load_at bytes_at
load_at-same m m' address zero same = refl
load_at-same m m' address (suc width) same =
    load_at-suc m address width
    ∙ ap (λ b. option_and_then (λ x. option_map (λ n. x + 256 * n) (load_at m (address + 1) width)) b) (same address (omega arith) (omega arith))
    ∙ ap (λ rest. option_and_then (λ x. option_map (λ n. x + 256 * n) rest) (byte_at m' address)) (load_at-same m m' (address + 1) width (λ a after before. same a (omega arith) (omega arith)))
    ∙ sym (load_at-suc m' address width)

-- ---- bytes of what was loaded

-- a number in bytes is its first byte and the number in the others
record Parts (m : Pages) (address width n : ℕ) : Type 0 where
  first : ℕ
  rest : ℕ
  first_is : byte_at m address ≡ Some first
  rest_is : load_at m (address + 1) width ≡ Some rest
  number : n ≡ first + 256 * rest

parts : (m : Pages) (address width n : ℕ) → load_at m address (suc width) ≡ Some n → Parts m address width n
parts m address width n loaded = of (byte_at m address) (load_at m (address + 1) width) refl refl (sym (load_at-suc m address width) ∙ loaded)
  where
    of : (b r : Option ℕ) → byte_at m address ≡ b → load_at m (address + 1) width ≡ r → option_and_then (λ x. option_map (λ y. x + 256 * y) r) b ≡ Some n → Parts m address width n
    of None r b_is r_is both = absurd cc
    of (Some b) None b_is r_is both = absurd cc
    of (Some b) (Some r) b_is r_is both = record { first = b; rest = r; first_is = b_is; rest_is = r_is; number = cc }

first_small : (m : Pages) (address b : ℕ) → ArePages m → byte_at m address ≡ Some b → b < 256
first_small m address b are is = subst (λ o. IfSome o (λ x. x < 256)) is (byte_at-small m address are)

-- where loads give the same, the bytes are the same
pub SameBytes-loaded : (m m' : Pages) (address width n : ℕ) → ArePages m → ArePages m' → load_at m address width ≡ Some n → load_at m' address width ≡ Some n → SameBytes address width m m'
SameBytes-loaded m m' address zero n are are' loaded loaded' a after before = absurd (omega arith)
SameBytes-loaded m m' address (suc width) n are are' loaded loaded' a after before =
    let one = parts m address width n loaded in
    let other = parts m' address width n loaded' in
    let small : one.first < 256 = first_small m address one.first are one.first_is in
    let small' : other.first < 256 = first_small m' address other.first are' other.first_is in
    let firsts : one.first ≡ other.first = omega (arith, one.number, other.number) in
    let rests : other.rest ≡ one.rest = omega (arith, one.number, other.number) in
    let further = SameBytes-loaded m m' (address + 1) width one.rest are are' one.rest_is (other.rest_is ∙ ap Some rests) in
    ⊎_elim
    (λ (here : a ≡ address). rw here (one.first_is ∙ ap Some firsts ∙ sym other.first_is))
    (λ (past : a ≡ address → ⊥). further a (omega arith) (omega arith))
    (cases_eq a address)

-- ---- what a store leaves

-- bytes elsewhere
pub SameBytes-stored : (start size at width value : ℕ) (m m' : Pages) → IsStored at width value m m' → (start + size ≤ at) ⊎ (at + width ≤ start) → SameBytes start size m m'
SameBytes-stored start size at width value m m' is apart a after before =
    sym (is.elsewhere a (⊎_elim (λ (below : start + size ≤ at). inl (omega arith)) (λ (above : at + width ≤ start). inr (omega arith)) apart))

-- a load elsewhere
pub load_at-elsewhere : (address size at width value : ℕ) (m m' : Pages) → IsStored at width value m m' → (address + size ≤ at) ⊎ (at + width ≤ address) → load_at m' address size ≡ load_at m address size
load_at-elsewhere address size at width value m m' is apart = sym (load_at-same m m' address size (SameBytes-stored address size at width value m m' is apart))

-- a word that was stored
pub load_at-word : (at value : ℕ) (m m' : Pages) → IsStored at 4 value m m' → value < 2 ^ 32 → load_at m' at 4 ≡ Some value
load_at-word at value m m' is small =
    let same : value % 256 ^ 4 ≡ value = omega arith in
    is.loaded ∙ ap Some same

-- ---- which bytes are mapped

-- the same bytes are mapped
abbrev pub SameMapped : Pages → Pages → Type 0
SameMapped m m' = (a : ℕ) → is_some (byte_at m a) ≡ is_some (byte_at m' a)

pub SameMapped-stored : (at width value : ℕ) (m m' : Pages) → ArePages m → ArePages m' → IsStored at width value m m' → SameMapped m m'
SameMapped-stored at width value m m' are are' is a =
    is_some-byte_at m a (AreWhole-pages m are) ∙ sym (is.mapped (a / 4096)) ∙ sym (is_some-byte_at m' a (AreWhole-pages m' are'))

first_and_rest : (b r : Option ℕ) → is_some (option_and_then (λ x. option_map (λ n. x + 256 * n) r) b) ≡ (is_some b && is_some r)
first_and_rest None r = refl
first_and_rest (Some b) None = refl
first_and_rest (Some b) (Some r) = refl

pub is_some-load_at : (m m' : Pages) (address width : ℕ) → SameMapped m m' → is_some (load_at m address width) ≡ is_some (load_at m' address width)
unfolding load_at bytes_at
is_some-load_at m m' address zero same = refl
is_some-load_at m m' address (suc width) same =
    ap is_some (load_at-suc m address width) ∙ first_and_rest (byte_at m address) (load_at m (address + 1) width)
    ∙ ap (λ b. b && is_some (load_at m (address + 1) width)) (same address)
    ∙ ap (λ b. is_some (byte_at m' address) && b) (is_some-load_at m m' (address + 1) width same)
    ∙ sym (first_and_rest (byte_at m' address) (load_at m' (address + 1) width)) ∙ sym (ap is_some (load_at-suc m' address width))

-- ---- pages from bytes

byte_at-unmapped : (m : Pages) (number : ℕ) → get m number ≡ None → byte_at m (4096 * number + 0) ≡ None
byte_at-unmapped m number none =
    let quotient : (4096 * number + 0) / 4096 ≡ number = omega arith in
    byte_at-none m (4096 * number + 0) (ap (get m) quotient ∙ none)

same_page : (number : ℕ) (m m' : Pages) (p q : Option (List ℕ)) → get m number ≡ p → get m' number ≡ q → IfSome p (λ page. length page ≡ 4096) → IfSome q (λ page. length page ≡ 4096)
    → SameBytes (4096 * number) 4096 m m' → p ≡ q
same_page number m m' None None first second whole whole' same = refl
same_page number m m' None (Some q) first second whole whole' same =
    let here = same (4096 * number + 0) (omega arith) (omega arith) in
    let none : byte_at m (4096 * number + 0) ≡ None = byte_at-unmapped m number first in
    let some : byte_at m' (4096 * number + 0) ≡ Some (get_or q 0 0) = byte_at-in_page m' number 0 q second (omega arith) ∙ slice_get-get_or q 0 0 (omega arith) in
    absurd cc
same_page number m m' (Some p) None first second whole whole' same =
    let here = same (4096 * number + 0) (omega arith) (omega arith) in
    let some : byte_at m (4096 * number + 0) ≡ Some (get_or p 0 0) = byte_at-in_page m number 0 p first (omega arith) ∙ slice_get-get_or p 0 0 (omega arith) in
    let none : byte_at m' (4096 * number + 0) ≡ None = byte_at-unmapped m' number second in
    absurd cc
same_page number m m' (Some p) (Some q) first second whole whole' same = ap Some (ext_get_or 0 p q (whole ∙ sym whole') each)
  where
    each : (i : ℕ) → i < length p → get_or p i 0 ≡ get_or q i 0
    each i inside =
        let here = same (4096 * number + i) (omega arith) (omega arith) in
        let left : byte_at m (4096 * number + i) ≡ Some (get_or p i 0) = byte_at-in_page m number i p first (omega arith) ∙ slice_get-get_or p i 0 inside in
        let right : byte_at m' (4096 * number + i) ≡ Some (get_or q i 0) = byte_at-in_page m' number i q second (omega arith) ∙ slice_get-get_or q i 0 (omega arith) in
        cc

-- a page whose bytes are the same is the same
pub get-same : (number : ℕ) (m m' : Pages) → ArePages m → ArePages m' → SameBytes (4096 * number) 4096 m m' → get m number ≡ get m' number
get-same number m m' are are' same = same_page number m m' (get m number) (get m' number) refl refl (AreWhole-pages m are number) (AreWhole-pages m' are' number) same
