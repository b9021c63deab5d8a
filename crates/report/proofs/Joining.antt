-- Pieces joined by a separator, one piece after the other.
use Rattle.std.proofs.Common.{◌≡◌, ℕ, zero, suc, ◌+◌, ◌<◌, Bool, true, false, cond, eqb, List, [], ◌∷◌, ◌++◌, length, map, take, get_or, refl, sym, ap, ◌∙◌, append_assoc, arith}
use Rattle.std.specs.List.{join_with_byte, flat_map}
use Rattle.std.proofs.lemmas.List.Concat.{flat_map-cons}
use Rattle.std.proofs.lemmas.Grind.{flat_map-append}
use Rattle.std.proofs.lemmas.List.{take_more, map-append, append-nil}
use Rattle.std.proofs.lemmas.Bool.Decides.{nat_tests}

abbrev pub is_nil : {X : Type 0} → List X → Bool
is_nil [] = true
is_nil (x ∷ xs) = false

-- one piece more
pub join_push : (c : ℕ) (xs : List (List ℕ)) (y : List ℕ) → join_with_byte c (xs ++ y ∷ []) ≡ join_with_byte c xs ++ cond (is_nil xs) y (c ∷ y)
join_push c [] y = refl
join_push c (x ∷ []) y = refl
join_push c (x ∷ z ∷ xs) y = ap (λ (t : List ℕ). x ++ (c ∷ t)) (join_push c (z ∷ xs) y) ∙ sym (append_assoc x (c ∷ join_with_byte c (z ∷ xs)) (c ∷ y))

-- the front of a list that is long enough is empty at 0 alone
front_is_nil : {X Y : Type 0} (f : X → Y) (xs : List X) (i : ℕ) → i < length xs → is_nil (map f (take i xs)) ≡ eqb i 0
front_is_nil f [] i lt = absurd (omega arith)
front_is_nil f (x ∷ xs) zero lt = refl
front_is_nil f (x ∷ xs) (suc i) lt = let other : eqb (suc i) 0 ≡ false = grind (arith, nat_tests) in sym other

-- the pieces up to a place and the one there
pub join_more : {X : Type 0} (c : ℕ) (f : X → List ℕ) (xs : List X) (i : ℕ) (d : X) → i < length xs → join_with_byte c (map f (take (i + 1) xs)) ≡ join_with_byte c (map f (take i xs)) ++ cond (eqb i 0) (f (get_or xs i d)) (c ∷ f (get_or xs i d))
join_more c f xs i d lt =
    let y = f (get_or xs i d) in
    ap (λ t. join_with_byte c (map f t)) (take_more xs i d lt) ∙ ap (join_with_byte c) (map-append f (take i xs) (get_or xs i d ∷ []))
    ∙ join_push c (map f (take i xs)) y ∙ ap (λ (b : Bool). join_with_byte c (map f (take i xs)) ++ cond b y (c ∷ y)) (front_is_nil f xs i lt)

-- the items up to a place and the one there, each with its bytes
pub flat_more : {X : Type 0} (f : X → List ℕ) (xs : List X) (i : ℕ) (d : X) → i < length xs → flat_map f (take (i + 1) xs) ≡ flat_map f (take i xs) ++ f (get_or xs i d)
flat_more f xs i d lt =
    ap (flat_map f) (take_more xs i d lt) ∙ flat_map-append f (take i xs) (get_or xs i d ∷ [])
    ∙ ap (λ (t : List ℕ). flat_map f (take i xs) ++ t) (flat_map-cons f (get_or xs i d) [] ∙ append-nil (f (get_or xs i d)))
