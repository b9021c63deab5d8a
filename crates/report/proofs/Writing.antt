-- What several writes to one output add together.
use Rattle.std.proofs.Common.{◌≡◌, ℕ, ◌+◌, ◌<◌, ◌≤◌, List, ◌++◌, length, take, drop, get_or, Option, Some, None, Result, Ok, Err, [], ◌∷◌, map, refl, sym, ap, subst, ◌∙◌, append_assoc, arith}
use Rattle.std.specs.List.{flat_map}
use Rattle.std.proofs.Math.Seq.{take-append-add}
use Rattle.std.proofs.lemmas.List.{take-append-drop, take-append-le, drop_more, length-append}
use Rattle.std.proofs.lemmas.List.Concat.{flat_map-cons, flat_map_single}
use Rattle.std.proofs.lemmas.Grind.{flat_map-append}
use Rattle.std.specs.Result.{IsErr}
use Rattle.outside.specs.Written.{Adds, AddsPrefix}
use Rattle.report.specs.Writing.{Writes}

Adds-then : (old mid new : Option (List ℕ)) (a b : List ℕ) → Adds old mid a → Adds mid new b → Adds old new (a ++ b)
Adds-then None mid new a b p q = tt
Adds-then (Some x) None new a b p q = absurd p
Adds-then (Some x) (Some y) None a b p q = absurd q
Adds-then (Some x) (Some y) (Some z) a b p q = q ∙ ap (λ (t : List ℕ). t ++ b) p ∙ append_assoc x a b

-- some of a front is some of the whole
pub AddsPrefix-longer : (old new : Option (List ℕ)) (front rest : List ℕ) → AddsPrefix old new front → AddsPrefix old new (front ++ rest)
AddsPrefix-longer old new front rest some =
    let n = some.0 in
    let within : n ≤ length front = some.1 in
    (n, omega (arith, length-append front rest), subst (Adds old new) (sym (take-append-le n front rest within)) some.2)

-- some of a piece, after all before it
pub AddsPrefix-then : (old mid new : Option (List ℕ)) (front piece : List ℕ) → Adds old mid front → AddsPrefix mid new piece → AddsPrefix old new (front ++ piece)
AddsPrefix-then old mid new front piece all some =
    let n = some.0 in
    let within : n ≤ length piece = some.1 in
    (length front + n, omega (arith, length-append front piece), subst (Adds old new) (sym (take-append-add front piece n)) (Adds-then old mid new front (take n piece) all some.2))

-- a failure leaves some of the bytes
pub Writes-failed : {T E : Type 0} (r : Result T E) (old new : Option (List ℕ)) (bytes : List ℕ) → IsErr r → AddsPrefix old new bytes → Writes r old new bytes
Writes-failed (Ok x) old new bytes is some = absurd cc
Writes-failed (Err e) old new bytes is some = some

-- what the last call writes, after all before it
pub Writes-after : {T E : Type 0} (r : Result T E) (old mid new : Option (List ℕ)) (front bytes : List ℕ) → Adds old mid front → Writes r mid new bytes → Writes r old new (front ++ bytes)
Writes-after (Ok x) old mid new front bytes all last = Adds-then old mid new front bytes all last
Writes-after (Err e) old mid new front bytes all last = AddsPrefix-then old mid new front bytes all last

-- pieces one after the other
pub flat_map-of_map : {X : Type 0} (f : X → List ℕ) (xs : List X) → flat_map (λ (piece : List ℕ). piece) (map f xs) ≡ flat_map f xs
flat_map-of_map f [] = refl
flat_map-of_map f (x ∷ xs) =
    flat_map-cons (λ (piece : List ℕ). piece) (f x) (map f xs) ∙ ap (λ (rest : List ℕ). f x ++ rest) (flat_map-of_map f xs) ∙ sym (flat_map-cons f x xs)

-- the pieces are those before a place, the one there and the others
pieces_at : {X : Type 0} (bytes : X → List ℕ) (pieces : List X) (i : ℕ) (d : X) → i < length pieces → flat_map bytes (take i pieces) ++ (bytes (get_or pieces i d) ++ flat_map bytes (drop (i + 1) pieces)) ≡ flat_map bytes pieces
pieces_at bytes pieces i d lt =
    ap (λ (t : List ℕ). flat_map bytes (take i pieces) ++ t) (sym (flat_map-cons bytes (get_or pieces i d) (drop (i + 1) pieces)) ∙ ap (flat_map bytes) (sym (drop_more pieces i d lt)))
    ∙ sym (flat_map-append bytes (take i pieces) (drop i pieces)) ∙ ap (flat_map bytes) (take-append-drop i pieces)

-- some of the piece at a place, after all pieces before it
pub prefix_at : {X : Type 0} (bytes : X → List ℕ) (pieces : List X) (i : ℕ) (d : X) (old mid new : Option (List ℕ)) → i < length pieces → Adds old mid (flat_map bytes (take i pieces)) → AddsPrefix mid new (bytes (get_or pieces i d)) → AddsPrefix old new (flat_map bytes pieces)
prefix_at bytes pieces i d old mid new lt all some =
    subst (AddsPrefix old new) (pieces_at bytes pieces i d lt) (AddsPrefix-then old mid new (flat_map bytes (take i pieces)) (bytes (get_or pieces i d) ++ flat_map bytes (drop (i + 1) pieces)) all (AddsPrefix-longer mid new (bytes (get_or pieces i d)) (flat_map bytes (drop (i + 1) pieces)) some))
