-- The first place in a list that is seen by a view.
use Rattle.std.proofs.Common.{◌≡◌, ◌<◌, ℕ, zero, suc, ◌+◌, Bool, not, cond, List, [], ◌∷◌, map, length, ltb, get_or, Some, None, refl, sym, ap, subst, ◌∙◌, arith}
use Rattle.std.specs.Str.{bytes_eq}
use Rattle.tracer_text.specs.declared.token.Token.{Token}
use Rattle.tracer_text.specs.Nodes.{trees_of}
use Rattle.tracer_read.specs.declared.context.Signature.{Signature}
use Rattle.tracer_read.specs.Parts.{spelling, name_index, part_count}
use Rattle.tracer_read.specs.Expressions.{Callee, callee_names, parameter_counts}
use Rattle.tracer_read.specs.Views.{callee_of}
use Rattle.std.specs.List.{prefix_len, position}
use Rattle.std.proofs.lemmas.List.{length-map}

prefix_len-map : {X Y : Type 0} (p : Y → Bool) (f : X → Y) (xs : List X)
    → prefix_len p (map f xs) ≡ prefix_len (λ x. p (f x)) xs
prefix_len-map p f [] = refl
prefix_len-map p f (x ∷ xs) = ap (λ n. cond (p (f x)) (1 + n) 0) (prefix_len-map p f xs)

pub position-map : {X Y : Type 0} (p : Y → Bool) (f : X → Y) (xs : List X)
    → position p (map f xs) ≡ position (λ x. p (f x)) xs
position-map p f xs =
    ap (λ n. cond (ltb n (length (map f xs))) (Some n) None) (prefix_len-map (λ y. not (p y)) f xs)
    ∙ ap (λ n. cond (ltb (prefix_len (λ x. not (p (f x))) xs) n)
    (Some (prefix_len (λ x. not (p (f x))) xs)) None) (length-map xs f)

-- the number of the first function of a name
pub callee_index : (text name : List ℕ) (token : Token) (fs : List Signature)
    → name ≡ spelling text token
    → name_index text (callee_names (map callee_of fs)) token
    ≡ position (λ (f : Signature). bytes_eq (spelling text f.name) name) fs
callee_index text name token fs is =
    let P : List ℕ → Type 0 = λ name. name_index text (callee_names (map callee_of fs)) token
    ≡ position (λ (f : Signature). bytes_eq (spelling text f.name) name) fs in
    let is_named = λ (x : Token). bytes_eq (spelling text x) (spelling text token) in
    subst P (sym is) (
    position-map is_named (λ (callee : Callee). callee.name) (map callee_of fs)
    ∙ position-map (λ (callee : Callee). is_named callee.name) callee_of fs
    )

-- the number of its parameters
pub callee_parameters : (fs : List Signature) (i : ℕ) (d : Signature) → i < length fs
    → get_or (parameter_counts (map callee_of fs)) i 0 ≡ part_count
    (trees_of (get_or fs i d).parameters.now)
callee_parameters [] i d lt = absurd (omega arith)
callee_parameters (x ∷ fs) zero d lt = refl
callee_parameters (x ∷ fs) (suc i) d lt = callee_parameters fs i d (omega arith)
