-- The registers of the report, one register after the other.
use Rattle.std.proofs.Common.{◌≡◌, ◌≢◌, ℕ, suc, ◌+◌, ◌<◌, Bool, true, false, cond, eqb, List, [], ◌∷◌, ◌++◌, length, take, get_or, refl, sym, ap, ◌∙◌, append_assoc, add-zero, arith}
use Rattle.std.specs.List.{join_with_byte}
use Rattle.std.proofs.lemmas.Bool.{ne_eqb}
use Rattle.std.proofs.lemmas.List.{take_more, length-take-le, append-nil}
use Rattle.report.specs.Report.{register_text, register_texts}
use Rattle.report.proofs.Joining.{is_nil, join_push}

-- a register's text, where it is not 0
abbrev last_text : ℕ → ℕ → List (List ℕ)
last_text number value = cond (eqb value 0) [] (register_text number value ∷ [])

choose : (b : Bool) (t : List ℕ) (front last : List (List ℕ)) → cond b (front ++ last) (t ∷ (front ++ last)) ≡ cond b front (t ∷ front) ++ last
choose true t front last = refl
choose false t front last = refl

texts_push : (n : ℕ) (xs : List ℕ) (v : ℕ) → register_texts n (xs ++ v ∷ []) ≡ register_texts n xs ++ last_text (n + length xs) v
texts_push n [] v = ap (λ (k : ℕ). last_text k v) (sym (add-zero n))
texts_push n (x ∷ xs) v =
    let place : n + 1 + length xs ≡ n + suc (length xs) = omega arith in
    ap (λ (t : List (List ℕ)). cond (eqb x 0) t (register_text n x ∷ t)) (texts_push (n + 1) xs v ∙ ap (λ (k : ℕ). register_texts (n + 1) xs ++ last_text k v) place)
    ∙ choose (eqb x 0) (register_text n x) (register_texts (n + 1) xs) (last_text (n + suc (length xs)) v)

texts_more : (xs : List ℕ) (i v : ℕ) → i < length xs → v ≡ get_or xs i 0 → register_texts 0 (take (i + 1) xs) ≡ register_texts 0 (take i xs) ++ last_text i v
texts_more xs i v lt is =
    let place : 0 + length (take i xs) ≡ i = omega (arith, length-take-le i xs (omega arith)) in
    ap (register_texts 0) (take_more xs i 0 lt ∙ ap (λ (w : ℕ). take i xs ++ w ∷ []) (sym is)) ∙ texts_push 0 (take i xs) v ∙ ap (λ (k : ℕ). register_texts 0 (take i xs) ++ last_text k v) place

not_nil : {X : Type 0} (xs : List X) (x : X) → is_nil (xs ++ x ∷ []) ≡ false
not_nil [] x = refl
not_nil (y ∷ ys) x = refl

-- what the loop keeps, after a register that is not 0
pub told_some : (old out new xs : List ℕ) (first : Bool) (i v : ℕ) → i < length xs → v ≡ get_or xs i 0 → v ≢ 0 → out ≡ old ++ join_with_byte 32 (register_texts 0 (take i xs)) → first ≡ is_nil (register_texts 0 (take i xs))
    → new ≡ out ++ cond first (register_text i v) (32 ∷ register_text i v) → (new ≡ old ++ join_with_byte 32 (register_texts 0 (take (i + 1) xs))) × (is_nil (register_texts 0 (take (i + 1) xs)) ≡ false)
told_some old out new xs first i v lt is some told is-first step =
    let texts = register_texts 0 (take i xs) in
    let text = register_text i v in
    let more : register_texts 0 (take (i + 1) xs) ≡ texts ++ text ∷ [] = texts_more xs i v lt is ∙ ap (λ (b : Bool). texts ++ cond b [] (text ∷ [])) (ne_eqb v 0 some) in (
      step ∙ ap (λ (b : Bool). out ++ cond b text (32 ∷ text)) is-first ∙ ap (λ (t : List ℕ). t ++ cond (is_nil texts) text (32 ∷ text)) told ∙ append_assoc old (join_with_byte 32 texts) (cond (is_nil texts) text (32 ∷ text))
          ∙ ap (λ (t : List ℕ). old ++ t) (sym (join_push 32 texts text)) ∙ ap (λ t. old ++ join_with_byte 32 t) (sym more),
      ap is_nil more ∙ not_nil texts text,
    )

-- and after one that is
pub same_texts : (xs : List ℕ) (i v : ℕ) → i < length xs → v ≡ get_or xs i 0 → v ≡ 0 → register_texts 0 (take (i + 1) xs) ≡ register_texts 0 (take i xs)
same_texts xs i v lt is none =
    texts_more xs i v lt is ∙ ap (λ (w : ℕ). register_texts 0 (take i xs) ++ last_text i w) none ∙ append-nil (register_texts 0 (take i xs))
