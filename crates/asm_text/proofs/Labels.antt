-- Labels, one after the other.
use Rattle.std.proofs.Common.{◌≡◌, ℕ, zero, suc, ◌+◌, ◌-◌, ◌<◌, ◌≤◌, Bool, cond, List, [], ◌∷◌, length, drop, true, false, refl, sym, ap, ◌∙◌, arith, length-drop}
use Rattle.std.proofs.lemmas.Bool.{cond-true, cond-false}
use Rattle.asm_text.specs.Lines.{has_label, front_name, behind_label, labels_within, statement_within}

-- a label takes a byte at least
behind-le : (code : List ℕ) (n : ℕ) → length code ≤ suc n → length (behind_label code) ≤ n
behind-le code n few = omega (arith, length-drop {A = ℕ})

chosen : {A : Type 0} (b : Bool) (x y z : A) → x ≡ y → cond b x z ≡ cond b y z
chosen true x y z same = same
chosen false x y z same = refl

-- more labels than bytes are as good as any
pub same_statement : (n m : ℕ) (code : List ℕ) → length code ≤ n → length code ≤ m → statement_within n code ≡ statement_within m code
unfolding statement_within
same_statement zero zero code few also = refl
same_statement zero (suc m) [] few also = refl
same_statement zero (suc m) (b ∷ bs) few also = absurd (omega arith)
same_statement (suc n) zero [] few also = refl
same_statement (suc n) zero (b ∷ bs) few also = absurd (omega arith)
same_statement (suc n) (suc m) code few also =
    chosen (has_label code) _ _ code (same_statement n m (behind_label code) (behind-le code n few) (behind-le code m also))

pub next_statement : (code : List ℕ) → has_label code ≡ true
    → statement_within (length code) code ≡ statement_within (length (behind_label code)) (behind_label code)
unfolding statement_within
next_statement code label =
    same_statement (length code) (suc (length code)) code (omega arith) (omega arith)
    ∙ cond-true (has_label code) _ _ label
    ∙ same_statement (length code) (length (behind_label code)) (behind_label code) (behind-le code (length code) (omega arith)) (omega arith)

pub no_more_statement : (code : List ℕ) → has_label code ≡ false → statement_within (length code) code ≡ code
unfolding statement_within
no_more_statement code none =
    same_statement (length code) (suc (length code)) code (omega arith) (omega arith) ∙ cond-false (has_label code) _ _ none

pub same_labels : (n m : ℕ) (code : List ℕ) → length code ≤ n → length code ≤ m → labels_within n code ≡ labels_within m code
unfolding labels_within
same_labels zero zero code few also = refl
same_labels zero (suc m) [] few also = refl
same_labels zero (suc m) (b ∷ bs) few also = absurd (omega arith)
same_labels (suc n) zero [] few also = refl
same_labels (suc n) zero (b ∷ bs) few also = absurd (omega arith)
same_labels (suc n) (suc m) code few also =
    chosen (has_label code) _ _ [] (ap (λ (names : List (List ℕ)). front_name code ∷ names) (same_labels n m (behind_label code) (behind-le code n few) (behind-le code m also)))

pub next_label : (code : List ℕ) → has_label code ≡ true
    → labels_within (length code) code ≡ front_name code ∷ labels_within (length (behind_label code)) (behind_label code)
unfolding labels_within
next_label code label =
    same_labels (length code) (suc (length code)) code (omega arith) (omega arith)
    ∙ cond-true (has_label code) _ _ label
    ∙ ap (λ (names : List (List ℕ)). front_name code ∷ names) (same_labels (length code) (length (behind_label code)) (behind_label code) (behind-le code (length code) (omega arith)) (omega arith))

pub no_more_labels : (code : List ℕ) → has_label code ≡ false → labels_within (length code) code ≡ []
unfolding labels_within
no_more_labels code none =
    same_labels (length code) (suc (length code)) code (omega arith) (omega arith) ∙ cond-false (has_label code) _ _ none
