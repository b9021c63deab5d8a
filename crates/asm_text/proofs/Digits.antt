-- Digits, one after the other.
use Rattle.std.proofs.Common.{◌≡◌, ℕ, ◌+◌, ◌*◌, ◌^◌, ◌<◌, ◌≤◌, ◌⊎◌, inl, inr, min, Bool, cond, true, false, List, [], ◌∷◌, nat_lt, refl, sym, ap, ◌∙◌, arith, get_or, drop, length}
use Rattle.std.specs.Prelude.{Option, Some, None}
use Rattle.std.specs.Char.{digit_value}
use Rattle.std.specs.Option.{option_map}
use Rattle.std.proofs.lemmas.Bool.{cases_lt, lt-ltb, cond-true}
use Rattle.std.proofs.lemmas.List.{drop_more}
use Rattle.asm_text.specs.Numbers.{too_great, digits_from}

grows : (base a : ℕ) → 1 ≤ base → a ≤ base * a
grows base a some = grind arith

both : {a b : ℕ} → (too_great ≤ a) × (too_great ≤ b) → min too_great a ≡ min too_great b
both great = omega (arith, great.0, great.1)

-- numbers that are equal, or both too great, stay so with one more digit
step : (base a b d : ℕ) → 1 ≤ base → (a ≡ b) ⊎ ((too_great ≤ a) × (too_great ≤ b)) → (base * a + d ≡ base * b + d) ⊎ ((too_great ≤ base * a + d) × (too_great ≤ base * b + d))
step base a b d some (inl same) = inl (ap (λ n. base * n + d) same)
step base a b d some (inr great) = inr (omega (arith, great.0, grows base a some), omega (arith, great.1, grows base b some))

chosen : (t : Bool) (x y : Option ℕ) → option_map (min too_great) x ≡ option_map (min too_great) y
    → option_map (min too_great) (cond t x None) ≡ option_map (min too_great) (cond t y None)
chosen true x y same = same
chosen false x y same = refl

pub same_digits : (base a b : ℕ) (cs : List ℕ) → 1 ≤ base → (a ≡ b) ⊎ ((too_great ≤ a) × (too_great ≤ b))
    → option_map (min too_great) (digits_from base a cs) ≡ option_map (min too_great) (digits_from base b cs)
same_digits base a b [] some (inl same) = ap (λ n. Some (min too_great n)) same
same_digits base a b [] some (inr great) = ap Some (both great)
same_digits base a b (c ∷ cs) some near =
    chosen (nat_lt (digit_value c) base) _ _ (same_digits base (base * a + digit_value c) (base * b + digit_value c) cs some (step base a b (digit_value c) some near))

capped : (n m : ℕ) → m ≡ min n too_great → (m ≡ n) ⊎ ((too_great ≤ m) × (too_great ≤ n))
capped n m is = elim (cases_lt n too_great) [
  | inl small ↦ inl (omega arith)
  | inr great ↦ inr (omega arith, omega arith)
]

-- one digit is read
pub read_digit : (base v d new : ℕ) (cs : List ℕ) (i : ℕ) → 1 ≤ base → i < length cs → digit_value (get_or cs i 0) ≡ d → d < base
    → new ≡ min (base * v + d) too_great
    → option_map (min too_great) (digits_from base new (drop (i + 1) cs)) ≡ option_map (min too_great) (digits_from base v (drop i cs))
read_digit base v d new cs i some within value digit is =
    let c = get_or cs i 0 in
    let below : nat_lt (digit_value c) base ≡ true = lt-ltb (digit_value c) base (omega arith) in
    same_digits base new (base * v + d) (drop (i + 1) cs) some (capped (base * v + d) new is)
    ∙ ap (λ n. option_map (min too_great) (digits_from base (base * v + n) (drop (i + 1) cs))) (sym value)
    ∙ ap (option_map (min too_great)) (sym (cond-true (nat_lt (digit_value c) base) (digits_from base (base * v + digit_value c) (drop (i + 1) cs)) None below))
    ∙ ap (λ (ds : List ℕ). option_map (min too_great) (digits_from base v ds)) (sym (drop_more cs i 0 within))
