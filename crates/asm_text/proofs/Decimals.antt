-- Numbers in decimal digits, as operands.
use Rattle.std.proofs.Common.{◌≡◌, ℕ, ◌+◌, ◌*◌, ◌/◌, ◌%◌, ◌^◌, ◌<◌, ◌≤◌, min, Bool, ◌&&◌, cond, true, false, List, [], ◌∷◌, ◌++◌, length, length-append, refl, ap, ◌∙◌, arith}
use Rattle.std.specs.Prelude.{Option, Some, None, decimal, nat_lt, ◌==◌, slice_index}
use Rattle.std.specs.Char.{digit_value}
use Rattle.std.specs.List.{All}
use Rattle.std.specs.Option.{option_map}
use Rattle.std.proofs.Math.Nat.{mod-lt}
use Rattle.std.proofs.lemmas.Bool.{lt-ltb, cond-true, cond-false, false_from_ne_true, eqb-true}
use Rattle.std.proofs.lemmas.Bool.Decides.{nat_tests}
use Rattle.std.proofs.lemmas.Fmt.{decimal_by_steps}
use Rattle.std.proofs.lemmas.Str.{digit_value_digit}
use Rattle.std.proofs.lemmas.List.Elements.{All-cons, All-nil, All-head, All-tail, All-push}
use Rattle.asm_text.specs.Bytes.{is_digit}
use Rattle.asm_text.specs.Numbers.{digits_from, magnitude, number, number_of, too_great}

-- one decimal digit or more that stand for a number
pub record IsDecimal (n : ℕ) (ds : List ℕ) : Type 0 where
  pub some : 0 < length ds
  pub digits : All (λ b. is_digit b ≡ true) ds
  pub value : digits_from 10 0 ds ≡ Some n

-- ---- digits

digit_passes : (d : ℕ) → d < 10 → is_digit (48 + d) ≡ true
digit_passes d small = grind (arith, nat_tests)

digit_worth : (d : ℕ) → d < 10 → digit_value (48 + d) ≡ d
digit_worth d small = let e = digit_value_digit (48 + d) (omega arith, omega arith) in omega (arith, e)

last_digit : (a d : ℕ) → d < 10 → digits_from 10 a ((48 + d) ∷ []) ≡ Some (10 * a + d)
last_digit a d small =
    cond-true (nat_lt (digit_value (48 + d)) 10) _ None (lt-ltb _ _ (let e = digit_worth d small in omega (arith, e)))
    ∙ ap (λ v. Some (10 * a + v)) (digit_worth d small)

some_is : (a m : ℕ) → Some a ≡ Some m → a ≡ m
some_is a m is = cc

chosen : (b : Bool) (x y : Option ℕ) (m v : ℕ) → (x ≡ Some m → y ≡ Some v) → cond b x None ≡ Some m → cond b y None ≡ Some v
chosen true x y m v next is = next is
chosen false x y m v next is = absurd (let h : None ≡ Some m = is in cc)

one_more : (a m d : ℕ) (ds : List ℕ) → d < 10 → digits_from 10 a ds ≡ Some m → digits_from 10 a (ds ++ (48 + d) ∷ []) ≡ Some (10 * m + d)
one_more a m d [] small is = last_digit a d small ∙ ap (λ v. Some (10 * v + d)) (some_is a m is)
one_more a m d (c ∷ cs) small is =
    chosen (nat_lt (digit_value c) 10) _ _ m (10 * m + d) (one_more (10 * a + digit_value c) m d cs small) is

-- ---- the digits of a number

one_digit : (n : ℕ) → n < 10 → IsDecimal n ((48 + n) ∷ [])
one_digit n small = record {
  some = omega arith;
  digits = All-cons (λ b. is_digit b ≡ true) (48 + n) [] (digit_passes n small) (All-nil (λ b. is_digit b ≡ true));
  value = last_digit 0 n small ∙ ap Some (omega arith);
}

more_digits : (n : ℕ) (ds : List ℕ) → 10 ≤ n → IsDecimal (n / 10) ds → IsDecimal n (ds ++ (48 + n % 10) ∷ [])
more_digits n ds great is =
    let small : n % 10 < 10 = mod-lt n {m = 10} (omega arith) in
    let some = is.some in
    record {
      some = grind (arith, length-append);
      digits = All-push (λ b. is_digit b ≡ true) ds (48 + n % 10) is.digits (digit_passes (n % 10) small);
      value = one_more 0 (n / 10) (n % 10) ds small is.value ∙ ap Some (omega arith);
    }

pub decimal_is : (n : ℕ) → n < 2 ^ 64 → IsDecimal n (decimal n)
decimal_is n fits = decimal_by_steps IsDecimal one_digit more_digits n fits

-- ---- the number that they are as an operand

pub other_byte : (b c : ℕ) → is_digit b ≡ true → is_digit c ≡ false → (b == c) ≡ false
other_byte b c is not_one = grind (arith, nat_tests)

and_no : (a b : Bool) → b ≡ false → (a && b) ≡ false
and_no true b is = is
and_no false b is = refl

no_x : (ds : List ℕ) → All (λ b. is_digit b ≡ true) ds → (slice_index ds 0 == 120) ≡ false
no_x [] all = refl
no_x (d ∷ ds) all = other_byte d 120 (All-head (λ b. is_digit b ≡ true) d ds all) refl

digits_number : (n : ℕ) (ds : List ℕ) → digits_from 10 0 ds ≡ Some n → 0 < length ds → n < too_great → magnitude 10 ds ≡ Some n
unfolding magnitude
digits_number n [] value some small = absurd (omega arith)
digits_number n (d ∷ ds) value some small =
    cond-false (length (d ∷ ds) == 0) None (option_map (min too_great) (digits_from 10 0 (d ∷ ds))) (false_from_ne_true _ (λ is. absurd (let none = eqb-true (length (d ∷ ds)) 0 is in omega (arith, none))))
    ∙ ap (option_map (min too_great)) value ∙ ap Some (omega arith)

pub number_is : (n : ℕ) (ds : List ℕ) → IsDecimal n ds → n < 2 ^ 32 → number_of ds ≡ Some (number false n)
unfolding number_of
number_is n [] is small = absurd (let some = is.some in omega arith)
number_is n (d ∷ ds) is small =
    let all = is.digits in
    cond-false (d == 48 && slice_index ds 0 == 120) _ _ (and_no (d == 48) _ (no_x ds (All-tail (λ b. is_digit b ≡ true) d ds all)))
    ∙ cond-false (d == 45) _ _ (other_byte d 45 (All-head (λ b. is_digit b ≡ true) d ds all) refl)
    ∙ ap (option_map (number false)) (digits_number n (d ∷ ds) is.value is.some small)
