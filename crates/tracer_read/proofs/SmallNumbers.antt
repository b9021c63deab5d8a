-- Numbers of scripts are words, and places of names are within.
use Rattle.std.proofs.Common.{◌<◌, ◌≤◌, ℕ, suc, ◌+◌, ◌-◌, ◌*◌, ◌%◌, ◌^◌, ◌&&◌, cond, ltb, leb, nat_eq, List, [], ◌∷◌, length, drop, Option, Some, None, IfSome, arith}
use Rattle.std.specs.Prelude.{codes, Bool}
use Rattle.std.specs.Char.{digit_value}
use Rattle.std.specs.List.{position, position_or_len, starts_with}
use Rattle.std.specs.Option.{option_and_then}
use Rattle.std.proofs.Math.Nat.{pow-suc, pow-le-pow_right}
use Rattle.std.proofs.lemmas.Bool.{ltb-true, leb-true}
use Rattle.tracer_read.specs.Numbers.{number_from, digits_value, hex_value, decimal_value, negative_value, number_value, where_word, where_negative}
use Rattle.tracer_read.proofs.Sound.{IfSome-cond, both_true}

abbrev IsWord : ℕ → Type 0
IsWord n = n < 2 ^ 32

one_more : (n d k : ℕ) → n < 16 ^ k → d < 16 → 16 * n + d < 16 ^ suc k
one_more n d k lt few = omega (arith, pow-suc 16 k)

hex_small : (cs : List ℕ) (n k : ℕ) → n < 16 ^ k → k + length cs ≤ 8
    → IfSome (number_from 16 n cs) IsWord
hex_small [] n k lt le =
    let k-le : k ≤ 8 = omega arith in
    let below : 16 ^ k ≤ 16 ^ 8 = pow-le-pow_right {n = 16} (omega arith) k-le in
    omega arith
hex_small (c ∷ cs) n k lt le =
    IfSome-cond (ltb (digit_value c) 16) (number_from 16 (16 * n + digit_value c) cs) None IsWord
    (λ is. hex_small cs (16 * n + digit_value c) (suc k)
    (one_more n (digit_value c) k lt (ltb-true (digit_value c) 16 is)) (omega arith))
    tt

hex_value-small : (digits : List ℕ) → IfSome (hex_value digits) IsWord
hex_value-small digits =
    IfSome-cond (leb 1 (length digits) && leb (length digits) 8)
    (number_from 16 0 digits) None IsWord
    (λ is. hex_small digits 0 0 (omega arith)
    (omega (
      arith,
      leb-true (length digits) 8
          (both_true (leb 1 (length digits)) (leb (length digits) 8) is).1,
    )))
    tt

where_word-small : (o : Option ℕ) → IfSome (option_and_then where_word o) IsWord
where_word-small None = tt
where_word-small (Some n) = IfSome-cond (ltb n (2 ^ 32)) (Some n) None IsWord
    (λ is. ltb-true n (2 ^ 32) is) tt

where_negative-small : (o : Option ℕ) → IfSome (option_and_then where_negative o) IsWord
where_negative-small None = tt
where_negative-small (Some n) =
    IfSome-cond (leb n (2 ^ 31)) (Some ((2 ^ 32 - n) % 2 ^ 32)) None IsWord (λ is. omega arith) tt

pub number_value-small : (word : List ℕ) → IfSome (number_value word) (λ n. n < 2 ^ 32)
number_value-small word =
    IfSome-cond (starts_with nat_eq word (codes "0x")) (hex_value (drop 2 word))
    (cond (starts_with nat_eq word (codes "-")) (negative_value (drop 1 word)) (decimal_value word))
    IsWord
    (λ _. hex_value-small (drop 2 word))
    (IfSome-cond (starts_with nat_eq word (codes "-")) (negative_value (drop 1 word))
    (decimal_value word) IsWord
    (λ _. where_negative-small (digits_value 10 10 (drop 1 word)))
    (where_word-small (digits_value 10 10 word)))

pub position-below : {X : Type 0} (p : X → Bool) (xs : List X)
    → IfSome (position p xs) (λ i. i < length xs)
position-below p xs =
    IfSome-cond (ltb (position_or_len p xs) (length xs)) (Some (position_or_len p xs)) None
    (λ i. i < length xs)
    (λ is. ltb-true (position_or_len p xs) (length xs) is) tt
