-- The arguments that words may give a program are such as a recording may have.
use Rattle.std.specs.Prelude.{◌==◌, ◌&&◌, ◌||◌, not, sum, map, nat_le}
use Rattle.std.specs.List.{list_all, AllByRecursion}
use Rattle.std.proofs.Common.{◌≡◌, ℕ, ◌+◌, ◌≤◌, Bool, true, false, List, [], ◌∷◌, length, refl, subst, arith}
use Rattle.std.proofs.lemmas.Bool.Decides.{nat_tests}
use Rattle.std.proofs.lemmas.List.Sums.{sum-map}
use Rattle.rec_format.specs.Rules.{has_zero, AreArguments}
use Rattle.cli_words.specs.Orders.{has_no_zero, fit}

both_true : (a b : Bool) → (a && b) ≡ true → (a ≡ true) × (b ≡ true)
both_true true b is = (refl, is)
both_true false b is = absurd cc

none_at : (here rest others : Bool) → (not here && rest) ≡ true → (rest ≡ true → others ≡ false) → (here || others) ≡ false
none_at true rest others is more = absurd cc
none_at false rest others is more = more is

zero_free : (bytes : List ℕ) → has_no_zero bytes ≡ true → has_zero bytes ≡ false
zero_free [] is = refl
zero_free (b ∷ bytes) is = none_at (b == 0) (has_no_zero bytes) (has_zero bytes) is (zero_free bytes)

each_free : (args : List (List ℕ)) → list_all has_no_zero args ≡ true → AllByRecursion (λ arg. has_zero arg ≡ false) args
each_free [] is = tt
each_free (arg ∷ args) is =
    let both = both_true (has_no_zero arg) (list_all has_no_zero args) is in
    (zero_free arg both.0, each_free args both.1)

pub are_arguments : (args : List (List ℕ)) → length args ≤ 64 → fit args ≡ true → AreArguments args
are_arguments args few is =
    let size = λ (arg : List ℕ). length arg + 1 in
    let both = both_true (list_all has_no_zero args) (nat_le (sum (map (λ (arg : List ℕ). length arg + 1) args)) 65536) is in
    let small : sum (map (λ (arg : List ℕ). length arg + 1) args) ≤ 65536 = grind (arith, nat_tests, both.1) in
    record {
      number = few;
      zero_free = each_free args both.0;
      size = subst (λ n. n ≤ 65536) (sum-map size args) small;
    }
