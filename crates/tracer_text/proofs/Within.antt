-- Tokens lie within the text.
use Rattle.std.proofs.Common.{ℕ, zero, suc, ◌+◌, ◌≤◌, ◌==◌, List, [], ◌∷◌, length, All, not, arith}
use Rattle.std.proofs.lemmas.Bool.{cond_both}
use Rattle.std.proofs.lemmas.List.Sums.{prefix_len-le-length}
use Rattle.std.proofs.lemmas.List.Elements.{All-nil, All-cons, All-append}
use Rattle.tracer_text.specs.Tokens.{is_run_byte, begins_token, more_of, token_at, tokens_from, IsWithin}

more-le : (b : ℕ) (bs : List ℕ) → more_of b bs ≤ length bs
more-le b bs = cond_both (b == 59) _ _ (λ n. n ≤ length bs)
    (λ _. prefix_len-le-length (λ c. not (c == 10)) bs)
    (λ _. cond_both (is_run_byte b) _ 0 (λ n. n ≤ length bs) (λ _. prefix_len-le-length is_run_byte bs) (λ _. omega arith))

here : (place b : ℕ) (bs : List ℕ) (len : ℕ) → place + 1 + length bs ≤ len → All (IsWithin len) (token_at place b bs)
here place b bs len le = cond_both (begins_token b) _ [] (All (IsWithin len))
    (λ _. All-cons (IsWithin len) _ [] ((omega arith, omega (arith, more-le b bs))) (All-nil (IsWithin len)))
    (λ _. All-nil (IsWithin len))

pub all_within : (skipped place : ℕ) (bs : List ℕ) (len : ℕ) → place + length bs ≤ len → All (IsWithin len) (tokens_from skipped place bs)
all_within skipped place [] len le = All-nil (IsWithin len)
all_within (suc skipped) place (b ∷ bs) len le = all_within skipped (place + 1) bs len (omega arith)
all_within zero place (b ∷ bs) len le =
    All-append (IsWithin len) (token_at place b bs) (tokens_from (more_of b bs) (place + 1) bs)
    (here place b bs len (omega arith))
    (all_within (more_of b bs) (place + 1) bs len (omega arith))
