-- The tokens from a place on, piece by piece.
use Rattle.std.proofs.Common.{◌≡◌, ℕ, zero, suc, ◌+◌, ◌<◌, ◌==◌, List, [], ◌∷◌, ◌++◌, length, get_or, drop, true, false, not, refl, sym, ap, ◌∙◌, arith, append_assoc}
use Rattle.std.specs.List.{prefix_len}
use Rattle.std.specs.Prelude.{Some, None}
use Rattle.std.proofs.lemmas.Bool.{false_from_ne_true, cond-true, cond-false}
use Rattle.std.proofs.lemmas.List.{drop_more, drop-drop}
use Rattle.std.proofs.lemmas.List.Sums.{prefix_len_is}
use Rattle.memchr.specs.Find.{IsFirstByte, is_byte}
use Rattle.tracer_text.specs.declared.token.Token.{Token}
use Rattle.tracer_text.specs.Tokens.{begins_token, tokens_from, token_at, more_of}

-- what belongs to what began before holds no token
skips : (k place : ℕ) (bs : List ℕ) → tokens_from k place bs ≡ tokens_from zero (place + k) (drop k bs)
skips zero place bs = ap (λ n. tokens_from zero n bs) (omega arith)
skips (suc k) place [] = refl
skips (suc k) place (b ∷ bs) = skips k (place + 1) bs ∙ ap (λ n. tokens_from zero n (drop k bs)) (omega arith)

-- the token that begins at a place, if one does, and those after what begins there
goes_on : (text : List ℕ) (place b more : ℕ) → place < length text → b ≡ get_or text place 0 → more ≡ more_of b (drop (place + 1) text)
    → tokens_from 0 place (drop place text) ≡ token_at place b (drop (place + 1) text) ++ tokens_from 0 (place + 1 + more) (drop (place + 1 + more) text)
goes_on text place b more within b_is more_is =
    let after = drop (place + 1) text in
    let first : drop place text ≡ b ∷ after = drop_more text place 0 within ∙ ap (λ (x : ℕ). x ∷ after) (sym b_is) in
    let rest : tokens_from (more_of b after) (place + 1) after ≡ tokens_from 0 (place + 1 + more) (drop (place + 1 + more) text) =
    ap (λ n. tokens_from n (place + 1) after) (sym more_is) ∙ skips more (place + 1) after ∙ ap (tokens_from 0 (place + 1 + more)) (drop-drop more (place + 1) text) in
    ap (tokens_from 0 place) first ∙ ap (λ ts. token_at place b after ++ ts) rest

-- how far the tokens are read, once what begins at a place is read, whether it is a token or none
pub read_token : (text : List ℕ) (place b more : ℕ) (all whole : List Token) → place < length text → b ≡ get_or text place 0 → more ≡ more_of b (drop (place + 1) text)
    → begins_token b ≡ true → all ++ tokens_from 0 place (drop place text) ≡ whole
    → (all ++ record { place = place; end = place + 1 + more } ∷ []) ++ tokens_from 0 (place + 1 + more) (drop (place + 1 + more) text) ≡ whole
read_token text place b more all whole within b_is more_is begins read =
    let token : Token = record { place = place; end = place + 1 + more } in
    let here : token_at place b (drop (place + 1) text) ≡ token ∷ [] =
    cond-true (begins_token b) _ [] begins ∙ ap (λ n. record { place = place; end = place + 1 + n } ∷ []) (sym more_is) in
    append_assoc all (token ∷ []) (tokens_from 0 (place + 1 + more) (drop (place + 1 + more) text))
    ∙ ap (λ ts. all ++ ts) (ap (λ ts. ts ++ tokens_from 0 (place + 1 + more) (drop (place + 1 + more) text)) (sym here) ∙ sym (goes_on text place b more within b_is more_is))
    ∙ read

pub read_none : (text : List ℕ) (place b more : ℕ) (all whole : List Token) → place < length text → b ≡ get_or text place 0 → more ≡ more_of b (drop (place + 1) text)
    → begins_token b ≡ false → all ++ tokens_from 0 place (drop place text) ≡ whole
    → all ++ tokens_from 0 (place + 1 + more) (drop (place + 1 + more) text) ≡ whole
read_none text place b more all whole within b_is more_is begins read =
    let here : token_at place b (drop (place + 1) text) ≡ [] = cond-false (begins_token b) _ [] begins in
    ap (λ ts. all ++ ts) (ap (λ ts. ts ++ tokens_from 0 (place + 1 + more) (drop (place + 1 + more) text)) (sym here) ∙ sym (goes_on text place b more within b_is more_is))
    ∙ read

-- the bytes before a line end
pub before_end : (bs : List ℕ) (n : ℕ) → IsFirstByte (is_byte 10) bs (Some n) → n ≡ prefix_len (λ c. not (c == 10)) bs
before_end bs n first = sym (prefix_len_is (λ c. not (c == 10)) bs n 0 (omega (arith, first.0.high))
    (λ k lt. ap not (false_from_ne_true (get_or bs k 0 == 10) (first.0.before k (omega arith) lt)))
    (λ lt. ap not first.1))

pub no_end : (bs : List ℕ) → IsFirstByte (is_byte 10) bs None → length bs ≡ prefix_len (λ c. not (c == 10)) bs
no_end bs none = sym (prefix_len_is (λ c. not (c == 10)) bs (length bs) 0 (omega arith)
    (λ k lt. ap not (false_from_ne_true (get_or bs k 0 == 10) (none k (omega arith) lt)))
    (λ lt. absurd (omega arith)))
