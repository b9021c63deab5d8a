-- The tokens of a text.
use Rattle.std.specs.Prelude.{ℕ, zero, suc, ◌+◌, ◌<◌, ◌≤◌, ◌==◌, ◌&&◌, ◌||◌, not, nat_le, Bool, List, [], ◌∷◌, ◌++◌, if◌then◌else◌}
use Rattle.std.specs.List.{prefix_len}
use Rattle.tracer_text.specs.declared.token.Token.{Token}

-- space, tab, CR and LF
abbrev pub is_blank : ℕ → Bool
is_blank b = b == 32 || b == 9 || b == 13 || b == 10

-- a byte of a name or a number: from `!` to `~`, but no parenthesis and no semicolon
abbrev pub is_run_byte : ℕ → Bool
is_run_byte b = nat_le 0x21 b && nat_le b 0x7E && not (b == 40 || b == 41 || b == 59)

-- How many of the bytes after it belong to what a byte begins: a semicolon begins a comment, which
-- goes on to the next LF; a name or a number goes on over its bytes; any other byte stands alone.
abbrev pub more_of : ℕ → List ℕ → ℕ
more_of b bs =
    if b == 59 then prefix_len (λ c. not (c == 10)) bs
    else if is_run_byte b then prefix_len is_run_byte bs
    else 0

-- a token begins at each byte that is no blank, belongs to nothing before and begins no comment
abbrev pub begins_token : ℕ → Bool
begins_token b = not (is_blank b || b == 59)

-- the token that begins at a byte, if one does
abbrev pub token_at : ℕ → ℕ → List ℕ → List Token
token_at place b bs =
    if begins_token b then record { place = place; end = place + 1 + more_of b bs } ∷ [] else []

-- the tokens of bytes from a place on, of which the first ones belong to what began before
abbrev pub tokens_from : ℕ → ℕ → List ℕ → List Token
tokens_from skipped place [] = []
tokens_from (suc skipped) place (b ∷ bs) = tokens_from skipped (place + 1) bs
tokens_from zero place (b ∷ bs) = token_at place b bs ++ tokens_from (more_of b bs) (place + 1) bs

-- The tokens of a text, in order: names and numbers, parentheses, and each byte that can stand in
-- none of them. A name or a number is a longest run of its bytes.
abbrev pub tokens_of : List ℕ → List Token
tokens_of text = tokens_from 0 0 text

-- a token of at least one byte, within so many bytes
abbrev pub IsWithin : ℕ → Token → Type 0
IsWithin len token = (token.place < token.end) × (token.end ≤ len)
