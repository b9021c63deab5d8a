-- What a token is, by the bytes of its text alone.
use Rattle.std.specs.Prelude.{◌≡◌, ℕ, ◌+◌, ◌<◌, ◌≤◌, ◌⊎◌, true, false, List, length, slice_index, All}
use Rattle.tracer_text.specs.declared.token.Token.{Token}
use Rattle.tracer_text.specs.Tokens.{is_run_byte, tokens_of}

-- a longest run: all its bytes are of names and numbers, the byte before it and the byte behind it
-- are not
pub record IsLongestRun (text : List ℕ) (token : Token) : Type 0 where
  pub all : (k : ℕ) → token.place ≤ k → k < token.end → is_run_byte (slice_index text k) ≡ true
  pub before : (k : ℕ) → k + 1 ≡ token.place → is_run_byte (slice_index text k) ≡ false
  pub behind : token.end < length text → is_run_byte (slice_index text token.end) ≡ false

-- one byte, which is of no name and no number
abbrev pub StandsAlone : List ℕ → Token → Type 0
StandsAlone text token =
    (token.end ≡ token.place + 1) × (is_run_byte (slice_index text token.place) ≡ false)

-- each token is the one or the other
abbrev pub TokensAreLongestRuns : Type 0
TokensAreLongestRuns =
    (text : List ℕ) → All (λ token. IsLongestRun text token ⊎ StandsAlone text token) (tokens_of text)
