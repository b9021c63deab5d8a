-- Codes that are put one after the other.
use Rattle.std.proofs.Common.{◌≡◌, ℕ, ◌+◌, ◌<◌, ◌≤◌, List, [], ◌∷◌, ◌++◌, length, map, drop, get_or, refl, sym, ap, ◌∙◌, arith, append_assoc, append-nil, length-append}
use Rattle.std.proofs.lemmas.List.{drop_more, drop_all}
use Rattle.sl_model.specs.declared.instr.Instr.{Instr}
use Rattle.tracer_compile.specs.Script.{joined, places_from}

-- How far the codes of a list were added behind a base, and their places told by some names: what
-- is left makes the whole.
pub record CodesLeft (codes : List (List Instr)) (base : List Instr) (name : ℕ → ℕ)
    (code : List Instr) (found : List ℕ) (i : ℕ) : Type 0 where
  pub grown : code ++ joined (drop i codes) ≡ base ++ joined codes
  pub told : found ++ map name (places_from (length code) (drop i codes))
      ≡ map name (places_from (length base) codes)

-- none was added
pub codes_begin : (codes : List (List Instr)) (base : List Instr) (name : ℕ → ℕ)
    → CodesLeft codes base name base [] 0
codes_begin codes base name = record { grown = refl; told = refl }

-- the next one was added
pub codes_go_on : (codes : List (List Instr)) (base : List Instr) (name : ℕ → ℕ)
    (code : List Instr) (found : List ℕ) (i : ℕ) (next grown : List Instr) (more : List ℕ)
    → CodesLeft codes base name code found i → i < length codes → get_or codes i [] ≡ next
    → grown ≡ code ++ next → more ≡ found ++ name (length code) ∷ []
    → CodesLeft codes base name grown more (i + 1)
unfolding joined places_from
codes_go_on codes base name code found i next grown more left within is_next grew told =
    let rest : List (List Instr) = drop (i + 1) codes in
    let split : drop i codes ≡ next ∷ rest =
    drop_more codes i [] within ∙ ap (λ c. c ∷ rest) is_next in
    let long : length grown ≡ length code + length next =
    ap length grew ∙ length-append code next in
    let all : grown ++ joined rest ≡ base ++ joined codes =
    ap (λ l. l ++ joined rest) grew ∙ append_assoc code next (joined rest)
    ∙ ap (λ l. code ++ joined l) (sym split) ∙ left.grown in
    let names : more ++ map name (places_from (length grown) rest)
    ≡ map name (places_from (length base) codes) =
    ap (λ l. l ++ map name (places_from (length grown) rest)) told
    ∙ append_assoc found (name (length code) ∷ []) (map name (places_from (length grown) rest))
    ∙ ap (λ n. found ++ name (length code) ∷ map name (places_from n rest)) long
    ∙ ap (λ l. found ++ map name (places_from (length code) l)) (sym split) ∙ left.told in
    record { grown = all; told = names }

-- all were added
pub codes_grown : (codes : List (List Instr)) (base : List Instr) (name : ℕ → ℕ)
    (code : List Instr) (found : List ℕ) (i : ℕ) → CodesLeft codes base name code found i
    → length codes ≤ i → code ≡ base ++ joined codes
unfolding joined
codes_grown codes base name code found i left over =
    sym (append-nil code) ∙ ap (λ l. code ++ joined l) (sym (drop_all i codes over)) ∙ left.grown

pub codes_told : (codes : List (List Instr)) (base : List Instr) (name : ℕ → ℕ)
    (code : List Instr) (found : List ℕ) (i : ℕ) → CodesLeft codes base name code found i
    → length codes ≤ i → found ≡ map name (places_from (length base) codes)
unfolding places_from
codes_told codes base name code found i left over =
    sym (append-nil found)
    ∙ ap (λ l. found ++ map name (places_from (length code) l)) (sym (drop_all i codes over))
    ∙ left.told

-- what was added so far is no longer than the whole
pub codes_within : (codes : List (List Instr)) (base : List Instr) (name : ℕ → ℕ)
    (code : List Instr) (found : List ℕ) (i : ℕ) → CodesLeft codes base name code found i
    → length code ≤ length base + length (joined codes)
codes_within codes base name code found i left =
    omega (
      arith,
      ap length left.grown,
      length-append code (joined (drop i codes)),
      length-append base (joined codes),
    )
