-- Each token of a name or a number is a longest run.
use Rattle.std.proofs.Common.{◌≡◌, ℕ, zero, suc, ◌+◌, ◌-◌, ◌<◌, ◌≤◌, ◌==◌, Bool, true, false, cond, List, [], ◌∷◌, ◌++◌, length, get_or, All, not, ◌⊎◌, inl, inr, refl, sym, ap, subst, ◌∙◌, eqb, arith}
use Rattle.std.specs.List.{prefix_len}
use Rattle.std.specs.Prelude.{◌||◌}
use Rattle.std.proofs.lemmas.Bool.{cases_lt, cases_eq, false≢true, eqb-true}
use Rattle.std.proofs.lemmas.List.{get_or_past}
use Rattle.std.proofs.lemmas.List.Sums.{prefix_len-le-length, prefix_len_passes, prefix_len_stops}
use Rattle.std.proofs.lemmas.List.Elements.{All-nil, All-cons, All-append}
use Rattle.tracer_text.specs.declared.token.Token.{Token}
use Rattle.tracer_text.specs.Tokens.{is_blank, is_run_byte, begins_token, more_of, token_at, tokens_from, tokens_of}
use Rattle.tracer_text.specs.Runs.{IsLongestRun, StandsAlone}

-- the byte behind what passes is of no name and no number
behind_run : (bs : List ℕ) → is_run_byte (get_or bs (prefix_len is_run_byte bs) 0) ≡ false
behind_run bs = elim (cases_lt (prefix_len is_run_byte bs) (length bs)) [
  | inl within ↦ prefix_len_stops is_run_byte bs 0 within
  | inr past ↦ ap is_run_byte (get_or_past bs (prefix_len is_run_byte bs) 0 past)
]

-- what is no line end is not what ends a comment
line_end : (c : ℕ) → not (eqb c 10) ≡ false → is_run_byte c ≡ false
line_end c is =
    let same : c ≡ 10 = eqb-true c 10 (twice (eqb c 10) is) in subst (λ (n : ℕ). is_run_byte n ≡ false)
    (sym same) refl
  where
    twice : (b : Bool) → not b ≡ false → b ≡ true
    twice true h = refl
    twice false h = sym h

behind_comment : (bs : List ℕ)
    → is_run_byte (get_or bs (prefix_len (λ c. not (c == 10)) bs) 0) ≡ false
behind_comment bs = elim (cases_lt (prefix_len (λ c. not (c == 10)) bs) (length bs)) [
  | inl within ↦
      line_end (get_or bs (prefix_len (λ c. not (c == 10)) bs) 0)
      (prefix_len_stops (λ c. not (c == 10)) bs 0 within)
  | inr past ↦
      ap is_run_byte (get_or_past bs (prefix_len (λ c. not (c == 10)) bs) 0 past)
]

second : (x y : Bool) → not (x || y) ≡ true → y ≡ false
second true y h = absurd (false≢true h)
second false false h = refl
second false true h = absurd (false≢true h)

no_comment : (b : ℕ) → begins_token b ≡ true → (b == 59) ≡ false
no_comment b is = second (is_blank b) (b == 59) is

module _ (text : List ℕ) where
  -- the byte before a place is of no name and no number
  abbrev Ends : ℕ → Type 0
  Ends place = (k : ℕ) → k + 1 ≡ place → is_run_byte (get_or text k 0) ≡ false

  abbrev Reads : ℕ → List ℕ → Type 0
  Reads place bs = (k : ℕ) → get_or text (place + k) 0 ≡ get_or bs k 0

  -- no run goes on where the next token may begin
  abbrev Parted : ℕ → ℕ → List ℕ → Type 0
  Parted skipped place bs =
      (is_run_byte (get_or bs skipped 0) ≡ false) ⊎ ((skipped ≡ 0) × Ends place)

  reads_more : (place b : ℕ) (bs : List ℕ) → Reads place (b ∷ bs) → Reads (place + 1) bs
  reads_more place b bs reads k =
      let e : place + suc k ≡ (place + 1) + k = omega arith in
      subst (λ (j : ℕ). get_or text j 0 ≡ get_or bs k 0) e (reads (suc k))

  first_byte : (place b : ℕ) (bs : List ℕ) → Reads place (b ∷ bs) → get_or text place 0 ≡ b
  first_byte place b bs reads =
      let e : place + 0 ≡ place = omega arith in
      subst (λ (j : ℕ). get_or text j 0 ≡ b) e (reads 0)

  -- behind a byte, and behind what belongs to it
  parted_by : (place b : ℕ) (bs : List ℕ) (comment run : Bool) → get_or text place 0 ≡ b
      → is_run_byte b ≡ run
      → Parted (cond comment (prefix_len (λ c. not (c == 10)) bs)
      (cond run (prefix_len is_run_byte bs) 0)) (place + 1) bs
  parted_by place b bs true run at is = inl (behind_comment bs)
  parted_by place b bs false true at is = inl (behind_run bs)
  parted_by place b bs false false at is =
      inr (
        refl,
        λ k next.
            let here : k ≡ place = omega (arith, next) in
            ap is_run_byte (ap (λ (j : ℕ). get_or text j 0) here ∙ at) ∙ is,
      )

  Right : Token → Type 0
  Right token = IsLongestRun text token ⊎ StandsAlone text token

  run_right : (place b : ℕ) (bs : List ℕ) → Reads place (b ∷ bs) → is_run_byte b ≡ true → Ends place
      → IsLongestRun text (record { place = place; end = place + 1 + prefix_len is_run_byte bs })
  run_right place b bs reads is ends = record {
    all = λ k low high. elim (cases_eq k place) [
      | inl here ↦
          ap is_run_byte (ap (λ (j : ℕ). get_or text j 0) here ∙ first_byte place b bs reads) ∙ is
      | inr other ↦
          let e : (place + 1) + (k - (place + 1)) ≡ k = omega (arith, low, other) in
          let within : k - (place + 1) < prefix_len is_run_byte bs = omega (arith, low, high, other) in
          ap is_run_byte (ap (λ (j : ℕ). get_or text j 0) (sym e)
          ∙ reads_more place b bs reads (k - (place + 1)))
          ∙ prefix_len_passes is_run_byte bs (k - (place + 1)) 0 within
    ];
    before = ends;
    behind = λ within.
        ap is_run_byte (reads_more place b bs reads (prefix_len is_run_byte bs)) ∙ behind_run bs;
  }

  -- the token that a byte begins
  token_by : (place b : ℕ) (bs : List ℕ) (comment run : Bool) → Reads place (b ∷ bs)
      → is_run_byte b ≡ run → comment ≡ false → Parted 0 place (b ∷ bs)
      → Right (record {
        place = place;
        end = place + 1 + cond comment (prefix_len (λ c. not (c == 10)) bs)
            (cond run (prefix_len is_run_byte bs) 0);
      })
  unfolding Right
  token_by place b bs true run reads is none parted = absurd (false≢true (sym none))
  token_by place b bs false true reads is none (inl other) = absurd (false≢true (sym other ∙ is))
  token_by place b bs false true reads is none (inr parted) =
      inl (run_right place b bs reads is parted.1)
  token_by place b bs false false reads is none parted =
      inr (omega arith, ap is_run_byte (first_byte place b bs reads) ∙ is)

  begun_by : (place b : ℕ) (bs : List ℕ) (begins : Bool) → begins_token b ≡ begins
      → Reads place (b ∷ bs) → Parted 0 place (b ∷ bs)
      → All Right (cond begins (record { place = place; end = place + 1 + more_of b bs } ∷ []) [])
  begun_by place b bs false is reads parted = All-nil Right
  begun_by place b bs true is reads parted =
      All-cons Right (record { place = place; end = place + 1 + more_of b bs }) []
      (token_by place b bs (b == 59) (is_run_byte b) reads refl (no_comment b is) parted)
      (All-nil Right)

  all_right : (skipped place : ℕ) (bs : List ℕ) → Reads place bs → Parted skipped place bs
      → All Right (tokens_from skipped place bs)
  all_right skipped place [] reads parted = All-nil Right
  all_right (suc skipped) place (b ∷ bs) reads (inl apart) =
      all_right skipped (place + 1) bs (reads_more place b bs reads) (inl apart)
  all_right (suc skipped) place (b ∷ bs) reads (inr parted) =
      let none = parted.0 in absurd (omega (arith, none))
  all_right zero place (b ∷ bs) reads parted =
      All-append Right (token_at place b bs) (tokens_from (more_of b bs) (place + 1) bs)
      (begun_by place b bs (begins_token b) refl reads parted)
      (all_right (more_of b bs) (place + 1) bs (reads_more place b bs reads)
      (parted_by place b bs (b == 59) (is_run_byte b) (first_byte place b bs reads) refl))

pub longest_runs : (text : List ℕ)
    → All (λ token. IsLongestRun text token ⊎ StandsAlone text token) (tokens_of text)
unfolding Right
longest_runs text =
    all_right text 0 0 text
    (λ k. let e : 0 + k ≡ k = omega arith in ap (λ (j : ℕ). get_or text j 0) e)
    (inr (refl, λ k next. absurd (omega (arith, next))))
