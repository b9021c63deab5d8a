-- The records that rise, and those that change.
use Rattle.std.proofs.Common.{◌≡◌, ◌↔◌, ℕ, ◌+◌, ◌<◌, ◌≤◌, max, true, List, Option, Some, None, inl, inr, refl, sym, ap, subst, ◌∙◌, arith}
use Rattle.std.specs.List.{slice_get}
use Rattle.std.specs.Option.{unwrap_or, is_some, option_or}
use Rattle.std.specs.Prelude.{not}
use Rattle.std.proofs.lemmas.Bool.{cases_lt, false≢true, ltb-true, lt-ltb, ne_eqb, eq-eqb}
use Rattle.std.proofs.lemmas.List.{append-nil}
use Rattle.std.proofs.lemmas.Option.{get_or_from_slice_get}
use Rattle.tracer_lang.specs.declared.record.Record.{Record}
use Rattle.analysers.specs.declared.row.Row.{Row}
use Rattle.analysers.specs.declared.kind.KindOf.TheVariants.{Rising, Changes}
use Rattle.analysers.specs.Analyses.{analyse}
use Rattle.analysers.specs.Streams.{told_along, is_above, greatest_word, risen, differs, last_word, changed}
use Rattle.analysers.specs.StreamMeanings.{AreRowsOf, HasWord, IsRise, IsNearest, IsChange}
use Rattle.analysers.specs.Words.{word_at, greater}
use Rattle.analysers.proofs.Due.{told_is_due}

-- ---- the word of a record

no_word : (word : ℕ) → None ≡ Some word → ⊥
no_word word same = false≢true (ap (λ (o : Option ℕ). is_some o) same)

one_word : (a b : ℕ) → Some a ≡ Some b → a ≡ b
one_word a b same = ap (λ (o : Option ℕ). unwrap_or o 0) same

pub one_record : (rs : List Record) (n : ℕ) (r q : Record) → slice_get rs n ≡ Some r
    → slice_get rs n ≡ Some q → r ≡ q
one_record rs n r q first second =
    sym (get_or_from_slice_get rs n r r first) ∙ get_or_from_slice_get rs n q r second

word_of : (place : ℕ) (rs : List Record) (n : ℕ) (r : Record) (word : ℕ)
    → slice_get rs n ≡ Some r → HasWord place rs n word → word_at place r ≡ Some word
word_of place rs n r word at (q, other, is) =
    ap (word_at place) (one_record rs n r q at other) ∙ is

same_word : (place : ℕ) (rs : List Record) (n a b : ℕ) → HasWord place rs n a
    → HasWord place rs n b → a ≡ b
same_word place rs n a b (r, at, is) other = one_word a b (sym is ∙ word_of place rs n r b at other)

-- no record before a number has a word
abbrev pub NoWord : ℕ → List Record → ℕ → Type 0
NoWord place rs n = (j word : ℕ) → j < n → HasWord place rs j word → ⊥

no_word_more : (place : ℕ) (rs : List Record) (n : ℕ) (r : Record) → slice_get rs n ≡ Some r
    → word_at place r ≡ None → NoWord place rs n → NoWord place rs (n + 1)
no_word_more place rs n r at none before j word less has =
    elim (cases_lt j n) [
      | inl earlier ↦ before j word earlier has
      | inr past ↦
          let same : j ≡ n = omega (arith, less, past) in
          no_word word
          (sym none ∙ word_of place rs n r word at (subst (λ (k : ℕ). HasWord place rs k word) same has))
    ]

-- ---- rising=I

-- the greatest word of the records before a number
abbrev pub Greatest : ℕ → List Record → Option ℕ → ℕ → Type 0
Greatest place rs None n = NoWord place rs n
Greatest place rs (Some most) n =
    ((j : ℕ) × (j < n) × HasWord place rs j most)
    × ((j word : ℕ) → j < n → HasWord place rs j word → word ≤ most)

greatest_more : (place : ℕ) (rs : List Record) (n : ℕ) (r : Record) (most o : Option ℕ)
    → slice_get rs n ≡ Some r → word_at place r ≡ o → Greatest place rs most n
    → Greatest place rs (greater most o) (n + 1)
greatest_more place rs n r None None at is known = no_word_more place rs n r at is known
greatest_more place rs n r (Some most) None at is ((j, less, has), all) = (
  (j, omega (arith, less), has),
  λ k word more one. elim (cases_lt k n) [
    | inl earlier ↦ all k word earlier one
    | inr past ↦
        let same : k ≡ n = omega (arith, more, past) in
        absurd (no_word word (sym is ∙ word_of place rs n r word at
        (subst (λ (i : ℕ). HasWord place rs i word) same one)))
  ],
)
greatest_more place rs n r None (Some new) at is known = (
  (n, let here : n < n + 1 = omega arith in here, (r, at, is)),
  λ k word more one. elim (cases_lt k n) [
    | inl earlier ↦ absurd (known k word earlier one)
    | inr past ↦
        let same : k ≡ n = omega (arith, more, past) in
        let e : new ≡ word = one_word new word (sym is ∙ word_of place rs n r word at
        (subst (λ (i : ℕ). HasWord place rs i word) same one)) in omega (arith, e)
  ],
)
greatest_more place rs n r (Some most) (Some new) at is ((j, less, has), all) = (
  elim (cases_lt most new) [
    | inl up ↦
        let e : new ≡ max most new = omega (arith, up) in (
          n,
          let here : n < n + 1 = omega arith in here,
          subst (HasWord place rs n) e (r, at, is),
        )
    | inr down ↦
        let e : most ≡ max most new = omega (arith, down) in
        (j, let there : j < n + 1 = omega (arith, less) in there, subst (HasWord place rs j) e has)
  ],
  λ k word more one. elim (cases_lt k n) [
    | inl earlier ↦ let le = all k word earlier one in omega (arith, le)
    | inr past ↦
        let same : k ≡ n = omega (arith, more, past) in
        let e : new ≡ word = one_word new word (sym is ∙ word_of place rs n r word at
        (subst (λ (i : ℕ). HasWord place rs i word) same one)) in omega (arith, e)
  ],
)

rise_told : (place : ℕ) (rs : List Record) (n : ℕ) (r : Record) (most o : Option ℕ)
    → slice_get rs n ≡ Some r → word_at place r ≡ o → Greatest place rs most n
    → (is_above most o ≡ true) ↔ IsRise place rs n
rise_told place rs n r None None at is known = (
  λ told. absurd (false≢true told),
  λ rise. absurd (no_word rise.0 (sym is ∙ word_of place rs n r rise.0 at rise.1)),
)
rise_told place rs n r (Some most) None at is known = (
  λ told. absurd (false≢true told),
  λ rise. absurd (no_word rise.0 (sym is ∙ word_of place rs n r rise.0 at rise.1)),
)
rise_told place rs n r None (Some new) at is known =
    (λ told. (new, (r, at, is), λ j word less has. absurd (known j word less has)), λ rise. refl)
rise_told place rs n r (Some most) (Some new) at is ((j, less, has), all) = (
  λ told.
      let up : most < new = ltb-true most new told in
      (new, (r, at, is), λ k word earlier one. let le = all k word earlier one in omega (arith, le, up)),
  λ rise.
      let e : new ≡ rise.0 = one_word new rise.0 (sym is ∙ word_of place rs n r rise.0 at rise.1) in
      let up = rise.2 j most less has in
      let above : most < new = omega (arith, e, up) in lt-ltb most new above,
)

pub rising_means : (place : ℕ) (rs : List Record)
    → AreRowsOf (IsRise place rs) rs (analyse (Rising place) rs)
unfolding analyse
rising_means place rs =
    let told = told_is_due (greatest_word place) (λ most r. is_above most (word_at place r)) rs
    (IsRise place rs) (Greatest place rs)
    (λ most n r at known. greatest_more place rs n r most (word_at place r) at refl known)
    (λ most n r at known. rise_told place rs n r most (word_at place r) at refl known) None
    (λ j word less has. omega (arith, less)) (λ k rise. (rise.1.0, rise.1.1)) in
    subst (λ (out : List Row). AreRowsOf (IsRise place rs) rs out)
    (sym (append-nil (told_along (greatest_word place) (risen place) None rs))) told.1

-- ---- changes=I

-- the last word of the records before a number
abbrev pub Last : ℕ → List Record → Option ℕ → ℕ → Type 0
Last place rs None n = NoWord place rs n
Last place rs (Some last) n = (j : ℕ) × IsNearest place rs n j last

last_more : (place : ℕ) (rs : List Record) (n : ℕ) (r : Record) (last o : Option ℕ)
    → slice_get rs n ≡ Some r → word_at place r ≡ o → Last place rs last n
    → Last place rs (option_or o last) (n + 1)
last_more place rs n r None None at is known = no_word_more place rs n r at is known
last_more place rs n r (Some last) None at is (j, near) = (
  j,
  (
    let less = near.0 in omega (arith, less),
    near.1,
    λ i other past more one. elim (cases_lt i n) [
      | inl earlier ↦ near.2 i other past earlier one
      | inr late ↦
          let same : i ≡ n = omega (arith, more, late) in
          no_word other (sym is ∙ word_of place rs n r other at
          (subst (λ (k : ℕ). HasWord place rs k other) same one))
    ],
  ),
)
last_more place rs n r last (Some new) at is known =
    (n, (omega arith, (r, at, is), λ i other past more one. omega (arith, past, more)))

one_nearest : (place : ℕ) (rs : List Record) (n i a j b : ℕ) → IsNearest place rs n i a
    → IsNearest place rs n j b → a ≡ b
one_nearest place rs n i a j b (less, has, between) (early, other, apart) =
    elim (cases_lt i j) [
      | inl before ↦ absurd (between j b before early other)
      | inr past ↦ elim (cases_lt j i) [
        | inl after ↦ absurd (apart i a after less has)
        | inr here ↦
            let same : i ≡ j = omega (arith, past, here) in
            same_word place rs j a b (subst (λ (k : ℕ). HasWord place rs k a) same has) other
      ]
    ]

change_told : (place : ℕ) (rs : List Record) (n : ℕ) (r : Record) (last o : Option ℕ)
    → slice_get rs n ≡ Some r → word_at place r ≡ o → Last place rs last n
    → (differs last o ≡ true) ↔ IsChange place rs n
change_told place rs n r None None at is known = (
  λ told. absurd (false≢true told),
  λ change. absurd (no_word change.0 (sym is ∙ word_of place rs n r change.0 at change.1)),
)
change_told place rs n r (Some last) None at is known = (
  λ told. absurd (false≢true told),
  λ change. absurd (no_word change.0 (sym is ∙ word_of place rs n r change.0 at change.1)),
)
change_told place rs n r None (Some new) at is known = (
  λ told. (new, (r, at, is), λ j word near. absurd (known j word near.0 near.1)),
  λ change. refl,
)
change_told place rs n r (Some last) (Some new) at is (j, near) = (
  λ told. (
    new,
    (r, at, is),
    λ k word other same.
        let e : new ≡ last = sym same ∙ one_nearest place rs n k word j last other near in
        false≢true (sym (ap not (eq-eqb new last e)) ∙ told),
  ),
  λ change.
      let e : new ≡ change.0 = one_word new change.0
      (sym is ∙ word_of place rs n r change.0 at change.1) in
      ap not (ne_eqb new last (λ same. change.2 j last near (sym same ∙ e))),
)

pub changes_means : (place : ℕ) (rs : List Record)
    → AreRowsOf (IsChange place rs) rs (analyse (Changes place) rs)
unfolding analyse
changes_means place rs =
    let told = told_is_due (last_word place) (λ last r. differs last (word_at place r)) rs
    (IsChange place rs) (Last place rs)
    (λ last n r at known. last_more place rs n r last (word_at place r) at refl known)
    (λ last n r at known. change_told place rs n r last (word_at place r) at refl known) None
    (λ j word less has. omega (arith, less)) (λ k change. (change.1.0, change.1.1)) in
    subst (λ (out : List Row). AreRowsOf (IsChange place rs) rs out)
    (sym (append-nil (told_along (last_word place) (changed place) None rs))) told.1
