-- Parts of code, and code that stands in memory.
use Rattle.std.specs.Prelude.{slice_get, slice_index_or}
use Rattle.std.proofs.Common.{◌≡◌, ℕ, zero, suc, ◌+◌, ◌*◌, ◌%◌, ◌^◌, ◌<◌, ◌≤◌, List, [], ◌∷◌, ◌++◌, length, Some, refl, ap, ◌∙◌, sym, subst, arith}
use Rattle.std.proofs.lemmas.Option.{slice_get_within}
use Rattle.sl_model.specs.declared.instr.Instr.{Instr}
use Rattle.sl_model.specs.Pages.{Pages, load_at}
use Rattle.sl_model.specs.Words.{Means}
use Rattle.sl_model.proofs.Meanings.{meaning-Means}
use Rattle.word_blocks.specs.Code.{CodeStands, HasBlock, Spells}
use Rattle.word_blocks.proofs.Bytes.{SameBytes, SameBytes-part, load_at-same}

-- ---- parts

-- the two parts of a block
pub HasBlock-parts : (code : List Instr) (place : ℕ) (first second : List Instr) → HasBlock code place (first ++ second) → HasBlock code place first × HasBlock code (place + length first) second
HasBlock-parts code place [] second has =
    let here : place ≡ place + 0 = omega arith in
    (tt, subst (λ q. HasBlock code q second) here has)
HasBlock-parts code place (instr ∷ first) second has =
    let rest = HasBlock-parts code (place + 1) first second has.1 in
    let there : place + 1 + length first ≡ place + suc (length first) = omega arith in
    ((has.0, rest.0), subst (λ q. HasBlock code q second) there rest.1)

-- the instruction of a block that stands after so many others
pub HasBlock-get : (code : List Instr) (place : ℕ) (block : List Instr) (k : ℕ) (instr : Instr) → HasBlock code place block → slice_get block k ≡ Some instr → slice_get code (place + k) ≡ Some instr
HasBlock-get code place [] k instr has found = absurd cc
HasBlock-get code place (first ∷ rest) zero instr has found =
    let here : place + 0 ≡ place = omega arith in
    ap (slice_get code) here ∙ has.0 ∙ found
HasBlock-get code place (first ∷ rest) (suc k) instr has found =
    let there : place + suc k ≡ place + 1 + k = omega arith in
    ap (slice_get code) there ∙ HasBlock-get code (place + 1) rest k instr has.1 found

-- a block ends within the code
pub HasBlock-within : (code : List Instr) (place : ℕ) (block : List Instr) → HasBlock code place block → place ≤ length code → place + length block ≤ length code
HasBlock-within code place [] has inside = omega (arith, inside)
HasBlock-within code place (instr ∷ rest) has inside =
    let further : place + 1 ≤ length code = slice_get_next (slice_get_within code place instr has.0) in
    omega (arith, HasBlock-within code (place + 1) rest has.1 further)
  where
    slice_get_next : place < length code → place + 1 ≤ length code
    slice_get_next below = omega (arith, below)

after_first : (first : Instr) (code : List Instr) (place : ℕ) (block : List Instr) → HasBlock code place block → HasBlock (first ∷ code) (place + 1) block
after_first first code place [] has = tt
after_first first code place (instr ∷ rest) has =
    let next : place + 1 ≡ suc place = omega arith in
    (ap (slice_get (first ∷ code)) next ∙ has.0, after_first first code (place + 1) rest has.1)

-- code is a part of itself
pub HasBlock-whole : (code : List Instr) → HasBlock code 0 code
HasBlock-whole [] = tt
HasBlock-whole (instr ∷ rest) = (refl, after_first instr rest 0 rest (HasBlock-whole rest))

-- ---- in memory

-- code that stands in some bytes stands in the same bytes
pub CodeStands-same : (start : ℕ) (code : List Instr) (m m' : Pages) → CodeStands start code m → SameBytes start (4 * length code) m m' → CodeStands start code m'
CodeStands-same start code m m' stands same = record {
  aligned = stands.aligned;
  within = stands.within;
  words = λ place instr here.
      let found = stands.words place instr here in
      let inside : place < length code = slice_get_within code place instr here in
      let part : SameBytes (start + 4 * place) 4 m m' = SameBytes-part start (4 * length code) (start + 4 * place) 4 m m' same (omega arith) (omega (arith, inside)) in
      (found.0, sym (load_at-same m m' (start + 4 * place) 4 part) ∙ found.1, found.2);
}

-- a word that spells an instruction
spelled : (words : List ℕ) (code : List Instr) (place : ℕ) (instr : Instr) → Spells words code → slice_get code place ≡ Some instr → Means (slice_index_or words place 0) instr
spelled [] [] place instr spells here = absurd cc
spelled [] (first ∷ rest) place instr spells here = absurd spells
spelled (word ∷ words) [] place instr spells here = absurd spells
spelled (word ∷ words) (first ∷ rest) zero instr spells here =
    let same : first ≡ instr = cc in
    subst (Means word) same spells.0
spelled (word ∷ words) (first ∷ rest) (suc place) instr spells here = spelled words rest place instr spells.1 here

-- words that stand in memory and spell code make it stand there
pub CodeStands-spelled : (start : ℕ) (words : List ℕ) (code : List Instr) (m : Pages) → start % 4 ≡ 0 → start + 4 * length code < 2 ^ 32 → Spells words code
    → ((k : ℕ) → k < length code → load_at m (start + 4 * k) 4 ≡ Some (slice_index_or words k 0)) → CodeStands start code m
CodeStands-spelled start words code m aligned within spells stand = record {
  aligned = aligned;
  within = within;
  words = λ place instr here.
      (slice_index_or words place 0, stand place (slice_get_within code place instr here), meaning-Means (slice_index_or words place 0) instr (spelled words code place instr spells here));
}
