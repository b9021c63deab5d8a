-- Words that spell instructions, one more at a time.
use Rattle.std.proofs.Common.{◌≡◌, ℕ, suc, ◌+◌, ◌<◌, List, [], ◌∷◌, ◌++◌, length, take, get_or, refl, sym, ap, ◌∙◌, subst}
use Rattle.std.proofs.lemmas.List.{take_more}
use Rattle.sl_model.specs.declared.instr.Instr.{Instr}
use Rattle.sl_model.specs.Words.{Means}
use Rattle.word_blocks.specs.Code.{Spells}

spells_more : (words : List ℕ) (code : List Instr) (word : ℕ) (instr : Instr)
    → Spells words code → Means word instr → Spells (words ++ word ∷ []) (code ++ instr ∷ [])
spells_more [] [] word instr so_far next = (next, tt)
spells_more (w ∷ words) (i ∷ code) word instr so_far next =
    (so_far.0, spells_more words code word instr so_far.1 next)
spells_more [] (i ∷ code) word instr so_far next = absurd so_far
spells_more (w ∷ words) [] word instr so_far next = absurd so_far

-- the word of the next instruction was added
pub spells_next : (code : List Instr) (i : ℕ) (instr : Instr) (words more : List ℕ) (word : ℕ)
    → i < length code → instr ≡ get_or code i instr → Spells words (take i code)
    → Means word instr → more ≡ words ++ word ∷ [] → Spells more (take (i + 1) code)
spells_next code i instr words more word within is so_far next added =
    let longer : take (i + 1) code ≡ take i code ++ instr ∷ [] =
    take_more code i instr within ∙ ap (λ x. take i code ++ x ∷ []) (sym is) in
    let Of : List Instr → Type 0 = λ c. Spells more c in
    let By : List ℕ → Type 0 = λ ws. Spells ws (take i code ++ instr ∷ []) in
    subst Of (sym longer)
    (subst By (sym added) (spells_more words (take i code) word instr so_far next))

pub length-Spells : (words : List ℕ) (code : List Instr) → Spells words code
    → length words ≡ length code
length-Spells [] [] spelt = refl
length-Spells (w ∷ words) (i ∷ code) spelt = ap (λ n. suc n) (length-Spells words code spelt.1)
length-Spells [] (i ∷ code) spelt = absurd spelt
length-Spells (w ∷ words) [] spelt = absurd spelt
