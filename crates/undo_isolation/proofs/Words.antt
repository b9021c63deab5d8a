-- Words that stand one after the other.
use Rattle.std.specs.Prelude.{List, [], ◌∷◌, ◌++◌, Option, Some, None, IfSome, is_some, unwrap_or}
use Rattle.std.proofs.Common.{◌≡◌, ℕ, zero, suc, ◌+◌, ◌*◌, length, true, refl, ap, ◌∙◌, sym, arith}
use Rattle.sl_model.specs.Pages.{Pages}
use Rattle.sl_model.specs.Bank.{words_at}
use Rattle.sl_model.specs.Undo.{word_at}
use Rattle.tracer_lang.specs.declared.record.Record.{Record}

pub length-words_at : (pages : Pages) (address count : ℕ) → length (words_at pages address count) ≡ count
unfolding words_at
length-words_at pages address zero = refl
length-words_at pages address (suc count) = ap suc (length-words_at pages (address + 4) count)

-- one word more at the end
pub words_at-suc : (pages : Pages) (address count : ℕ) → words_at pages address (suc count) ≡ words_at pages address count ++ word_at pages (address + 4 * count) ∷ []
unfolding words_at
words_at-suc pages address zero =
    let here : address + 4 * 0 ≡ address = omega arith in
    rw here refl
words_at-suc pages address (suc count) =
    let there : address + 4 + 4 * count ≡ address + 4 * suc count = omega arith in
    ap (λ rest. word_at pages address ∷ rest) (words_at-suc pages (address + 4) count ∙ ap (λ a. words_at pages (address + 4) count ++ word_at pages a ∷ []) there)

-- a word that is there
pub word-there : (o : Option ℕ) (w : ℕ) → is_some o ≡ true → IfSome o (λ x. x ≡ w) → unwrap_or o 0 ≡ w
word-there None w some is = absurd cc
word-there (Some x) w some is = is

-- a record with these words
abbrev pub with_words : Record → List ℕ → Record
with_words told words = record told { words = words }

pub with_words-same : (told : Record) (words : List ℕ) → told.words ≡ words → told ≡ with_words told words
with_words-same told words same = λ i. record { count = told.count; point = told.point; pc = told.pc; words = same i; outcome = told.outcome }

-- a word more is read
pub with_words-suc : (pages : Pages) (address count word : ℕ) (told before after : Record) → before ≡ with_words told (words_at pages address count) → word ≡ word_at pages (address + 4 * count) → after ≡ with_words before (before.words ++ word ∷ [])
    → after ≡ with_words told (words_at pages address (count + 1))
with_words-suc pages address count word told before after so_far is added =
    let longer : count + 1 ≡ suc count = omega arith in
    let words : before.words ≡ words_at pages address count = ap (λ (r : Record). r.words) so_far in
    let all : before.words ++ word ∷ [] ≡ words_at pages address (count + 1) =
    ap (λ ws. ws ++ word ∷ []) words ∙ ap (λ w. words_at pages address count ++ w ∷ []) is ∙ sym (words_at-suc pages address count) ∙ sym (ap (words_at pages address) longer) in
    added ∙ ap (λ (r : Record). with_words r (before.words ++ word ∷ [])) so_far ∙ ap (with_words told) all
