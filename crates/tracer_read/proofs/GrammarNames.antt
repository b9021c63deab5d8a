-- Words and names: what is found is what is spelled.
use Rattle.std.proofs.Common.{◌≡◌, ◌≢◌, ◌<◌, ◌≤◌, ℕ, zero, suc, ◌+◌, ◌%◌, ◌^◌, ◌==◌, ◌&&◌, Bool, true, false, not, cond, ltb, leb, List, [], ◌∷◌, ◌++◌, length, Option, Some, None, Result, Ok, Err, IfOk, inl, inr, refl, sym, ap, subst, ◌∙◌, arith}
use Rattle.std.specs.Prelude.{is_some}
use Rattle.std.specs.Str.{bytes_eq}
use Rattle.std.specs.List.{prefix_len}
use Rattle.std.proofs.lemmas.Bool.{eq-eqb, eqb-true, false≢true, ltb-true, ltb-false, leb-true, le-leb}
use Rattle.std.proofs.lemmas.Bool.Decides.{Decides-ltb}
use Rattle.std.proofs.lemmas.List.{length_push}
use Rattle.std.proofs.lemmas.List.Sums.{prefix_len-le-length}
use Rattle.std.proofs.lemmas.Slice.Eq.{bytes_eq-Decides}
use Rattle.sl_base.specs.declared.symbol.Symbol.{Symbol}
use Rattle.tracer_text.specs.declared.fault.ScriptCause.{ScriptCause}
use Rattle.tracer_text.specs.declared.fault.ScriptCause.TheVariants as causes
use Rattle.tracer_text.specs.declared.fault.ScriptFault.{ScriptFault}
use Rattle.tracer_text.specs.declared.token.Token.{Token}
use Rattle.tracer_text.specs.FirstPass.{fault}
use Rattle.tracer_text.specs.Nodes.{Tree, atom, list, Trees, no_trees, tree}
use Rattle.tracer_read.specs.Numbers.{is_number, number_value}
use Rattle.tracer_read.specs.Parts.{◌>>=◌, or_fault, unless, spelling, place_of, word_of, number_of, number_within, name_index, new_name, new_local, symbol_value, symbol_of, only_part}
use Rattle.tracer_read.specs.Grammar.{IsNumber, IsWord, OnePart, IsName, IsSymbol}
use Rattle.tracer_read.specs.GrammarStatements.{IsNew, IsNewLocal}
use Rattle.tracer_read.proofs.Sound.{IfOk-then, both_true, not_false}

-- ---- steps

-- a value, and what is made of it
pub ok_bind : {A B : Type 0} (r : Result A ScriptFault) (f : A → Result B ScriptFault) (x : A)
    (y : Result B ScriptFault)
    → r ≡ Ok x → f x ≡ y → (r >>= f) ≡ y
ok_bind r f x y is goes_on = ap (λ r. r >>= f) is ∙ goes_on

pub unless_ok : {A : Type 0} (b : Bool) (place : ℕ) (cause : ScriptCause) (r : Result A ScriptFault)
    (x : A)
    → unless b place cause r ≡ Ok x → (b ≡ false) × (r ≡ Ok x)
unless_ok true place cause r x h = absurd cc
unless_ok false place cause r x h = (refl, h)

pub not_broken : {A : Type 0} (b : Bool) (place : ℕ) (cause : ScriptCause)
    (r : Result A ScriptFault)
    → b ≡ false → unless b place cause r ≡ r
not_broken b place cause r is = ap (λ b. unless b place cause r) is

pub or_fault_ok : {A : Type 0} (place : ℕ) (cause : ScriptCause) (o : Option A) (x : A)
    → or_fault place cause o ≡ Ok x → o ≡ Some x
or_fault_ok place cause (Some y) x h = ap Some cc
or_fault_ok place cause None x h = absurd cc

pub or_fault_is : {A : Type 0} (place : ℕ) (cause : ScriptCause) (o : Option A) (P : A → Type 0)
    → ((x : A) → o ≡ Some x → P x) → IfOk (or_fault place cause o) P
or_fault_is place cause (Some x) P k = k x refl
or_fault_is place cause None P k = tt

pub IfOk-if : {A : Type 0} (b : Bool) (r s : Result A ScriptFault) (P : A → Type 0)
    → (b ≡ true → IfOk r P) → (b ≡ false → IfOk s P) → IfOk (cond b r s) P
IfOk-if true r s P h k = h refl
IfOk-if false r s P h k = k refl

-- what holds of each value holds of this one
pub of_value : {A : Type 0} (r : Result A ScriptFault) (x : A) (P : A → Type 0) → IfOk r P
    → r ≡ Ok x → P x
of_value r x P h is = subst (λ r. IfOk r P) is h

-- ---- spellings

pub is_false : (b : Bool) → (b ≡ true → ⊥) → b ≡ false
is_false true h = absurd (h refl)
is_false false h = refl

pub equal_bytes : (a b : List ℕ) → a ≡ b → bytes_eq a b ≡ true
equal_bytes a b e = (bytes_eq-Decides a b).1 e

pub other_bytes : (a b : List ℕ) → a ≢ b → bytes_eq a b ≡ false
other_bytes a b other = is_false (bytes_eq a b) (λ is. other ((bytes_eq-Decides a b).0 is))

pub not_equal : (a b : List ℕ) → bytes_eq a b ≡ false → a ≢ b
not_equal a b is e = false≢true (sym is ∙ equal_bytes a b e)

-- ---- places of names

abbrev is_named : List ℕ → Token → Token → Bool
is_named text word name = bytes_eq (spelling text name) (spelling text word)

abbrev others : List ℕ → Token → List Token → ℕ
others text word names = prefix_len (λ name. not (is_named text word name)) names

name_place : (text : List ℕ) (names : List Token) (i : ℕ) (word : Token) → IsName text names i word
    → (others text word names ≡ i) × (i < length names)
name_place text [] i word h = absurd h
name_place text (name ∷ names) zero word h = (
  ap (λ b. cond (not b) (1 + others text word names) 0)
      (equal_bytes (spelling text name) (spelling text word) h),
  omega arith,
)
name_place text (name ∷ names) (suc i) word h =
    let behind = name_place text names i word h.1 in
    let step : cond (not (is_named text word name))
    (1 + others text word names) 0 ≡ 1 + others text word names =
    ap (λ b. cond (not b) (1 + others text word names) 0)
    (other_bytes (spelling text name) (spelling text word) h.0) in
    let more : 1 + others text word names ≡ suc i = omega (arith, behind.0) in
    (step ∙ more, omega (arith, behind.1))

-- the same from the place on
name_at : (text : List ℕ) (name : Token) (names : List Token) (i n : ℕ) (word : Token) (b : Bool)
    → is_named text word name ≡ b → cond (not b) (1 + n) 0 ≡ i → i < length (name ∷ names)
    → ((j : ℕ) → n ≡ j → j < length names → IsName text names j word)
    → IsName text (name ∷ names) i word
name_at text name names zero n word true is at below behind =
    (bytes_eq-Decides (spelling text name) (spelling text word)).0 is
name_at text name names (suc i) n word true is at below behind = absurd (omega (arith, at))
name_at text name names zero n word false is at below behind = absurd (omega (arith, at))
name_at text name names (suc i) n word false is at below behind = (
  not_equal (spelling text name) (spelling text word) is,
  behind i (omega (arith, at))
      (omega (arith, below)),
)

place_name : (text : List ℕ) (names : List Token) (i : ℕ) (word : Token)
    → others text word names ≡ i → i < length names → IsName text names i word
place_name text [] i word at below = absurd (omega (arith, below))
place_name text (name ∷ names) i word at below =
    name_at text name names i (others text word names) word (is_named text word name) refl at below
    (λ j is lt. place_name text names j word is lt)

some_place : (b : Bool) (n i : ℕ) → cond b (Some n) None ≡ Some i → (b ≡ true) × (n ≡ i)
some_place true n i h = (refl, cc)
some_place false n i h = absurd cc

pub index_names : (text : List ℕ) (names : List Token) (word : Token) (i : ℕ)
    → name_index text names word ≡ Some i → IsName text names i word
index_names text names word i h =
    let n = others text word names in
    let found = some_place (ltb n (length names)) n i h in
    let below : n < length names = ltb-true n (length names) found.0 in
    place_name text names i word found.1 (omega (arith, below, found.1))

pub names_index : (text : List ℕ) (names : List Token) (word : Token) (i : ℕ)
    → IsName text names i word → name_index text names word ≡ Some i
names_index text names word i h =
    let at = name_place text names i word h in
    let below : ltb i (length names) ≡ true = (Decides-ltb i (length names)).1 at.1 in
    ap (λ n. cond (ltb n (length names)) (Some n) None) at.0 ∙ ap (λ b. cond b (Some i) None) below

-- ---- new names

new_place : (text : List ℕ) (names : List Token) (word : Token) → IsNew text names word
    → others text word names ≡ length names
new_place text [] word h = refl
new_place text (name ∷ names) word h =
    let step : cond (not (is_named text word name))
    (1 + others text word names) 0 ≡ 1 + others text word names =
    ap (λ b. cond (not b) (1 + others text word names) 0)
    (other_bytes (spelling text name) (spelling text word) h.0) in
    let more : 1 + others text word names ≡ length (name ∷ names) =
    omega (arith, new_place text names word h.1) in
    step ∙ more

new_at : (text : List ℕ) (name : Token) (names : List Token) (n : ℕ) (word : Token) (b : Bool)
    → is_named text word name ≡ b → length (name ∷ names) ≤ cond (not b) (1 + n) 0
    → (length names ≤ n → IsNew text names word) → IsNew text (name ∷ names) word
new_at text name names n word true is all behind = absurd (omega (arith, all))
new_at text name names n word false is all behind =
    (not_equal (spelling text name) (spelling text word) is, behind (omega (arith, all)))

place_new : (text : List ℕ) (names : List Token) (word : Token)
    → length names ≤ others text word names → IsNew text names word
place_new text [] word all = tt
place_new text (name ∷ names) word all =
    new_at text name names (others text word names) word (is_named text word name) refl all
    (λ le. place_new text names word le)

no_place : (b : Bool) (n : ℕ) → is_some (cond b (Some n) None) ≡ false → b ≡ false
no_place true n h = absurd cc
no_place false n h = refl

pub unfound_is_new : (text : List ℕ) (names : List Token) (word : Token)
    → is_some (name_index text names word) ≡ false → IsNew text names word
unfound_is_new text names word h =
    let n = others text word names in
    place_new text names word (ltb-false n (length names) (no_place (ltb n (length names)) n h))

pub new_is_unfound : (text : List ℕ) (names : List Token) (word : Token) → IsNew text names word
    → is_some (name_index text names word) ≡ false
new_is_unfound text names word h =
    let n = others text word names in
    let none : ltb n (length names) ≡ false = is_false (ltb n (length names)) (λ is.
    let below : n < length names = ltb-true n (length names) is in
    omega (arith, below, new_place text names word h)) in
    ap (λ b. is_some (cond b (Some n) None)) none

pub new_name-ok : (text : List ℕ) (names : List Token) (word : Token) → IsNew text names word
    → new_name text names word ≡ Ok (names ++ word ∷ [])
new_name-ok text names word h =
    not_broken (is_some (name_index text names word)) word.place causes.NameDoubled
    (Ok (names ++ word ∷ [])) (new_is_unfound text names word h)

pub new_name-is : (text : List ℕ) (names : List Token) (word : Token) (after : List Token)
    → new_name text names word ≡ Ok after
    → IsNew text names word × (after ≡ names ++ word ∷ [])
new_name-is text names word after h =
    let passed = unless_ok (is_some (name_index text names word)) word.place causes.NameDoubled
    (Ok (names ++ word ∷ [])) after h in
    let same : names ++ word ∷ [] ≡ after = cc (passed.1) in
    (unfound_is_new text names word passed.0, sym same)

pub new_local-is : (text : List ℕ) (names : List Token) (word : Token) → length names ≤ 16
    → IfOk (new_local text names word) (λ after. IsNewLocal text names after word)
new_local-is text names word few =
    IfOk-then (new_name text names word) _ (λ after. IsNewLocal text names after word) (λ more is.
    IfOk-if (length names == 16) (Err (fault word.place causes.TooLarge)) (Ok more)
    (λ after. IsNewLocal text names after word) (λ _. tt) (λ room.
    let new = new_name-is text names word more is in
    let other : length names ≢ 16 = λ e. false≢true (sym room ∙ eq-eqb (length names) 16 e) in
    let grown : length more ≡ length names + 1 = ap length new.1 ∙ length_push names word in
    (new.0, new.1, omega (arith, grown, few, other))))

pub new_local-ok : (text : List ℕ) (names after : List Token) (word : Token)
    → IsNewLocal text names after word → new_local text names word ≡ Ok after
new_local-ok text names after word h =
    let grown : length after ≡ length names + 1 = ap length h.1 ∙ length_push names word in
    let room : (length names == 16) ≡ false = is_false (length names == 16) (λ is.
    let full : length names ≡ 16 = eqb-true (length names) 16 is in
    omega (arith, full, grown, h.2)) in
    ok_bind (new_name text names word) (λ more.
    unless (length names == 16) word.place causes.TooLarge (Ok more)) (names ++ word ∷ [])
    (Ok after)
    (new_name-ok text names word h.0)
    (not_broken (length names == 16) word.place causes.TooLarge (Ok (names ++ word ∷ [])) room
    ∙ ap Ok (sym h.1))

-- ---- words and numbers

pub word_spelled : (text : List ℕ) (t : Tree) (word : Token) (Holds : Token → Type 0)
    → word_of text t ≡ Ok word → Holds word → IsWord text Holds t
word_spelled text (atom token) word Holds is h =
    let passed = unless_ok (is_number (spelling text token)) token.place causes.Form
    (Ok token) word is in
    let same : token ≡ word = cc (passed.1) in
    (passed.0, subst Holds (sym same) h)
word_spelled text (list place parts) word Holds is h = absurd cc

pub word_read : (text : List ℕ) (t : Tree) (Holds : Token → Type 0) → IsWord text Holds t
    → (word : Token) × (word_of text t ≡ Ok word) × Holds word
word_read text (atom token) Holds h = (
  token,
  not_broken (is_number (spelling text token)) token.place causes.Form
      (Ok token) h.0,
  h.1,
)
word_read text (list place parts) Holds h = absurd h

pub number_spelled : (text : List ℕ) (t : Tree) → IfOk (number_of text t) (λ n. IsNumber text n t)
number_spelled text (atom token) =
    let word = spelling text token in
    IfOk-if (is_number word) (or_fault token.place causes.Number (number_value word))
    (Err (fault token.place causes.Form)) (λ n. IsNumber text n (atom token))
    (λ is. or_fault_is token.place causes.Number (number_value word)
    (λ n. IsNumber text n (atom token)) (λ n found. (is, found))) (λ _. tt)
number_spelled text (list place parts) = tt

pub number_read : (text : List ℕ) (t : Tree) (n : ℕ) → IsNumber text n t → number_of text t ≡ Ok n
number_read text (atom token) n h =
    let word = spelling text token in
    ap (λ b. cond b (or_fault token.place causes.Number (number_value word))
    (Err (fault token.place causes.Form))) h.0
    ∙ ap (λ o. or_fault token.place causes.Number o) h.1
number_read text (list place parts) n h = absurd h

pub number_within-is : (least most : ℕ) (text : List ℕ) (t : Tree)
    → IfOk (number_within least most text t) (λ n. IsNumber text n t × (least ≤ n) × (n ≤ most))
number_within-is least most text t =
    let Q : ℕ → Type 0 = λ n. IsNumber text n t × (least ≤ n) × (n ≤ most) in
    IfOk-then (number_of text t) _ Q (λ n is.
    IfOk-if (leb least n && leb n most) (Ok n) (Err (fault (place_of t) causes.Number)) Q
    (λ within.
    let both = both_true (leb least n) (leb n most) within in (
      of_value (number_of text t) n (λ n. IsNumber text n t)
          (number_spelled text t) is,
      leb-true least n both.0,
      leb-true n most both.1,
    ))
    (λ _. tt))

pub number_within-ok : (least most : ℕ) (text : List ℕ) (t : Tree) (n : ℕ)
    → IsNumber text n t → least ≤ n → n ≤ most → number_within least most text t ≡ Ok n
number_within-ok least most text t n is low high =
    let test : ℕ → Result ℕ ScriptFault = λ n.
    cond (leb least n && leb n most) (Ok n) (Err (fault (place_of t) causes.Number)) in
    ok_bind (number_of text t) test n (Ok n) (number_read text t n is)
    (ap (λ b. cond (b && leb n most) (Ok n) (Err (fault (place_of t) causes.Number)))
    (le-leb least n low)
    ∙ ap (λ b. cond b (Ok n) (Err (fault (place_of t) causes.Number))) (le-leb n most high))

-- ---- symbols

pub symbol_read : (symbols : List Symbol) (name : List ℕ) (n : ℕ) → IsSymbol symbols name n
    → symbol_value symbols name ≡ Some n
symbol_read [] name n h = absurd h
symbol_read (symbol ∷ symbols) name n (inl h) =
    ap (λ b. cond b (Some (symbol.value % 2 ^ 32)) (symbol_value symbols name))
    (equal_bytes symbol.name name h.0) ∙ ap Some h.1
symbol_read (symbol ∷ symbols) name n (inr h) =
    ap (λ b. cond b (Some (symbol.value % 2 ^ 32)) (symbol_value symbols name))
    (other_bytes symbol.name name h.0) ∙ symbol_read symbols name n h.1

symbol_at : (symbol : Symbol) (symbols : List Symbol) (name : List ℕ) (n : ℕ) (b : Bool)
    → bytes_eq symbol.name name ≡ b
    → cond b (Some (symbol.value % 2 ^ 32)) (symbol_value symbols name) ≡ Some n
    → (symbol_value symbols name ≡ Some n → IsSymbol symbols name n)
    → IsSymbol (symbol ∷ symbols) name n
symbol_at symbol symbols name n true is found behind =
    inl ((bytes_eq-Decides symbol.name name).0 is, cc (found))
symbol_at symbol symbols name n false is found behind =
    inr (not_equal symbol.name name is, behind found)

pub symbol_spelled : (symbols : List Symbol) (name : List ℕ) (n : ℕ)
    → symbol_value symbols name ≡ Some n → IsSymbol symbols name n
symbol_spelled [] name n h = absurd cc
symbol_spelled (symbol ∷ symbols) name n h =
    symbol_at symbol symbols name n (bytes_eq symbol.name name) refl h
    (λ found. symbol_spelled symbols name n found)
