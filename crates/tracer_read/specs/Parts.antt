-- The parts of lists: how many there are, and what stands in their places.
use Rattle.std.specs.Prelude.{ℕ, ◌+◌, ◌%◌, ◌^◌, ◌==◌, ◌&&◌, Bool, nat_le, List, [], ◌∷◌, ◌++◌, length, slice_range, position, Option, Some, None, is_some, Result, Ok, Err, if◌then◌else◌}
use Rattle.std.specs.Str.{bytes_eq}
use Rattle.sl_base.specs.declared.symbol.Symbol.{Symbol}
use Rattle.tracer_text.specs.declared.fault.ScriptCause.{ScriptCause}
use Rattle.tracer_text.specs.declared.fault.ScriptCause.TheVariants.{Form, NameDoubled, Arity, Number, SymbolUnknown, TooLarge}
use Rattle.tracer_text.specs.declared.fault.ScriptFault.{ScriptFault}
use Rattle.tracer_text.specs.declared.token.Token.{Token}
use Rattle.tracer_text.specs.FirstPass.{fault}
use Rattle.tracer_text.specs.Nodes.{Tree, atom, list, Trees, no_trees, tree}
use Rattle.tracer_read.specs.Numbers.{is_number, number_value}

infixl 10 ◌>>=◌
abbrev pub ◌>>=◌ : {A B : Type 0}
    → Result A ScriptFault → (A → Result B ScriptFault) → Result B ScriptFault
(Ok x) >>= f = f x
(Err e) >>= f = Err e

-- a value, or a fault where there is none
abbrev pub or_fault : {A : Type 0} → ℕ → ScriptCause → Option A → Result A ScriptFault
or_fault place cause (Some x) = Ok x
or_fault place cause None = Err (fault place cause)

-- nothing more, or a fault where a rule is broken
abbrev pub unless : {A : Type 0}
    → Bool → ℕ → ScriptCause → Result A ScriptFault → Result A ScriptFault
unless broken place cause more = if broken then Err (fault place cause) else more

-- ---- tokens

abbrev pub spelling : List ℕ → Token → List ℕ
spelling text token = slice_range text token.place token.end

-- the place of a node's first byte
abbrev pub place_of : Tree → ℕ
place_of (atom token) = token.place
place_of (list place trees) = place

-- a word, in a place that takes a name
abbrev pub word_of : List ℕ → Tree → Result Token ScriptFault
word_of text (atom token) = unless (is_number (spelling text token)) token.place Form (Ok token)
word_of text (list place trees) = Err (fault place Form)

-- a number's value, in a place that takes a number
abbrev pub number_of : List ℕ → Tree → Result ℕ ScriptFault
number_of text (atom token) =
    if is_number (spelling text token)
    then or_fault token.place Number (number_value (spelling text token))
    else Err (fault token.place Form)
number_of text (list place trees) = Err (fault place Form)

-- the same, from one number to another
abbrev pub number_within : ℕ → ℕ → List ℕ → Tree → Result ℕ ScriptFault
number_within least most text t = do
  n ← number_of text t
  if nat_le least n && nat_le n most then Ok n else Err (fault (place_of t) Number)

-- ---- names

-- the number of the first of these names that is spelled as a token
abbrev pub name_index : List ℕ → List Token → Token → Option ℕ
name_index text names token =
    position (λ name. bytes_eq (spelling text name) (spelling text token)) names

-- a new name behind the others
abbrev pub new_name : List ℕ → List Token → Token → Result (List Token) ScriptFault
new_name text names token =
    unless (is_some (name_index text names token)) token.place NameDoubled
    (Ok (names ++ token ∷ []))

-- a new local or parameter of a body, which has at most 16
abbrev pub new_local : List ℕ → List Token → Token → Result (List Token) ScriptFault
new_local text names token = do
  more ← new_name text names token
  unless (length names == 16) token.place TooLarge (Ok more)

-- the value of the first symbol of this name, as a word
abbrev pub symbol_value : List Symbol → List ℕ → Option ℕ
symbol_value [] name = None
symbol_value (symbol ∷ symbols) name =
    if bytes_eq symbol.name name then Some (symbol.value % 2 ^ 32) else symbol_value symbols name

-- a symbol's value, in a place that takes a symbol
abbrev pub symbol_of : List ℕ → List Symbol → Tree → Result ℕ ScriptFault
symbol_of text symbols t = do
  token ← word_of text t
  or_fault token.place SymbolUnknown (symbol_value symbols (spelling text token))

-- ---- how many parts a list has

-- nothing, where there are no parts
abbrev pub no_part : {A : Type 0} → ℕ → Trees → A → Result A ScriptFault
no_part place no_trees x = Ok x
no_part place trees x = Err (fault place Arity)

-- the only part
abbrev pub only_part : ℕ → Trees → Result Tree ScriptFault
only_part place (tree t no_trees) = Ok t
only_part place trees = Err (fault place Arity)

-- the only two parts
abbrev pub two_parts : ℕ → Trees → Result (Tree × Tree) ScriptFault
two_parts place (tree t (tree u no_trees)) = Ok (t, u)
two_parts place trees = Err (fault place Arity)

abbrev pub part_count : Trees → ℕ
part_count no_trees = 0
part_count (tree t trees) = 1 + part_count trees

-- what the only part gives
abbrev pub one : {A : Type 0} → ℕ → List (Result A ScriptFault) → Result A ScriptFault
one place (x ∷ []) = x
one place xs = Err (fault place Arity)

-- what the only two parts give, in order
abbrev pub two : {A : Type 0} → ℕ → List (Result A ScriptFault) → Result (A × A) ScriptFault
two place (x ∷ y ∷ []) = do
  a ← x
  b ← y
  Ok (a, b)
two place xs = Err (fault place Arity)
