-- How expressions are spelled: which nodes may be written for each. Nothing here speaks of faults,
-- or of an order in which nodes are looked at.
use Rattle.std.specs.Prelude.{◌≡◌, ◌≢◌, ℕ, ◌+◌, ◌%◌, ◌^◌, ◌≤◌, ◌⊎◌, true, false, zero, suc, List, [], ◌∷◌, slice_index, Option, Some, ⊤}
use Rattle.sl_base.specs.declared.symbol.Symbol.{Symbol}
use Rattle.tracer_lang.specs.Tree.{Expression, number, local, register, program_counter, load, operation, is_zero, call, system_call, Arguments, no_arguments, argument}
use Rattle.tracer_text.specs.declared.token.Token.{Token}
use Rattle.tracer_text.specs.Nodes.{Tree, atom, list, Trees, no_trees, tree}
use Rattle.tracer_read.specs.declared.heads.ExpressionHead.{ExpressionHead}
use Rattle.tracer_read.specs.declared.heads.ExpressionHead.TheVariants.{Sym, Reg, Pc, Not, Call, Sys, Load, Operation}
use Rattle.tracer_read.specs.Numbers.{is_number, number_value}
use Rattle.tracer_read.specs.Heads.{expression_head}
use Rattle.tracer_read.specs.Parts.{spelling, part_count}
use Rattle.tracer_read.specs.Expressions.{Around, callee_names, parameter_counts, head}

-- ---- tokens

-- a number of this value
abbrev pub IsNumber : List ℕ → ℕ → Tree → Type 0
IsNumber text n (atom token) =
    (is_number (spelling text token) ≡ true) × (number_value (spelling text token) ≡ Some n)
IsNumber text n (list place parts) = ⊥

-- a word of which this holds
abbrev pub IsWord : List ℕ → (Token → Type 0) → Tree → Type 0
IsWord text Holds (atom token) = (is_number (spelling text token) ≡ false) × Holds token
IsWord text Holds (list place parts) = ⊥

-- ---- lists

-- a list that begins with a word for this, and of whose other parts this holds
abbrev pub IsForm : {X : Type 0}
    → (List ℕ → Option X) → X → List ℕ → (Trees → Type 0) → Tree → Type 0
IsForm words what text Hold (atom token) = ⊥
IsForm words what text Hold (list place no_trees) = ⊥
IsForm words what text Hold (list place (tree first parts)) =
    (head words text first ≡ Some what) × Hold parts

abbrev pub NoPart : Trees → Type 0
NoPart no_trees = ⊤
NoPart (tree t parts) = ⊥

-- a first part and the others, however many
abbrev pub FirstPart : (Tree → Trees → Type 0) → Trees → Type 0
FirstPart Hold no_trees = ⊥
FirstPart Hold (tree t parts) = Hold t parts

abbrev pub OnePart : (Tree → Type 0) → Trees → Type 0
OnePart Holds (tree t no_trees) = Holds t
OnePart Holds parts = ⊥

abbrev pub TwoParts : (Tree → Tree → Type 0) → Trees → Type 0
TwoParts Hold (tree t (tree u no_trees)) = Hold t u
TwoParts Hold parts = ⊥

abbrev pub ThreeParts : (Tree → Tree → Tree → Type 0) → Trees → Type 0
ThreeParts Hold (tree t (tree u (tree v no_trees))) = Hold t u v
ThreeParts Hold parts = ⊥

-- ---- names

-- the name of this number, from 0, is spelled as the word, and none before it is
abbrev pub IsName : List ℕ → List Token → ℕ → Token → Type 0
IsName text [] index word = ⊥
IsName text (name ∷ names) zero word = spelling text name ≡ spelling text word
IsName text (name ∷ names) (suc index) word =
    (spelling text name ≢ spelling text word) × IsName text names index word

-- the first symbol of this name has this value, as a word
abbrev pub IsSymbol : List Symbol → List ℕ → ℕ → Type 0
IsSymbol [] name value = ⊥
IsSymbol (symbol ∷ symbols) name value =
    ((symbol.name ≡ name) × (symbol.value % 2 ^ 32 ≡ value))
    ⊎ ((symbol.name ≢ name) × IsSymbol symbols name value)

-- a symbol of this value
abbrev pub NamesSymbol : Around → ℕ → Tree → Type 0
NamesSymbol around value t =
    IsWord around.text (λ word. IsSymbol around.symbols (spelling around.text word) value) t

-- the function of this number, which has as many parameters as stand parts behind its name
abbrev pub NamesFunction : Around → ℕ → Tree → Trees → Type 0
NamesFunction around function t arguments =
    IsWord around.text (IsName around.text (callee_names around.callees) function) t
    × (part_count arguments ≡ slice_index (parameter_counts around.callees) function)

-- ---- expressions

-- a list that begins with the word of an expression
abbrev pub IsExpression : Around → ExpressionHead → (Trees → Type 0) → Tree → Type 0
IsExpression around what Hold t = IsForm expression_head what around.text Hold t

-- A node spells an expression in a body with these locals. Each clause says what may be written for
-- its expression, and a comment shows it.
abbrev mutual
  pub Spells : Around → List Token → Expression → Tree → Type 0
  -- `17` or `(sym X)`
  Spells around locals (number n) t =
      IsNumber around.text n t ⊎ IsExpression around Sym (OnePart (NamesSymbol around n)) t
  -- `x`
  Spells around locals (local index) t = IsWord around.text (IsName around.text locals index) t
  -- `(reg 10)`
  Spells around locals (register index) t =
      IsExpression around Reg (OnePart (λ n. IsNumber around.text index n × (index ≤ 31))) t
  -- `(pc)`
  Spells around locals program_counter t = IsExpression around Pc NoPart t
  -- `(load4 E)`
  Spells around locals (load op address) t =
      IsExpression around (Load op) (OnePart (Spells around locals address)) t
  -- `(+ E E)`
  Spells around locals (operation operator first second) t =
      IsExpression around (Operation operator)
      (TwoParts (λ a b. Spells around locals first a × Spells around locals second b)) t
  -- `(not E)`
  Spells around locals (is_zero of) t =
      IsExpression around Not (OnePart (Spells around locals of)) t
  -- `(call F E E)`
  Spells around locals (call function arguments) t =
      IsExpression around Call (FirstPart (λ f parts.
      NamesFunction around function f parts × SpellsArguments around locals arguments parts
      )) t
  -- `(sys E E)`
  Spells around locals (system_call code value) t =
      IsExpression around Sys
      (TwoParts (λ a b. Spells around locals code a × Spells around locals value b)) t

  -- a node for each argument, in order
  pub SpellsArguments : Around → List Token → Arguments → Trees → Type 0
  SpellsArguments around locals no_arguments parts = NoPart parts
  SpellsArguments around locals (argument first rest) parts =
      FirstPart (λ t more.
      Spells around locals first t × SpellsArguments around locals rest more
      ) parts
