-- Which rules each node of a script breaks, node by node in order of their first bytes. A node's
-- rules are those of the place that it stands in; they don't ask what another node breaks, so no
-- rule is tried before another here.
use Rattle.std.specs.Prelude.{◌≡◌, ℕ, zero, suc, ◌≤◌, ◌==◌, ◌&&◌, not, nat_le, Bool, true, false, List, [], ◌∷◌, ◌++◌, length, drop, slice_index, All, Contains, Option, Some, None, is_some, is_none, if◌then◌else◌}
use Rattle.sl_base.specs.declared.symbol.Symbol.{Symbol}
use Rattle.tracer_text.specs.declared.fault.ScriptCause.{ScriptCause}
use Rattle.tracer_text.specs.declared.fault.ScriptCause.TheVariants as causes
use Rattle.tracer_text.specs.declared.fault.ScriptFault.{ScriptFault}
use Rattle.tracer_text.specs.declared.token.Token.{Token}
use Rattle.tracer_text.specs.Nodes.{Tree, atom, list, Trees, no_trees, tree}
use Rattle.tracer_read.specs.declared.heads.ExpressionHead.{ExpressionHead}
use Rattle.tracer_read.specs.declared.heads.ExpressionHead.TheVariants.{Sym, Reg, Pc, Not, Call, Sys, Load, Operation}
use Rattle.tracer_read.specs.Numbers.{is_number, number_value}
use Rattle.tracer_read.specs.Heads.{expression_head}
use Rattle.tracer_read.specs.Parts.{spelling, name_index, symbol_value, part_count}
use Rattle.tracer_read.specs.Expressions.{Around, head, callee_names, parameter_counts}

-- a node, by the place of its first byte, and the causes of which it breaks the rule
pub record Finding : Type 0 where
  pub place : ℕ
  pub causes : List ScriptCause

abbrev pub finding : ℕ → List ScriptCause → Finding
finding place causes = record { place = place; causes = causes }

abbrev pub when : Bool → ScriptCause → List ScriptCause
when broken cause = if broken then cause ∷ [] else []

-- the order of the causes at one node
abbrev pub rank : ScriptCause → ℕ
rank causes.Byte = 0
rank causes.Paren = 1
rank causes.Form = 2
rank causes.Arity = 3
rank causes.Number = 4
rank causes.NameUnknown = 5
rank causes.NameDoubled = 6
rank causes.SymbolUnknown = 7
rank causes.TooLarge = 8
rank causes.TooDeep = 9

-- no rule is broken
abbrev pub IsClean : Finding → Type 0
IsClean found = found.causes ≡ []

-- The fault of the first node that has one: it breaks the rule of this cause, and of none that
-- stands before it in the order of causes.
pub record IsFirstFault (found : List Finding) (fault : ScriptFault) : Type 0 where
  pub before : List Finding
  pub node : Finding
  pub behind : List Finding
  pub order : found ≡ before ++ node ∷ behind
  pub clean : All IsClean before
  pub place : fault.place ≡ node.place
  pub cause : Contains node.causes fault.cause
  pub first : All (λ other. rank fault.cause ≤ rank other) node.causes

-- nodes one after the other
abbrev pub in_a_row : List (List Finding) → List Finding
in_a_row [] = []
in_a_row (found ∷ more) = found ++ in_a_row more

-- a list has so many parts
abbrev pub has_parts : ℕ → Trees → Bool
has_parts zero no_trees = true
has_parts zero (tree t trees) = false
has_parts (suc n) no_trees = false
has_parts (suc n) (tree t trees) = has_parts n trees

-- the first part, and those behind it
abbrev pub of_first : (Tree → List Finding) → Trees → List Finding
of_first look no_trees = []
of_first look (tree t trees) = look t

-- ---- names and numbers

-- a number that passes
abbrev pub is_right : (ℕ → Bool) → Option ℕ → Bool
is_right passes None = false
is_right passes (Some n) = passes n

-- in a place that takes a number
abbrev pub number_node : (ℕ → Bool) → List ℕ → Tree → List Finding
number_node passes text (list place trees) = finding place (causes.Form ∷ []) ∷ []
number_node passes text (atom token) =
    finding token.place (
    if is_number (spelling text token)
    then when (not (is_right passes (number_value (spelling text token)))) causes.Number
    else causes.Form ∷ []
    ) ∷ []

-- in a place that takes a name, which breaks these rules
abbrev pub name_node : (Token → List ScriptCause) → List ℕ → Tree → List Finding
name_node breaks text (list place trees) = finding place (causes.Form ∷ []) ∷ []
name_node breaks text (atom token) =
    finding token.place
    (if is_number (spelling text token) then causes.Form ∷ [] else breaks token)
    ∷ []

-- a name that has to be one of these
abbrev pub known_name : List Token → List ℕ → Tree → List Finding
known_name names text =
    name_node (λ token. when (is_none (name_index text names token)) causes.NameUnknown) text

-- a function's name, which none before it has
abbrev pub function_name : List Token → List ℕ → Tree → List Finding
function_name names text =
    name_node (λ token. when (is_some (name_index text names token)) causes.NameDoubled) text

-- a local or parameter, whose name none before it in the body has, and which is not the 17th
abbrev pub local_name : List Token → List ℕ → Tree → List Finding
local_name names text =
    name_node (λ token.
    when (is_some (name_index text names token)) causes.NameDoubled
    ++ when (length names == 16) causes.TooLarge) text

abbrev pub symbol_name : List Symbol → List ℕ → Tree → List Finding
symbol_name symbols text =
    name_node (λ token.
    when (is_none (symbol_value symbols (spelling text token))) causes.SymbolUnknown) text

-- ---- expressions

-- a number, or a local that is there
abbrev pub value_causes : Around → List Token → Token → List ScriptCause
value_causes around locals token =
    if is_number (spelling around.text token)
    then when (is_none (number_value (spelling around.text token))) causes.Number
    else when (is_none (name_index around.text locals token)) causes.NameUnknown

-- the number of the function that a node names
abbrev pub function_named : Around → Tree → Option ℕ
function_named around (list place trees) = None
function_named around (atom token) =
    if is_number (spelling around.text token) then None
    else name_index around.text (callee_names around.callees) token

-- a function takes so many arguments
abbrev pub takes : Around → ℕ → Option ℕ → Bool
takes around count None = true
takes around count (Some index) =
    count == slice_index (parameter_counts around.callees) index

-- a call has a name, and as many parts behind it as its function has parameters
abbrev pub is_right_call : Around → Trees → Bool
is_right_call around no_trees = false
is_right_call around (tree f arguments) =
    takes around (part_count arguments) (function_named around f)

-- as many parts as the head takes
abbrev pub expression_count : Around → Trees → ExpressionHead → Bool
expression_count around parts Pc = has_parts 0 parts
expression_count around parts Reg = has_parts 1 parts
expression_count around parts Sym = has_parts 1 parts
expression_count around parts Not = has_parts 1 parts
expression_count around parts (Load op) = has_parts 1 parts
expression_count around parts (Operation operator) = has_parts 2 parts
expression_count around parts Sys = has_parts 2 parts
expression_count around parts Call = is_right_call around parts

abbrev pub expression_causes : Around → Trees → Option ExpressionHead → List ScriptCause
expression_causes around parts None = causes.Form ∷ []
expression_causes around parts (Some head) =
    when (not (expression_count around parts head)) causes.Arity

-- the parts behind a head, of which these are found where they are expressions
abbrev pub expression_parts : Around → Trees → List (List Finding) → Option ExpressionHead
    → List Finding
expression_parts around parts found None = []
expression_parts around parts found (Some Pc) = []
expression_parts around parts found (Some Reg) =
    of_first (number_node (λ n. nat_le 0 n && nat_le n 31) around.text) parts
expression_parts around parts found (Some Sym) =
    of_first (symbol_name around.symbols around.text) parts
expression_parts around parts found (Some Not) = in_a_row found
expression_parts around parts found (Some (Load op)) = in_a_row found
expression_parts around parts found (Some (Operation operator)) = in_a_row found
expression_parts around parts found (Some Sys) = in_a_row found
expression_parts around parts found (Some Call) =
    of_first (known_name (callee_names around.callees) around.text) parts ++ in_a_row (drop 1 found)

-- the nodes of an expression in a body with these locals; and of each of some expressions
abbrev mutual
  pub expression_nodes : Around → List Token → Tree → List Finding
  expression_nodes around locals (atom token) =
      finding token.place (value_causes around locals token) ∷ []
  expression_nodes around locals (list place no_trees) = finding place (causes.Form ∷ []) ∷ []
  expression_nodes around locals (list place (tree first parts)) =
      finding place (expression_causes around parts (head expression_head around.text first))
      ∷ expression_parts around parts (each_expression around locals parts)
      (head expression_head around.text first)

  pub each_expression : Around → List Token → Trees → List (List Finding)
  each_expression around locals no_trees = []
  each_expression around locals (tree first rest) =
      expression_nodes around locals first ∷ each_expression around locals rest
