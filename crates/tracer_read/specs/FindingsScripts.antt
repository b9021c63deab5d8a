-- Which rules each node of a script's statements and lists breaks.
use Rattle.std.specs.Prelude.{ℕ, ◌+◌, ◌^◌, ◌==◌, ◌&&◌, not, nat_le, Bool, true, false, List, [], ◌∷◌, ◌++◌, drop, Option, Some, None, unwrap_or, if◌then◌else◌}
use Rattle.std.specs.List.{flat_map}
use Rattle.sl_base.specs.declared.symbol.Symbol.{Symbol}
use Rattle.tracer_text.specs.declared.fault.ScriptCause.{ScriptCause}
use Rattle.tracer_text.specs.declared.fault.ScriptCause.TheVariants as causes
use Rattle.tracer_text.specs.declared.token.Token.{Token}
use Rattle.tracer_text.specs.Nodes.{Tree, atom, list, Trees, no_trees, tree, nodes_from}
use Rattle.tracer_read.specs.declared.heads.ValueHead.{ValueHead}
use Rattle.tracer_read.specs.declared.heads.StatementHead.{StatementHead}
use Rattle.tracer_read.specs.declared.heads.StatementHead.TheVariants.{Var, Set, Do, If, While, Store, Value}
use Rattle.tracer_read.specs.declared.heads.ItemHead.{ItemHead}
use Rattle.tracer_read.specs.declared.heads.ItemHead.TheVariants.{Budget, Def, At}
use Rattle.tracer_read.specs.declared.heads.PointHead.{PointHead}
use Rattle.tracer_read.specs.declared.heads.PointHead.TheVariants as points
use Rattle.tracer_read.specs.Numbers.{is_number, number_value}
use Rattle.tracer_read.specs.Heads.{named, statement_head, item_names, point_names}
use Rattle.tracer_read.specs.Parts.{spelling}
use Rattle.tracer_read.specs.Expressions.{Around, head}
use Rattle.tracer_read.specs.Scripts.{surroundings}
use Rattle.tracer_read.specs.Findings.{Finding, finding, when, in_a_row, has_parts, of_first, number_node, known_name, function_name, local_name, symbol_name, expression_nodes, each_expression}

-- ---- statements

-- the token of a name
abbrev pub name_in : Tree → List Token
name_in (atom token) = token ∷ []
name_in (list place trees) = []

abbrev pub first_name : Trees → List Token
first_name no_trees = []
first_name (tree t trees) = name_in t

abbrev pub all_names : Trees → List Token
all_names no_trees = []
all_names (tree t trees) = name_in t ++ all_names trees

-- the lists of names one after the other
abbrev pub joined : List (List Token) → List Token
joined [] = []
joined (names ∷ more) = names ++ joined more

-- what a head declares, where each part would declare these
abbrev pub declared_by : Trees → List (List Token) → Option StatementHead → List Token
declared_by parts each None = []
declared_by parts each (Some Var) = first_name parts
declared_by parts each (Some Set) = []
declared_by parts each (Some Do) = joined each
declared_by parts each (Some If) = joined (drop 1 each)
declared_by parts each (Some While) = joined (drop 1 each)
declared_by parts each (Some (Store op)) = []
declared_by parts each (Some (Value head)) = []

-- the locals that a statement declares, in order; and each of some statements
abbrev mutual
  pub declared : List ℕ → Tree → List Token
  declared text (atom token) = []
  declared text (list place no_trees) = []
  declared text (list place (tree first parts)) =
      declared_by parts (each_declared text parts) (head statement_head text first)

  pub each_declared : List ℕ → Trees → List (List Token)
  each_declared text no_trees = []
  each_declared text (tree first rest) = declared text first ∷ each_declared text rest

-- at least one part, or at least two
abbrev pub has_one : Trees → Bool
has_one no_trees = false
has_one (tree first trees) = true

abbrev pub has_two : Trees → Bool
has_two no_trees = false
has_two (tree first no_trees) = false
has_two (tree first (tree second trees)) = true

abbrev pub statement_count : Trees → StatementHead → Bool
statement_count parts Var = has_parts 2 parts
statement_count parts Set = has_parts 2 parts
statement_count parts Do = true
statement_count parts If = has_parts 3 parts
statement_count parts While = has_one parts
statement_count parts (Store op) = has_parts 2 parts
statement_count parts (Value head) = has_parts 1 parts

abbrev pub statement_causes : Trees → Option StatementHead → List ScriptCause
statement_causes parts None = causes.Form ∷ []
statement_causes parts (Some head) = when (not (statement_count parts head)) causes.Arity

-- a name, and a value behind it
abbrev pub name_and_value : (Tree → List Finding) → (Tree → List Finding) → Trees → List Finding
name_and_value name value no_trees = []
name_and_value name value (tree t no_trees) = name t
name_and_value name value (tree t (tree u trees)) = name t ++ value u

-- the parts of a statement: `body` looks at all parts as statements, `behind` at those behind the
-- first
abbrev pub statement_parts : Around → List Token → Trees → List Finding → List Finding
    → Option StatementHead → List Finding
statement_parts around locals parts body behind None = []
statement_parts around locals parts body behind (Some Var) =
    name_and_value (local_name locals around.text)
    (expression_nodes around (locals ++ first_name parts)) parts
statement_parts around locals parts body behind (Some Set) =
    name_and_value (known_name locals around.text) (expression_nodes around locals) parts
statement_parts around locals parts body behind (Some Do) = body
statement_parts around locals parts body behind (Some If) =
    of_first (expression_nodes around locals) parts ++ behind
statement_parts around locals parts body behind (Some While) =
    of_first (expression_nodes around locals) parts ++ behind
statement_parts around locals parts body behind (Some (Store op)) =
    in_a_row (each_expression around locals parts)
statement_parts around locals parts body behind (Some (Value head)) =
    in_a_row (each_expression around locals parts)

-- the nodes of a statement behind some locals; of statements in order; and of those behind the first
abbrev mutual
  pub statement_nodes : Around → Tree → List Token → List Finding
  statement_nodes around (atom token) locals = finding token.place (causes.Form ∷ []) ∷ []
  statement_nodes around (list place no_trees) locals = finding place (causes.Form ∷ []) ∷ []
  statement_nodes around (list place (tree first parts)) locals =
      finding place (statement_causes parts (head statement_head around.text first))
      ∷ statement_parts around locals parts (body_nodes around parts locals)
      (behind_nodes around parts locals) (head statement_head around.text first)

  pub body_nodes : Around → Trees → List Token → List Finding
  body_nodes around no_trees locals = []
  body_nodes around (tree first rest) locals =
      statement_nodes around first locals
      ++ body_nodes around rest (locals ++ declared around.text first)

  pub behind_nodes : Around → Trees → List Token → List Finding
  behind_nodes around no_trees locals = []
  behind_nodes around (tree first rest) locals = body_nodes around rest locals

-- ---- the top level

-- what stands before a list of the top level: a budget, the names of functions, and how many `at`
pub record Seen : Type 0 where
  pub budget : Bool
  pub names : List Token
  pub points : ℕ

abbrev pub parameters : List ℕ → List Token → Trees → List Finding
parameters text names no_trees = []
parameters text names (tree p ps) =
    local_name names text p ++ parameters text (names ++ name_in p) ps

-- the list of parameters
abbrev pub parameter_nodes : List ℕ → Tree → List Finding
parameter_nodes text (atom token) = finding token.place (causes.Form ∷ []) ∷ []
parameter_nodes text (list place ps) = finding place [] ∷ parameters text [] ps

abbrev pub parameter_names : Tree → List Token
parameter_names (atom token) = []
parameter_names (list place ps) = all_names ps

abbrev pub def_parts : Around → Seen → Trees → List Finding
def_parts around seen no_trees = []
def_parts around seen (tree f no_trees) = function_name seen.names around.text f
def_parts around seen (tree f (tree ps body)) =
    function_name seen.names around.text f
    ++ (parameter_nodes around.text ps ++ body_nodes around body (parameter_names ps))

-- the value of a number, or 0
abbrev pub value_at : List ℕ → Tree → ℕ
value_at text (list place trees) = 0
value_at text (atom token) = unwrap_or (number_value (spelling text token)) 0

-- an address, and a length of at least one byte that ends at 2 ^ 32 or below
abbrev pub range_parts : List ℕ → Trees → List Finding
range_parts text no_trees = []
range_parts text (tree address no_trees) = number_node (λ _. true) text address
range_parts text (tree address (tree len trees)) =
    number_node (λ _. true) text address
    ++ number_node (λ n. nat_le 1 n && nat_le (value_at text address + n) (2 ^ 32)) text len

abbrev pub point_count : Trees → PointHead → Bool
point_count parts points.Addr = has_parts 1 parts
point_count parts points.Enter = has_parts 1 parts
point_count parts points.Store = has_parts 2 parts

abbrev pub point_causes : Trees → Option PointHead → List ScriptCause
point_causes parts None = causes.Form ∷ []
point_causes parts (Some head) = when (not (point_count parts head)) causes.Arity

abbrev pub point_parts : Around → Trees → Option PointHead → List Finding
point_parts around parts None = []
point_parts around parts (Some points.Addr) =
    of_first (number_node (λ _. true) around.text) parts
point_parts around parts (Some points.Enter) =
    of_first (symbol_name around.symbols around.text) parts
point_parts around parts (Some points.Store) = range_parts around.text parts

-- where a tracer fires
abbrev pub point_nodes : Around → Tree → List Finding
point_nodes around (atom token) = finding token.place (causes.Form ∷ []) ∷ []
point_nodes around (list place no_trees) = finding place (causes.Form ∷ []) ∷ []
point_nodes around (list place (tree first parts)) =
    finding place
    (point_causes parts (head (λ word. named word point_names) around.text first))
    ∷ point_parts around parts (head (λ word. named word point_names) around.text first)

abbrev pub at_parts : Around → Trees → List Finding
at_parts around no_trees = []
at_parts around (tree point body) = point_nodes around point ++ body_nodes around body []

-- a second budget; the 65th `at`
abbrev pub item_causes : Seen → Trees → Option ItemHead → List ScriptCause
item_causes seen parts None = causes.Form ∷ []
item_causes seen parts (Some Budget) =
    when (not (has_parts 1 parts)) causes.Arity ++ when seen.budget causes.NameDoubled
item_causes seen parts (Some Def) = when (not (has_two parts)) causes.Arity
item_causes seen parts (Some At) =
    when (not (has_one parts)) causes.Arity ++ when (seen.points == 64) causes.TooLarge

abbrev pub item_parts : Around → Seen → Trees → Option ItemHead → List Finding
item_parts around seen parts None = []
item_parts around seen parts (Some Budget) =
    of_first (number_node (λ n. nat_le 1 n && nat_le n 1000000) around.text) parts
item_parts around seen parts (Some Def) = def_parts around seen parts
item_parts around seen parts (Some At) = at_parts around parts

abbrev pub item_nodes : Around → Seen → Tree → List Finding
item_nodes around seen (atom token) = finding token.place (causes.Form ∷ []) ∷ []
item_nodes around seen (list place no_trees) = finding place (causes.Form ∷ []) ∷ []
item_nodes around seen (list place (tree first parts)) =
    finding place (item_causes seen parts (head (λ word. named word item_names) around.text first))
    ∷ item_parts around seen parts (head (λ word. named word item_names) around.text first)

-- with one more list
abbrev pub seen_by : Seen → Trees → Option ItemHead → Seen
seen_by seen parts None = seen
seen_by seen parts (Some Budget) = record seen { budget = true }
seen_by seen parts (Some Def) = record seen { names = seen.names ++ first_name parts }
seen_by seen parts (Some At) = record seen { points = seen.points + 1 }

abbrev pub seen_after : List ℕ → Seen → Tree → Seen
seen_after text seen (atom token) = seen
seen_after text seen (list place no_trees) = seen
seen_after text seen (list place (tree first parts)) =
    seen_by seen parts (head (λ word. named word item_names) text first)

abbrev pub items_nodes : Around → Seen → Trees → List Finding
items_nodes around seen no_trees = []
items_nodes around seen (tree first rest) =
    item_nodes around seen first ++ items_nodes around (seen_after around.text seen first) rest

abbrev pub nothing_seen : Seen
nothing_seen = record { budget = false; names = []; points = 0 }

-- the nodes of a script, in order of their first bytes
abbrev pub script_nodes : List ℕ → List Symbol → List Token → List Finding
script_nodes text symbols tokens =
    let trees = (nodes_from text tokens).inside in
    items_nodes (surroundings text symbols trees) nothing_seen trees
