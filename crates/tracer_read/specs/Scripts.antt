-- What a text gives: a script, or its first fault.
use Rattle.std.specs.Prelude.{ℕ, ◌+◌, ◌^◌, ◌==◌, ◌&&◌, not, Bool, true, false, nat_le, List, [], ◌∷◌, ◌++◌, length, Option, Some, None, is_some, unwrap_or, option_to_list, Result, Ok, Err}
use Rattle.std.specs.Result.{result_ok}
use Rattle.sl_base.specs.declared.symbol.Symbol.{Symbol}
use Rattle.tracer_lang.specs.declared.tree.Point.{Point}
use Rattle.tracer_lang.specs.declared.tree.Point.TheVariants as points
use Rattle.tracer_lang.specs.Tree.{FunctionTree, TracepointTree, ScriptTree}
use Rattle.tracer_text.specs.declared.fault.ScriptCause.TheVariants as causes
use Rattle.tracer_text.specs.declared.fault.ScriptFault.{ScriptFault}
use Rattle.tracer_text.specs.declared.token.Token.{Token}
use Rattle.tracer_text.specs.FirstPass.{fault, first_pass}
use Rattle.tracer_text.specs.Nodes.{Tree, atom, list, Trees, no_trees, tree, nodes_from}
use Rattle.tracer_read.specs.declared.heads.ItemHead.{ItemHead}
use Rattle.tracer_read.specs.declared.heads.ItemHead.TheVariants.{Budget, Def, At}
use Rattle.tracer_read.specs.declared.heads.PointHead.{PointHead}
use Rattle.tracer_read.specs.declared.heads.PointHead.TheVariants.{Addr, Enter, Store}
use Rattle.tracer_read.specs.Heads.{named, item_names, point_names}
use Rattle.tracer_read.specs.Parts.{◌>>=◌, unless, place_of, word_of, number_of, number_within, new_name, new_local, symbol_of, only_part, two_parts, part_count}
use Rattle.tracer_read.specs.Expressions.{Callee, Around, head}
use Rattle.tracer_read.specs.Statements.{in_order, steps_of}

-- ---- the functions that may be called

abbrev pub is_def : Option ItemHead → Bool
is_def (Some Def) = true
is_def other = false

abbrev pub callee_named : Trees → Option Token → Option Callee
callee_named parameters (Some name) =
    Some (record { name = name; parameters = part_count parameters })
callee_named parameters None = None

-- a name, and the list of the parameters
abbrev pub callee_from : List ℕ → Trees → Option Callee
callee_from text (tree f (tree (list place parameters) body)) =
    callee_named parameters (result_ok (word_of text f))
callee_from text parts = None

abbrev pub callee_if : Bool → Option Callee → Option Callee
callee_if true callee = callee
callee_if false callee = None

-- a list of the top level that may be called: `def`, a word and a list
abbrev pub callee_at : List ℕ → Tree → Option Callee
callee_at text (atom token) = None
callee_at text (list place no_trees) = None
callee_at text (list place (tree first parts)) =
    callee_if (is_def (head (λ word. named word item_names) text first)) (callee_from text parts)

abbrev pub callees : List ℕ → Trees → List Callee
callees text no_trees = []
callees text (tree first rest) = option_to_list (callee_at text first) ++ callees text rest

-- ---- the lists of the top level

-- what is read so far: the budget, the names of the functions, the functions and the tracepoints
pub record Draft : Type 0 where
  pub budget : Option ℕ
  pub names : List Token
  pub functions : List FunctionTree
  pub tracepoints : List TracepointTree

-- `(budget N)`, at most once
abbrev pub budget_form : Around → ℕ → Trees → Draft → Result Draft ScriptFault
budget_form around place parts draft = do
  t ← only_part place parts
  unless (is_some draft.budget) place causes.NameDoubled (
      number_within 1 1000000 around.text t >>= λ n. Ok (record draft { budget = Some n })
      )

-- parameters behind others
abbrev pub parameters_of : List ℕ → List Token → Trees → Result (List Token) ScriptFault
parameters_of text names no_trees = Ok names
parameters_of text names (tree p ps) = do
  name ← word_of text p
  more ← new_local text names name
  parameters_of text more ps

-- the list of parameters
abbrev pub parameter_list : List ℕ → Tree → Result (List Token) ScriptFault
parameter_list text (atom token) = Err (fault token.place causes.Form)
parameter_list text (list place parameters) = parameters_of text [] parameters

-- `(def F (P P) S S)`
abbrev pub def_form : Around → ℕ → Trees → Draft → Result Draft ScriptFault
def_form around place (tree f (tree parameters body)) draft = do
  name ← word_of around.text f
  names ← new_name around.text draft.names name
  locals ← parameter_list around.text parameters
  read ← in_order (steps_of around body) locals
  Ok (record draft {
    names = names;
    functions = draft.functions
        ++ record { parameters = length locals; locals = length read.1; body = read.0 } ∷ [];
  })
def_form around place parts draft = Err (fault place causes.Arity)

-- `(store N N)`: a range of at least one byte, which ends at 2 ^ 32 or below
abbrev pub store_point : List ℕ → Tree × Tree → Result Point ScriptFault
store_point text parts = do
  address ← number_of text parts.0
  len ← number_of text parts.1
  unless (not (nat_le 1 len && nat_le (address + len) (2 ^ 32))) (place_of parts.1) causes.Number (
      Ok (points.Store address len)
      )

abbrev pub point_form : Around → ℕ → Trees → Option PointHead → Result Point ScriptFault
point_form around place parts None = Err (fault place causes.Form)
point_form around place parts (Some Addr) = do
  t ← only_part place parts
  n ← number_of around.text t
  Ok (points.Addr n)
point_form around place parts (Some Enter) = do
  t ← only_part place parts
  n ← symbol_of around.text around.symbols t
  Ok (points.Enter n)
point_form around place parts (Some Store) = do
  two ← two_parts place parts
  store_point around.text two

-- where a tracer fires
abbrev pub point_of : Around → Tree → Result Point ScriptFault
point_of around (atom token) = Err (fault token.place causes.Form)
point_of around (list place no_trees) = Err (fault place causes.Form)
point_of around (list place (tree first parts)) =
    point_form around place parts (head (λ word. named word point_names) around.text first)

-- `(at POINT S S)`, at most 64 times
abbrev pub at_form : Around → ℕ → Trees → Draft → Result Draft ScriptFault
at_form around place no_trees draft = Err (fault place causes.Arity)
at_form around place (tree point body) draft =
    unless (length draft.tracepoints == 64) place causes.TooLarge (do
      p ← point_of around point
      read ← in_order (steps_of around body) []
      Ok (record draft {
        tracepoints = draft.tracepoints
            ++ record { point = p; locals = length read.1; body = read.0 } ∷ [];
      })
    )

abbrev pub item_form : Around → ℕ → Trees → Draft → Option ItemHead → Result Draft ScriptFault
item_form around place parts draft None = Err (fault place causes.Form)
item_form around place parts draft (Some Budget) = budget_form around place parts draft
item_form around place parts draft (Some Def) = def_form around place parts draft
item_form around place parts draft (Some At) = at_form around place parts draft

-- one more list of the top level
abbrev pub item : Around → Tree → Draft → Result Draft ScriptFault
item around (atom token) draft = Err (fault token.place causes.Form)
item around (list place no_trees) draft = Err (fault place causes.Form)
item around (list place (tree first parts)) draft =
    item_form around place parts draft (head (λ word. named word item_names) around.text first)

abbrev pub items : Around → Trees → Draft → Result Draft ScriptFault
items around no_trees draft = Ok draft
items around (tree first rest) draft = item around first draft >>= items around rest

-- ---- scripts

abbrev pub nothing : Draft
nothing = record { budget = None; names = []; functions = []; tracepoints = [] }

-- 1,000,000 units, where no budget is named
abbrev pub script_from : Draft → ScriptTree
script_from draft = record {
  budget = unwrap_or draft.budget 1000000;
  functions = draft.functions;
  tracepoints = draft.tracepoints;
}

-- what a text and the symbols are around its parts
abbrev pub surroundings : List ℕ → List Symbol → Trees → Around
surroundings text symbols trees =
    record { text = text; symbols = symbols; callees = callees text trees }

-- the second pass, over the nodes of a text
abbrev pub second_pass : List ℕ → List Symbol → Trees → Result ScriptTree ScriptFault
second_pass text symbols trees = do
  draft ← items (surroundings text symbols trees) trees nothing
  Ok (script_from draft)

-- The script that a text is, or its first fault: that of the first pass, else that of the second.
unfoldable pub script_of_text : List ℕ → List Symbol → Result ScriptTree ScriptFault
script_of_text text symbols = do
  tokens ← first_pass text
  second_pass text symbols (nodes_from text tokens).inside
