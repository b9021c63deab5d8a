-- How scripts are spelled: which nodes may be written for each, and which texts.
use Rattle.std.specs.Prelude.{◌≡◌, ℕ, ◌+◌, ◌^◌, ◌≤◌, ◌⊎◌, List, [], ◌∷◌, ◌++◌, length, Option, Some, None, unwrap_or, ⊤}
use Rattle.sl_base.specs.declared.symbol.Symbol.{Symbol}
use Rattle.tracer_lang.specs.declared.tree.Point.{Point}
use Rattle.tracer_lang.specs.declared.tree.Point.TheVariants as points
use Rattle.tracer_lang.specs.Tree.{FunctionTree, TracepointTree, ScriptTree}
use Rattle.tracer_text.specs.declared.token.Token.{Token}
use Rattle.tracer_text.specs.Tokens.{tokens_of}
use Rattle.tracer_text.specs.Nodes.{Tree, atom, list, Trees, no_trees, tree}
use Rattle.tracer_read.specs.declared.heads.ItemHead.{ItemHead}
use Rattle.tracer_read.specs.declared.heads.ItemHead.TheVariants.{Budget, Def, At}
use Rattle.tracer_read.specs.declared.heads.PointHead.{PointHead}
use Rattle.tracer_read.specs.declared.heads.PointHead.TheVariants.{Addr, Enter, Store}
use Rattle.tracer_read.specs.Heads.{named, item_names, point_names}
use Rattle.tracer_read.specs.Expressions.{Around, callee_names}
use Rattle.tracer_read.specs.Scripts.{surroundings}
use Rattle.tracer_read.specs.Written.{AreWritten, trees_nodes, trees_depth}
use Rattle.tracer_read.specs.Grammar.{IsNumber, IsWord, IsForm, FirstPart, OnePart, TwoParts, NamesSymbol}
use Rattle.tracer_read.specs.GrammarStatements.{IsNew, SpellsStatements}

-- ---- tracepoints

abbrev pub IsPoint : Around → PointHead → (Trees → Type 0) → Tree → Type 0
IsPoint around what Hold t = IsForm (λ word. named word point_names) what around.text Hold t

-- a range of at least one byte, which ends at 2 ^ 32 or below
abbrev pub IsRange : ℕ → ℕ → Type 0
IsRange address len = (1 ≤ len) × (address + len ≤ 2 ^ 32)

-- a node spells a point: `(addr N)`, `(enter X)` or `(store N N)`
abbrev pub SpellsPoint : Around → Point → Tree → Type 0
SpellsPoint around (points.Addr address) t =
    IsPoint around Addr (OnePart (IsNumber around.text address)) t
SpellsPoint around (points.Enter address) t =
    IsPoint around Enter (OnePart (NamesSymbol around address)) t
SpellsPoint around (points.Store address len) t =
    IsPoint around Store (TwoParts (λ a b.
    IsNumber around.text address a × IsNumber around.text len b × IsRange address len
    )) t

-- a list that begins with a word of the top level
abbrev pub IsItem : Around → ItemHead → (Trees → Type 0) → Tree → Type 0
IsItem around what Hold t = IsForm (λ word. named word item_names) what around.text Hold t

-- `(at POINT S S)`: a point, and a body that begins without locals
abbrev pub SpellsTracepoint : Around → TracepointTree → Tree → Type 0
SpellsTracepoint around tracepoint t =
    IsItem around At (FirstPart (λ point body.
    (locals : List Token)
    × SpellsPoint around tracepoint.point point
    × SpellsStatements around tracepoint.body body [] locals
    × (tracepoint.locals ≡ length locals)
    )) t

-- ---- functions

-- each of these names is spelled otherwise than those before it and than these ones
abbrev pub AreNew : List ℕ → List Token → List Token → Type 0
AreNew text before [] = ⊤
AreNew text before (name ∷ names) = IsNew text before name × AreNew text (before ++ name ∷ []) names

-- these words in order
abbrev pub SpellsWords : List ℕ → List Token → Trees → Type 0
SpellsWords text [] no_trees = ⊤
SpellsWords text (word ∷ words) (tree t parts) =
    IsWord text (λ token. token ≡ word) t × SpellsWords text words parts
SpellsWords text words parts = ⊥

-- the list of parameters: words of which none stands twice, at most 16
abbrev pub AreParameters : List ℕ → List Token → Tree → Type 0
AreParameters text parameters (atom token) = ⊥
AreParameters text parameters (list place parts) =
    SpellsWords text parameters parts × AreNew text [] parameters × (length parameters ≤ 16)

-- `(def F (P P) S S)`: a name, the list of parameters, and a body that begins with them
abbrev pub SpellsFunction : Around → FunctionTree → Tree → Type 0
SpellsFunction around function t =
    IsItem around Def (FirstPart (λ name others. FirstPart (λ names body.
    (parameters : List Token)
    × (locals : List Token)
    × IsWord around.text (λ word. ⊤) name
    × AreParameters around.text parameters names
    × SpellsStatements around function.body body parameters locals
    × (function.parameters ≡ length parameters)
    × (function.locals ≡ length locals)
    ) others)) t

-- ---- the top level

-- `(budget N)`
abbrev pub SpellsBudget : Around → ℕ → Tree → Type 0
SpellsBudget around budget t =
    IsItem around Budget (OnePart (λ n.
    IsNumber around.text budget n × (1 ≤ budget) × (budget ≤ 1000000)
    )) t

-- Lists of three kinds, in any order: at most one of them spells a budget, some spell functions in
-- order, and some tracepoints in order.
abbrev pub SpellsItems : Around → Trees
    → Option ℕ → List FunctionTree → List TracepointTree → Type 0
SpellsItems around no_trees budget functions tracepoints =
    (budget ≡ None) × (functions ≡ []) × (tracepoints ≡ [])
SpellsItems around (tree t others) budget functions tracepoints =
    ((n : ℕ)
    × (budget ≡ Some n)
    × SpellsBudget around n t
    × SpellsItems around others None functions tracepoints)
    ⊎ (((function : FunctionTree)
    × (more : List FunctionTree)
    × (functions ≡ function ∷ more)
    × SpellsFunction around function t
    × SpellsItems around others budget more tracepoints)
    ⊎ ((tracepoint : TracepointTree)
    × (more : List TracepointTree)
    × (tracepoints ≡ tracepoint ∷ more)
    × SpellsTracepoint around tracepoint t
    × SpellsItems around others budget functions more))

-- ---- scripts

-- nodes spell a script
pub record SpellsScript (text : List ℕ) (symbols : List Symbol) (script : ScriptTree)
    (nodes : Trees) : Type 0 where
  -- the budget that is named, if one is
  pub named_budget : Option ℕ
  pub items : SpellsItems (surroundings text symbols nodes) nodes
      named_budget script.functions script.tracepoints
  -- 1,000,000 units, where none is named
  pub budget : script.budget ≡ unwrap_or named_budget 1000000
  -- no two functions of one name
  pub names : AreNew text [] (callee_names (surroundings text symbols nodes).callees)
  -- at most 64 tracepoints
  pub few : length script.tracepoints ≤ 64

-- A text spells a script: it has at most 65,536 bytes, its tokens are written for at most 4,096
-- nodes, at most 64 lists stand within one another, and the nodes spell the script.
pub record IsSpelling (text : List ℕ) (symbols : List Symbol) (script : ScriptTree) : Type 0 where
  pub short : length text ≤ 65536
  pub nodes : Trees
  pub written : AreWritten text nodes (tokens_of text)
  pub few_nodes : trees_nodes nodes ≤ 4096
  pub shallow : trees_depth nodes ≤ 64
  pub spelled : SpellsScript text symbols script nodes
