-- The limits of scripts.
use Rattle.std.specs.Prelude.{◌≡◌, ◌<◌, ◌≤◌, ⊤, ℕ, ◌+◌, ◌^◌, max, List, All, length, map, sum, slice_index}
use Rattle.tracer_lang.specs.declared.tree.Point.{Point}
use Rattle.tracer_lang.specs.declared.tree.Point.TheVariants.{Addr, Enter, Store}
use Rattle.tracer_lang.specs.Tree.{Expression, number, local, register, program_counter, load, operation, is_zero, call, system_call, Arguments, no_arguments, argument, Statement, emit, set, block, choice, while, store, return, stop, run, Statements, no_statements, statement, FunctionTree, TracepointTree, ScriptTree}

abbrev pub argument_count : Arguments → ℕ
argument_count no_arguments = 0
argument_count (argument first rest) = 1 + argument_count rest

-- How many expressions and statements there are. Each is a node of the text.
abbrev mutual
  pub expression_nodes : Expression → ℕ
  expression_nodes (number value) = 1
  expression_nodes (local index) = 1
  expression_nodes (register index) = 1
  expression_nodes program_counter = 1
  expression_nodes (load op address) = 1 + expression_nodes address
  expression_nodes (operation operator first second) =
      1 + expression_nodes first + expression_nodes second
  expression_nodes (is_zero of) = 1 + expression_nodes of
  expression_nodes (call function arguments) = 1 + arguments_nodes arguments
  expression_nodes (system_call code value) = 1 + expression_nodes code + expression_nodes value

  pub arguments_nodes : Arguments → ℕ
  arguments_nodes no_arguments = 0
  arguments_nodes (argument first rest) = expression_nodes first + arguments_nodes rest

abbrev mutual
  pub statement_nodes : Statement → ℕ
  statement_nodes (emit value) = 1 + expression_nodes value
  statement_nodes (set index value) = 1 + expression_nodes value
  statement_nodes (block body) = 1 + statements_nodes body
  statement_nodes (choice condition first second) =
      1 + expression_nodes condition + statement_nodes first + statement_nodes second
  statement_nodes (while condition body) = 1 + expression_nodes condition + statements_nodes body
  statement_nodes (store op address value) = 1 + expression_nodes address + expression_nodes value
  statement_nodes (return value) = 1 + expression_nodes value
  statement_nodes (stop value) = 1 + expression_nodes value
  statement_nodes (run value) = 1 + expression_nodes value

  pub statements_nodes : Statements → ℕ
  statements_nodes no_statements = 0
  statements_nodes (statement first rest) = statement_nodes first + statements_nodes rest

-- How many lists of the text stand within one another.
abbrev mutual
  pub expression_depth : Expression → ℕ
  expression_depth (number value) = 0
  expression_depth (local index) = 0
  expression_depth (register index) = 1
  expression_depth program_counter = 1
  expression_depth (load op address) = 1 + expression_depth address
  expression_depth (operation operator first second) =
      1 + max (expression_depth first) (expression_depth second)
  expression_depth (is_zero of) = 1 + expression_depth of
  expression_depth (call function arguments) = 1 + arguments_depth arguments
  expression_depth (system_call code value) =
      1 + max (expression_depth code) (expression_depth value)

  pub arguments_depth : Arguments → ℕ
  arguments_depth no_arguments = 0
  arguments_depth (argument first rest) = max (expression_depth first) (arguments_depth rest)

abbrev mutual
  pub statement_depth : Statement → ℕ
  statement_depth (emit value) = 1 + expression_depth value
  statement_depth (set index value) = 1 + expression_depth value
  statement_depth (block body) = 1 + statements_depth body
  statement_depth (choice condition first second) =
      1 + max (expression_depth condition) (max (statement_depth first) (statement_depth second))
  statement_depth (while condition body) =
      1 + max (expression_depth condition) (statements_depth body)
  statement_depth (store op address value) =
      1 + max (expression_depth address) (expression_depth value)
  statement_depth (return value) = 1 + expression_depth value
  statement_depth (stop value) = 1 + expression_depth value
  statement_depth (run value) = 1 + expression_depth value

  pub statements_depth : Statements → ℕ
  statements_depth no_statements = 0
  statements_depth (statement first rest) = max (statement_depth first) (statements_depth rest)

-- Numbers are words, locals those of the body, and registers those of the machine. Functions are
-- there, of which each has so many parameters, and are called with as many arguments.
abbrev mutual
  pub FitsExpression : List ℕ → ℕ → Expression → Type 0
  FitsExpression counts locals (number value) = value < 2 ^ 32
  FitsExpression counts locals (local index) = index < locals
  FitsExpression counts locals (register index) = index < 32
  FitsExpression counts locals program_counter = ⊤
  FitsExpression counts locals (load op address) = FitsExpression counts locals address
  FitsExpression counts locals (operation operator first second) =
      FitsExpression counts locals first × FitsExpression counts locals second
  FitsExpression counts locals (is_zero of) = FitsExpression counts locals of
  FitsExpression counts locals (call function arguments) =
      (function < length counts)
      × (argument_count arguments ≡ slice_index counts function)
      × FitsArguments counts locals arguments
  FitsExpression counts locals (system_call code value) =
      FitsExpression counts locals code × FitsExpression counts locals value

  pub FitsArguments : List ℕ → ℕ → Arguments → Type 0
  FitsArguments counts locals no_arguments = ⊤
  FitsArguments counts locals (argument first rest) =
      FitsExpression counts locals first × FitsArguments counts locals rest

abbrev mutual
  pub FitsStatement : List ℕ → ℕ → Statement → Type 0
  FitsStatement counts locals (emit value) = FitsExpression counts locals value
  FitsStatement counts locals (set index value) =
      (index < locals) × FitsExpression counts locals value
  FitsStatement counts locals (block body) = FitsStatements counts locals body
  FitsStatement counts locals (choice condition first second) =
      FitsExpression counts locals condition
      × FitsStatement counts locals first
      × FitsStatement counts locals second
  FitsStatement counts locals (while condition body) =
      FitsExpression counts locals condition × FitsStatements counts locals body
  FitsStatement counts locals (store op address value) =
      FitsExpression counts locals address × FitsExpression counts locals value
  FitsStatement counts locals (return value) = FitsExpression counts locals value
  FitsStatement counts locals (stop value) = FitsExpression counts locals value
  FitsStatement counts locals (run value) = FitsExpression counts locals value

  pub FitsStatements : List ℕ → ℕ → Statements → Type 0
  FitsStatements counts locals no_statements = ⊤
  FitsStatements counts locals (statement first rest) =
      FitsStatement counts locals first × FitsStatements counts locals rest

-- a body of so many locals: at most 16, and with its own list at most 64 lists deep
pub record FitsBody (counts : List ℕ) (locals : ℕ) (body : Statements) : Type 0 where
  pub few_locals : locals ≤ 16
  pub shallow : 1 + statements_depth body ≤ 64
  pub numbers : FitsStatements counts locals body

pub record FitsFunction (counts : List ℕ) (f : FunctionTree) : Type 0 where
  pub parameters : f.parameters ≤ f.locals
  pub body : FitsBody counts f.locals f.body

-- a range has a byte, and ends at 2 ^ 32 or below
abbrev pub FitsPoint : Point → Type 0
FitsPoint (Addr address) = address < 2 ^ 32
FitsPoint (Enter address) = address < 2 ^ 32
FitsPoint (Store address len) = (1 ≤ len) × (address + len ≤ 2 ^ 32)

pub record FitsTracepoint (counts : List ℕ) (t : TracepointTree) : Type 0 where
  pub point : FitsPoint t.point
  pub body : FitsBody counts t.locals t.body

-- how many parameters each function has
abbrev pub parameter_counts : ScriptTree → List ℕ
parameter_counts s = map (λ (f : FunctionTree). f.parameters) s.functions

-- all expressions and statements, functions and tracepoints
abbrev pub script_nodes : ScriptTree → ℕ
script_nodes s =
    sum (map (λ (f : FunctionTree). 1 + statements_nodes f.body) s.functions)
    + sum (map (λ (t : TracepointTree). 1 + statements_nodes t.body) s.tracepoints)

pub record IsWithinLimits (s : ScriptTree) : Type 0 where
  pub least_budget : 1 ≤ s.budget
  pub most_budget : s.budget ≤ 1000000
  pub few_tracepoints : length s.tracepoints ≤ 64
  pub few_nodes : script_nodes s ≤ 4096
  pub functions : All (FitsFunction (parameter_counts s)) s.functions
  pub tracepoints : All (FitsTracepoint (parameter_counts s)) s.tracepoints
