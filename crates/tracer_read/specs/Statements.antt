-- What statements give: a tree and the locals from there on, or the first fault.
use Rattle.std.specs.Prelude.{ℕ, List, [], ◌∷◌, length, Option, Some, None, Result, Ok, Err}
use Rattle.tracer_lang.specs.Tree.{Expression, Statement, emit, set, block, choice, while, store, return, stop, run, Statements, no_statements, statement}
use Rattle.tracer_text.specs.declared.fault.ScriptCause.TheVariants as causes
use Rattle.tracer_text.specs.declared.fault.ScriptFault.{ScriptFault}
use Rattle.tracer_text.specs.declared.token.Token.{Token}
use Rattle.tracer_text.specs.FirstPass.{fault}
use Rattle.tracer_text.specs.Nodes.{Tree, atom, list, Trees, no_trees, tree}
use Rattle.tracer_read.specs.declared.heads.ValueHead.{ValueHead}
use Rattle.tracer_read.specs.declared.heads.ValueHead.TheVariants.{Emit, Return, Stop, Run}
use Rattle.tracer_read.specs.declared.heads.StatementHead.{StatementHead}
use Rattle.tracer_read.specs.declared.heads.StatementHead.TheVariants.{Var, Set, Do, If, While, Store, Value}
use Rattle.tracer_read.specs.Heads.{statement_head}
use Rattle.tracer_read.specs.Parts.{◌>>=◌, or_fault, word_of, name_index, new_local, two_parts, one, two}
use Rattle.tracer_read.specs.Expressions.{Around, head, expression, expressions}

-- what is read, behind these locals, and the locals after it
abbrev pub Reading : Type 0 → Type 0
Reading A = Result (A × List Token) ScriptFault

abbrev pub Step : Type 0
Step = List Token → Reading Statement

-- steps in order
abbrev pub in_order : List Step → List Token → Reading Statements
in_order [] locals = Ok (no_statements, locals)
in_order (step ∷ steps) locals = do
  first ← step locals
  rest ← in_order steps first.1
  Ok (statement first.0 rest.0, rest.1)

-- a local that is new, and there from then on; its value is read behind it
abbrev pub var_form : Around → ℕ → Trees → Step
var_form around place parts locals = do
  two ← two_parts place parts
  name ← word_of around.text two.0
  more ← new_local around.text locals name
  e ← expression around more two.1
  Ok (set (length locals) e, more)

-- a local that is there by then
abbrev pub set_form : Around → ℕ → Trees → Step
set_form around place parts locals = do
  two ← two_parts place parts
  name ← word_of around.text two.0
  index ← or_fault name.place causes.NameUnknown (name_index around.text locals name)
  e ← expression around locals two.1
  Ok (set index e, locals)

-- a condition and two statements
abbrev pub if_form : ℕ → List (Result Expression ScriptFault) → List Step → Step
if_form place (x ∷ xs) (c ∷ s ∷ t ∷ []) locals = do
  e ← x
  first ← s locals
  second ← t first.1
  Ok (choice e first.0 second.0, second.1)
if_form place xs steps locals = Err (fault place causes.Arity)

-- a condition and any number of statements
abbrev pub while_form : ℕ → List (Result Expression ScriptFault) → List Step → Step
while_form place (x ∷ xs) (c ∷ steps) locals = do
  e ← x
  body ← in_order steps locals
  Ok (while e body.0, body.1)
while_form place xs steps locals = Err (fault place causes.Arity)

-- a statement of one value
abbrev pub value_statement : ValueHead → Expression → Statement
value_statement Emit e = emit e
value_statement Return e = return e
value_statement Stop e = stop e
value_statement Run e = run e

-- a list with these parts behind its head, which are these steps
abbrev pub statement_form : Around → ℕ → Trees → List Step → List Token → Option StatementHead
    → Reading Statement
statement_form around place parts steps locals None = Err (fault place causes.Form)
statement_form around place parts steps locals (Some Var) = var_form around place parts locals
statement_form around place parts steps locals (Some Set) = set_form around place parts locals
statement_form around place parts steps locals (Some Do) = do
  body ← in_order steps locals
  Ok (block body.0, body.1)
statement_form around place parts steps locals (Some If) =
    if_form place (expressions around locals parts) steps locals
statement_form around place parts steps locals (Some While) =
    while_form place (expressions around locals parts) steps locals
statement_form around place parts steps locals (Some (Store op)) = do
  es ← two place (expressions around locals parts)
  Ok (store op es.0 es.1, locals)
statement_form around place parts steps locals (Some (Value head)) = do
  e ← one place (expressions around locals parts)
  Ok (value_statement head e, locals)

-- what a node gives behind some locals; and each of some nodes
abbrev mutual
  pub step_of : Around → Tree → List Token → Reading Statement
  step_of around (atom token) locals = Err (fault token.place causes.Form)
  step_of around (list place no_trees) locals = Err (fault place causes.Form)
  step_of around (list place (tree first parts)) locals =
      statement_form around place parts (steps_of around parts) locals
      (head statement_head around.text first)

  pub steps_of : Around → Trees → List Step
  steps_of around no_trees = []
  steps_of around (tree first rest) = step_of around first ∷ steps_of around rest
