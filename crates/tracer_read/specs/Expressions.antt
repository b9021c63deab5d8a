-- What expressions give: a tree, or the first fault.
use Rattle.std.specs.Prelude.{ℕ, ◌==◌, not, List, [], ◌∷◌, drop, map, slice_index, Option, Some, None, Result, Ok, Err, if◌then◌else◌}
use Rattle.sl_base.specs.declared.symbol.Symbol.{Symbol}
use Rattle.tracer_lang.specs.Tree.{Expression, number, local, register, program_counter, load, operation, is_zero, call, system_call, Arguments, no_arguments, argument}
use Rattle.tracer_text.specs.declared.fault.ScriptCause.TheVariants as causes
use Rattle.tracer_text.specs.declared.fault.ScriptFault.{ScriptFault}
use Rattle.tracer_text.specs.declared.token.Token.{Token}
use Rattle.tracer_text.specs.FirstPass.{fault}
use Rattle.tracer_text.specs.Nodes.{Tree, atom, list, Trees, no_trees, tree}
use Rattle.tracer_read.specs.declared.heads.ExpressionHead.{ExpressionHead}
use Rattle.tracer_read.specs.declared.heads.ExpressionHead.TheVariants.{Sym, Reg, Pc, Not, Call, Sys, Load, Operation}
use Rattle.tracer_read.specs.Numbers.{is_number}
use Rattle.tracer_read.specs.Heads.{expression_head}
use Rattle.tracer_read.specs.Parts.{◌>>=◌, or_fault, unless, spelling, word_of, number_of, number_within, name_index, symbol_of, no_part, only_part, part_count, one, two}

-- a function that may be called, with the number of its parameters
pub record Callee : Type 0 where
  pub name : Token
  pub parameters : ℕ

-- what is the same for all of a script: its text, the symbols, and its functions in order
pub record Around : Type 0 where
  pub text : List ℕ
  pub symbols : List Symbol
  pub callees : List Callee

-- the word that a list begins with, as a head of its place
abbrev pub head : {X : Type 0} → (List ℕ → Option X) → List ℕ → Tree → Option X
head named text (atom token) = named (spelling text token)
head named text (list place trees) = None

-- a number, or a local that is there by then
abbrev pub value : Around → List Token → Token → Result Expression ScriptFault
value around locals token =
    if is_number (spelling around.text token)
    then (number_of around.text (atom token) >>= λ n. Ok (number n))
    else (
    or_fault token.place causes.NameUnknown (name_index around.text locals token) >>= λ index.
    Ok (local index)
    )

-- all parts in order
abbrev pub all : List (Result Expression ScriptFault) → Result Arguments ScriptFault
all [] = Ok no_arguments
all (x ∷ xs) = do
  e ← x
  es ← all xs
  Ok (argument e es)

-- the names of functions
abbrev pub callee_names : List Callee → List Token
callee_names callees = map (λ (callee : Callee). callee.name) callees

-- how many parameters each has
abbrev pub parameter_counts : List Callee → List ℕ
parameter_counts callees = map (λ (callee : Callee). callee.parameters) callees

-- The number of the function that is called. It has as many parameters as parts stand behind its
-- name.
abbrev pub called : Around → ℕ → Trees → Result ℕ ScriptFault
called around place no_trees = Err (fault place causes.Arity)
called around place (tree f arguments) = do
  token ← word_of around.text f
  index ← or_fault token.place causes.NameUnknown (
      name_index around.text (callee_names around.callees) token
      )
  unless (not (part_count arguments == slice_index (parameter_counts around.callees) index))
      place causes.Arity (Ok index)

-- a list with these parts behind its head, which give these as expressions
abbrev pub expression_form : Around → ℕ → Trees → List (Result Expression ScriptFault)
    → Option ExpressionHead → Result Expression ScriptFault
expression_form around place parts xs None = Err (fault place causes.Form)
expression_form around place parts xs (Some Pc) = no_part place parts program_counter
expression_form around place parts xs (Some Reg) = do
  t ← only_part place parts
  index ← number_within 0 31 around.text t
  Ok (register index)
expression_form around place parts xs (Some Sym) = do
  t ← only_part place parts
  n ← symbol_of around.text around.symbols t
  Ok (number n)
expression_form around place parts xs (Some Not) = do
  e ← one place xs
  Ok (is_zero e)
expression_form around place parts xs (Some (Load op)) = do
  e ← one place xs
  Ok (load op e)
expression_form around place parts xs (Some (Operation operator)) = do
  es ← two place xs
  Ok (operation operator es.0 es.1)
expression_form around place parts xs (Some Sys) = do
  es ← two place xs
  Ok (system_call es.0 es.1)
expression_form around place parts xs (Some Call) = do
  index ← called around place parts
  es ← all (drop 1 xs)
  Ok (call index es)

-- what a node gives in a body with these locals; and what each of some nodes gives
abbrev mutual
  pub expression : Around → List Token → Tree → Result Expression ScriptFault
  expression around locals (atom token) = value around locals token
  expression around locals (list place no_trees) = Err (fault place causes.Form)
  expression around locals (list place (tree first parts)) =
      expression_form around place parts (expressions around locals parts)
      (head expression_head around.text first)

  pub expressions : Around → List Token → Trees → List (Result Expression ScriptFault)
  expressions around locals no_trees = []
  expressions around locals (tree first rest) =
      expression around locals first ∷ expressions around locals rest
