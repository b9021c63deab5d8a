-- The first fault of an expression.
use Rattle.std.proofs.Common.{◌≡◌, ℕ, Bool, true, false, cond, List, [], ◌∷◌, ◌++◌, drop, Option, Some, None, Result, Ok, Err, refl, sym, ap, subst, ◌∙◌}
use Rattle.std.specs.Prelude.{◌==◌, ◌&&◌, not, nat_le, length, slice_index, is_some, is_none}
use Rattle.std.specs.Option.{option_or, unwrap_or}
use Rattle.std.proofs.lemmas.List.{append-nil}
use Rattle.tracer_lang.specs.Tree.{Expression, number, local, register, program_counter, load, operation, is_zero, call, system_call, Arguments, no_arguments, argument}
use Rattle.tracer_text.specs.declared.fault.ScriptCause.{ScriptCause}
use Rattle.tracer_text.specs.declared.fault.ScriptCause.TheVariants as causes
use Rattle.tracer_text.specs.declared.fault.ScriptFault.{ScriptFault}
use Rattle.tracer_text.specs.declared.token.Token.{Token}
use Rattle.tracer_text.specs.FirstPass.{fault}
use Rattle.tracer_text.specs.Nodes.{Tree, atom, list, Trees, no_trees, tree}
use Rattle.sl_base.specs.declared.symbol.Symbol.{Symbol}
use Rattle.tracer_read.specs.declared.heads.ExpressionHead.{ExpressionHead}
use Rattle.tracer_read.specs.declared.heads.ExpressionHead.TheVariants.{Sym, Reg, Pc, Not, Call, Sys, Load, Operation}
use Rattle.tracer_read.specs.Numbers.{is_number, number_value}
use Rattle.tracer_read.specs.Heads.{expression_head}
use Rattle.tracer_read.specs.Parts.{◌>>=◌, or_fault, unless, spelling, place_of, word_of, number_of, number_within, name_index, new_name, new_local, symbol_value, symbol_of, only_part, two_parts, part_count, one, two}
use Rattle.tracer_read.specs.Expressions.{Around, head, value, all, callee_names, parameter_counts, called, expression_form, expression, expressions}
use Rattle.tracer_read.specs.Findings.{Finding, finding, when, in_a_row, has_parts, of_first, is_right, number_node, name_node, known_name, function_name, local_name, symbol_name, value_causes, function_named, takes, expression_causes, expression_parts, expression_nodes, each_expression}
use Rattle.tracer_read.specs.FindingsScripts.{name_in, value_at}
use Rattle.tracer_read.proofs.FirstFault.{first, first-append, Told, Anything, front, bound_row, made, >>=-association}

-- ---- numbers

pub checked : (passes : Bool) (place n : ℕ)
    → Told Anything (first (finding place (when (not passes) causes.Number) ∷ []))
    (cond passes (Ok n) (Err (fault place causes.Number)))
checked true place n = (refl, tt)
checked false place n = refl

number_by : (passes : ℕ → Bool) (place : ℕ) (b : Bool) (v : Option ℕ)
    → Told Anything
    (first (finding place (cond b (when (not (is_right passes v)) causes.Number) (causes.Form ∷ [])) ∷ []))
    (cond b (or_fault place causes.Number v) (Err (fault place causes.Form)) >>= λ n. cond (passes n)
    (Ok n) (Err (fault place causes.Number)))
number_by passes place false v = refl
number_by passes place true None = refl
number_by passes place true (Some n) = checked (passes n) place n

pub number_told : (least most : ℕ) (text : List ℕ) (t : Tree)
    → Told Anything (first (number_node (λ n. nat_le least n && nat_le n most) text t))
    (number_within least most text t)
number_told least most text (list place trees) = refl
number_told least most text (atom token) =
    number_by (λ n. nat_le least n && nat_le n most) token.place
    (is_number (spelling text token)) (number_value (spelling text token))

plain_by : (place : ℕ) (b : Bool) (v : Option ℕ)
    → Told (λ n. unwrap_or v 0 ≡ n)
    (first (finding place (cond b (when (not (is_right (λ _. true) v)) causes.Number) (causes.Form ∷ [])) ∷ []))
    (cond b (or_fault place causes.Number v) (Err (fault place causes.Form)))
plain_by place false v = refl
plain_by place true None = refl
plain_by place true (Some n) = (refl, refl)

-- any number
pub plain_told : (text : List ℕ) (t : Tree)
    → Told (λ n. value_at text t ≡ n) (first (number_node (λ _. true) text t)) (number_of text t)
plain_told text (list place trees) = refl
plain_told text (atom token) =
    plain_by token.place (is_number (spelling text token)) (number_value (spelling text token))

-- ---- names

name_by : {A : Type 0} (Q : A → Type 0) (token : Token) (b : Bool) (broken : List ScriptCause)
    (k : Token → Result A ScriptFault)
    → Told Q (first (finding token.place broken ∷ [])) (k token)
    → Told Q (first (finding token.place (cond b (causes.Form ∷ []) broken) ∷ []))
    (unless b token.place causes.Form (Ok token) >>= k)
name_by Q token true broken k told = refl
name_by Q token false broken k told = told

pub name_told : {A : Type 0} (Q : Tree → A → Type 0) (breaks : Token → List ScriptCause)
    (k : Token → Result A ScriptFault) (text : List ℕ)
    → ((token : Token) → Told (Q (atom token)) (first (finding token.place (breaks token) ∷ [])) (k token))
    → (t : Tree) → Told (Q t) (first (name_node breaks text t)) (word_of text t >>= k)
name_told Q breaks k text each (list place trees) = refl
name_told Q breaks k text each (atom token) =
    name_by (Q (atom token)) token (is_number (spelling text token)) (breaks token) k (each token)

known_by : (place : ℕ) (cause : ScriptCause) (v : Option ℕ)
    → Told Anything (first (finding place (when (is_none v) cause) ∷ [])) (or_fault place cause v)
known_by place cause None = refl
known_by place cause (Some n) = (refl, tt)

pub known_told : (names : List Token) (text : List ℕ) (t : Tree)
    → Told Anything (first (known_name names text t))
    (word_of text t >>= λ token. or_fault token.place causes.NameUnknown (name_index text names token))
known_told names text t =
    name_told (λ t. Anything)
    (λ token. when (is_none (name_index text names token)) causes.NameUnknown)
    (λ token. or_fault token.place causes.NameUnknown (name_index text names token)) text
    (λ token. known_by token.place causes.NameUnknown (name_index text names token)) t

pub symbol_told : (symbols : List Symbol) (text : List ℕ) (t : Tree)
    → Told Anything (first (symbol_name symbols text t)) (symbol_of text symbols t)
symbol_told symbols text t =
    name_told (λ t. Anything)
    (λ token. when (is_none (symbol_value symbols (spelling text token))) causes.SymbolUnknown)
    (λ token. or_fault token.place causes.SymbolUnknown (symbol_value symbols (spelling text token)))
    text (λ token. known_by token.place causes.SymbolUnknown (symbol_value symbols (spelling text token))) t

new_by : (place : ℕ) (names : List Token) (token : Token) (b : Bool)
    → Told (λ more. more ≡ names ++ token ∷ [])
    (first (finding place (when b causes.NameDoubled) ∷ []))
    (unless b place causes.NameDoubled (Ok (names ++ token ∷ [])))
new_by place names token true = refl
new_by place names token false = (refl, refl)

pub function_told : (names : List Token) (text : List ℕ) (t : Tree)
    → Told (λ more. more ≡ names ++ name_in t) (first (function_name names text t))
    (word_of text t >>= new_name text names)
function_told names text t =
    name_told (λ t more. more ≡ names ++ name_in t)
    (λ token. when (is_some (name_index text names token)) causes.NameDoubled) (new_name text names)
    text (λ token. new_by token.place names token (is_some (name_index text names token))) t

local_by : (place : ℕ) (names : List Token) (token : Token) (b c : Bool)
    → Told (λ more. more ≡ names ++ token ∷ [])
    (first (finding place (when b causes.NameDoubled ++ when c causes.TooLarge) ∷ []))
    (unless b place causes.NameDoubled (Ok (names ++ token ∷ [])) >>= λ more. unless c place
    causes.TooLarge (Ok more))
local_by place names token true true = refl
local_by place names token true false = refl
local_by place names token false true = refl
local_by place names token false false = (refl, refl)

pub local_told : (names : List Token) (text : List ℕ) (t : Tree)
    → Told (λ more. more ≡ names ++ name_in t) (first (local_name names text t))
    (word_of text t >>= new_local text names)
local_told names text t =
    name_told (λ t more. more ≡ names ++ name_in t)
    (λ token.
    when (is_some (name_index text names token)) causes.NameDoubled
    ++ when (length names == 16) causes.TooLarge)
    (new_local text names) text
    (λ token. local_by token.place names token (is_some (name_index text names token))
    (length names == 16)) t

-- ---- lists of so many parts

pub only_told : {A : Type 0} (place : ℕ) (look : Tree → List Finding)
    (k : Tree → Result A ScriptFault) → ((t : Tree) → Told Anything (first (look t)) (k t))
    → (parts : Trees)
    → Told Anything
    (first (finding place (when (not (has_parts 1 parts)) causes.Arity) ∷ of_first look parts))
    (only_part place parts >>= k)
only_told place look k each no_trees = refl
only_told place look k each (tree t no_trees) = each t
only_told place look k each (tree t (tree u trees)) = refl

-- each of some expressions
abbrev pub ToldEach : List (List Finding) → List (Result Expression ScriptFault) → Type 0
ToldEach [] [] = Unit {0}
ToldEach [] (r ∷ rs) = ⊥
ToldEach (x ∷ xs) [] = ⊥
ToldEach (x ∷ xs) (r ∷ rs) = Told Anything (first x) r × ToldEach xs rs

pub all_told : (found : List (List Finding)) (rs : List (Result Expression ScriptFault))
    → ToldEach found rs → Told Anything (first (in_a_row found)) (all rs)
all_told [] [] told = (refl, tt)
all_told [] (r ∷ rs) told = absurd told
all_told (x ∷ xs) [] told = absurd told
all_told (x ∷ xs) (r ∷ rs) told =
    bound_row Anything Anything x (in_a_row xs) r
    (λ e. all rs >>= λ es. Ok (argument e es)) told.0
    (λ e any. made Anything Anything (first (in_a_row xs)) (all rs) (argument e) (λ es any. tt)
    (all_told xs rs told.1))

pub one_told : (place : ℕ) (parts : Trees) (around : Around) (locals : List Token)
    → ToldEach (each_expression around locals parts) (expressions around locals parts)
    → Told Anything
    (first (finding place (when (not (has_parts 1 parts)) causes.Arity)
    ∷ in_a_row (each_expression around locals parts)))
    (one place (expressions around locals parts))
one_told place no_trees around locals told = refl
one_told place (tree t no_trees) around locals told =
    subst (λ (xs : List Finding). Told Anything (first xs) (expression around locals t))
    (sym (append-nil (expression_nodes around locals t))) told.0
one_told place (tree t (tree u trees)) around locals told = refl

pub two_told : (place : ℕ) (parts : Trees) (around : Around) (locals : List Token)
    → ToldEach (each_expression around locals parts) (expressions around locals parts)
    → Told Anything
    (first (finding place (when (not (has_parts 2 parts)) causes.Arity)
    ∷ in_a_row (each_expression around locals parts)))
    (two place (expressions around locals parts))
two_told place no_trees around locals told = refl
two_told place (tree t no_trees) around locals told = refl
two_told place (tree t (tree u no_trees)) around locals told =
    bound_row Anything Anything (expression_nodes around locals t)
    (expression_nodes around locals u ++ []) (expression around locals t)
    (λ a. expression around locals u >>= λ b. Ok (a, b)) told.0
    (λ a any. subst (λ (xs : List Finding).
    Told {A = Expression × Expression} Anything (first xs)
    (expression around locals u >>= λ b. Ok (a, b)))
    (sym (append-nil (expression_nodes around locals u)))
    (made Anything Anything (first (expression_nodes around locals u)) (expression around locals u)
    (λ b. (a, b)) (λ b any. tt) told.1.0))
two_told place (tree t (tree u (tree v trees))) around locals told = refl

-- ---- expressions

value_by : (place : ℕ) (b : Bool) (v i : Option ℕ)
    → Told Anything
    (first (finding place (cond b (when (is_none v) causes.Number) (when (is_none i) causes.NameUnknown)) ∷ []))
    (cond b
    (cond b (or_fault place causes.Number v) (Err (fault place causes.Form)) >>= λ n. Ok (number n))
    (or_fault place causes.NameUnknown i >>= λ index. Ok (local index)))
value_by place true None i = refl
value_by place true (Some n) i = (refl, tt)
value_by place false v None = refl
value_by place false v (Some index) = (refl, tt)

counted : (place tp : ℕ) (right : Bool) (index : ℕ) (ys : List Finding)
    (k : ℕ → Result Expression ScriptFault) → Told Anything (first ys) (k index)
    → Told Anything
    (first (finding place (when (not right) causes.Arity) ∷ (finding tp [] ∷ ys)))
    (unless (not right) place causes.Arity (Ok index) >>= k)
counted place tp true index ys k told = told
counted place tp false index ys k told = refl

found_by : (around : Around) (place tp count : ℕ) (i : Option ℕ) (ys : List Finding)
    (k : ℕ → Result Expression ScriptFault)
    → ((index : ℕ) → Told Anything (first ys) (k index))
    → Told Anything
    (first (finding place (when (not (takes around count i)) causes.Arity)
    ∷ (finding tp (when (is_none i) causes.NameUnknown) ∷ ys)))
    ((or_fault tp causes.NameUnknown i >>= λ index.
    unless (not (count == slice_index (parameter_counts around.callees) index)) place causes.Arity
    (Ok index)) >>= k)
found_by around place tp count None ys k each = refl
found_by around place tp count (Some index) ys k each =
    counted place tp (count == slice_index (parameter_counts around.callees) index) index ys k
    (each index)

called_by : (around : Around) (place : ℕ) (token : Token) (count : ℕ) (b : Bool)
    (i : Token → Option ℕ) (ys : List Finding) (k : ℕ → Result Expression ScriptFault)
    → ((index : ℕ) → Told Anything (first ys) (k index))
    → Told Anything
    (first (finding place (when (not (takes around count (cond b None (i token)))) causes.Arity)
    ∷ (finding token.place (cond b (causes.Form ∷ []) (when (is_none (i token)) causes.NameUnknown))
    ∷ ys)))
    ((unless b token.place causes.Form (Ok token) >>= λ name.
    or_fault name.place causes.NameUnknown (i name) >>= λ index.
    unless (not (count == slice_index (parameter_counts around.callees) index)) place causes.Arity
    (Ok index)) >>= k)
called_by around place token count true i ys k each = refl
called_by around place token count false i ys k each =
    found_by around place token.place count (i token) ys k each

call_told : (around : Around) (locals : List Token) (place : ℕ) (f : Tree) (arguments : Trees)
    → ToldEach (each_expression around locals arguments) (expressions around locals arguments)
    → Told Anything
    (first (finding place (expression_causes around (tree f arguments) (Some Call))
    ∷ expression_parts around (tree f arguments)
    (each_expression around locals (tree f arguments)) (Some Call)))
    (expression_form around place (tree f arguments)
    (expressions around locals (tree f arguments)) (Some Call))
call_told around locals place (list p trees) arguments told = refl
call_told around locals place (atom token) arguments told =
    called_by around place token (part_count arguments) (is_number (spelling around.text token))
    (λ name. name_index around.text (callee_names around.callees) name)
    (in_a_row (each_expression around locals arguments))
    (λ index. all (expressions around locals arguments) >>= λ es. Ok (call index es))
    (λ index. made Anything Anything (first (in_a_row (each_expression around locals arguments)))
    (all (expressions around locals arguments)) (call index) (λ es any. tt)
    (all_told (each_expression around locals arguments) (expressions around locals arguments) told))

form_told : (around : Around) (locals : List Token) (place : ℕ) (parts : Trees)
    (h : Option ExpressionHead)
    → ToldEach (each_expression around locals parts) (expressions around locals parts)
    → Told Anything
    (first (finding place (expression_causes around parts h)
    ∷ expression_parts around parts (each_expression around locals parts) h))
    (expression_form around place parts (expressions around locals parts) h)
form_told around locals place parts None told = refl
form_told around locals place no_trees (Some Pc) told = (refl, tt)
form_told around locals place (tree t trees) (Some Pc) told = refl
form_told around locals place parts (Some Reg) told =
    only_told place (number_node (λ n. nat_le 0 n && nat_le n 31) around.text)
    (λ t. number_within 0 31 around.text t >>= λ index. Ok (register index))
    (λ t. made Anything Anything
    (first (number_node (λ n. nat_le 0 n && nat_le n 31) around.text t))
    (number_within 0 31 around.text t) register (λ n any. tt) (number_told 0 31 around.text t))
    parts
form_told around locals place parts (Some Sym) told =
    only_told place (symbol_name around.symbols around.text)
    (λ t. symbol_of around.text around.symbols t >>= λ n. Ok (number n))
    (λ t. made Anything Anything (first (symbol_name around.symbols around.text t))
    (symbol_of around.text around.symbols t) number (λ n any. tt)
    (symbol_told around.symbols around.text t))
    parts
form_told around locals place parts (Some Not) told =
    made Anything Anything
    (first (finding place (when (not (has_parts 1 parts)) causes.Arity)
    ∷ in_a_row (each_expression around locals parts)))
    (one place (expressions around locals parts)) is_zero (λ e any. tt)
    (one_told place parts around locals told)
form_told around locals place parts (Some (Load op)) told =
    made Anything Anything
    (first (finding place (when (not (has_parts 1 parts)) causes.Arity)
    ∷ in_a_row (each_expression around locals parts)))
    (one place (expressions around locals parts)) (load op) (λ e any. tt)
    (one_told place parts around locals told)
form_told around locals place parts (Some (Operation operator)) told =
    made Anything Anything
    (first (finding place (when (not (has_parts 2 parts)) causes.Arity)
    ∷ in_a_row (each_expression around locals parts)))
    (two place (expressions around locals parts)) (λ es. operation operator es.0 es.1)
    (λ e any. tt) (two_told place parts around locals told)
form_told around locals place parts (Some Sys) told =
    made Anything Anything
    (first (finding place (when (not (has_parts 2 parts)) causes.Arity)
    ∷ in_a_row (each_expression around locals parts)))
    (two place (expressions around locals parts)) (λ es. system_call es.0 es.1)
    (λ e any. tt) (two_told place parts around locals told)
form_told around locals place no_trees (Some Call) told = refl
form_told around locals place (tree f arguments) (Some Call) told =
    call_told around locals place f arguments told.1

mutual
  pub expression_told : (around : Around) (locals : List Token) (t : Tree)
      → Told Anything (first (expression_nodes around locals t)) (expression around locals t)
  expression_told around locals (atom token) =
      value_by token.place (is_number (spelling around.text token))
      (number_value (spelling around.text token)) (name_index around.text locals token)
  expression_told around locals (list place no_trees) = refl
  expression_told around locals (list place (tree f parts)) =
      form_told around locals place parts (head expression_head around.text f)
      (each_told around locals parts)

  pub each_told : (around : Around) (locals : List Token) (trees : Trees)
      → ToldEach (each_expression around locals trees) (expressions around locals trees)
  each_told around locals no_trees = tt
  each_told around locals (tree t rest) =
      (expression_told around locals t, each_told around locals rest)
