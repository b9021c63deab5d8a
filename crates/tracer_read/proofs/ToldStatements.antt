-- The first fault of statements.
use Rattle.std.proofs.Common.{◌≡◌, ℕ, Bool, true, false, List, [], ◌∷◌, ◌++◌, length, drop, Option, Some, None, Result, Ok, Err, refl, sym, ap, subst, ◌∙◌, append_assoc}
use Rattle.std.proofs.lemmas.List.{append-nil}
use Rattle.tracer_lang.specs.Tree.{Expression, Statement, emit, set, block, choice, while, store, return, stop, run, Statements, no_statements, statement}
use Rattle.tracer_text.specs.declared.fault.ScriptCause.TheVariants as causes
use Rattle.tracer_text.specs.declared.fault.ScriptFault.{ScriptFault}
use Rattle.tracer_text.specs.declared.token.Token.{Token}
use Rattle.tracer_text.specs.Nodes.{Tree, atom, list, Trees, no_trees, tree}
use Rattle.tracer_read.specs.declared.heads.StatementHead.{StatementHead}
use Rattle.tracer_read.specs.declared.heads.StatementHead.TheVariants.{Var, Set, Do, If, While, Store, Value}
use Rattle.tracer_read.specs.Heads.{statement_head}
use Rattle.tracer_read.specs.Parts.{◌>>=◌, or_fault, word_of, name_index, new_local, one, two}
use Rattle.tracer_read.specs.Expressions.{Around, head, expression, expressions}
use Rattle.tracer_read.specs.Statements.{Reading, Step, in_order, value_statement, statement_form, step_of, steps_of}
use Rattle.tracer_read.specs.Findings.{Finding, finding, in_a_row, known_name, local_name, expression_nodes, each_expression}
use Rattle.tracer_read.specs.FindingsScripts.{name_in, joined, declared_by, declared, each_declared, statement_causes, statement_parts, statement_nodes, body_nodes, behind_nodes}
use Rattle.tracer_read.proofs.FirstFault.{first, Told, Anything, bound_row, made, >>=-association}
use Rattle.tracer_read.proofs.ToldExpressions.{known_told, local_told, one_told, two_told, expression_told, each_told}

-- the locals after something that is read
abbrev pub Leaves : {A : Type 0} → List Token → A × List Token → Type 0
Leaves locals read = read.1 ≡ locals

-- ---- two statements in order

abbrev alone : Statement × List Token → Statements × List Token
alone read = (statement read.0 no_statements, read.1)

abbrev behind : Statement → Statements × List Token → Statements × List Token
behind s read = (statement s read.0, read.1)

abbrev chosen : Expression → Statement → Statement × List Token → Statement × List Token
chosen e s read = (choice e s read.0, read.1)

second_of : (o : Option ScriptFault) (locals : List Token) (e : Expression) (s : Statement)
    (r : Reading Statement)
    → Told (Leaves locals) o ((r >>= λ g. Ok (alone g)) >>= λ rest. Ok (behind s rest))
    → Told (Leaves locals) o (r >>= λ g. Ok (chosen e s g))
second_of o locals e s (Ok x) told = told
second_of o locals e s (Err f) told = told

pair_of : (o : Option ScriptFault) (locals : List Token) (e : Expression) (t : Step)
    (r : Reading Statement)
    → Told (Leaves locals) o
    (r >>= λ f. in_order (t ∷ []) f.1 >>= λ rest. Ok (behind f.0 rest))
    → Told (Leaves locals) o (r >>= λ f. t f.1 >>= λ g. Ok (chosen e f.0 g))
pair_of o locals e t (Ok x) told = second_of o locals e x.0 (t x.1) told
pair_of o locals e t (Err f) told = told

-- ---- a name and a value

var_told : (around : Around) (locals : List Token) (place : ℕ) (t u : Tree)
    → Told (Leaves (locals ++ name_in t))
    (first (local_name locals around.text t ++ expression_nodes around (locals ++ name_in t) u))
    (word_of around.text t >>= λ name. new_local around.text locals name >>= λ more.
    expression around more u >>= λ e. Ok (set (length locals) e, more))
var_told around locals place t u =
    let value : List Token → Reading Statement =
    λ more. expression around more u >>= λ e. Ok (set (length locals) e, more) in
    subst (Told (Leaves (locals ++ name_in t))
    (first (local_name locals around.text t ++ expression_nodes around (locals ++ name_in t) u)))
    (>>=-association (word_of around.text t) (new_local around.text locals) value)
    (bound_row (λ more. more ≡ locals ++ name_in t) (Leaves (locals ++ name_in t))
    (local_name locals around.text t) (expression_nodes around (locals ++ name_in t) u)
    (word_of around.text t >>= new_local around.text locals) value
    (local_told locals around.text t)
    (λ more q. subst (λ (ls : List Token).
    Told (Leaves (locals ++ name_in t)) (first (expression_nodes around ls u)) (value more)) q
    (made Anything (Leaves (locals ++ name_in t)) (first (expression_nodes around more u))
    (expression around more u) (λ e. (set (length locals) e, more)) (λ e any. q)
    (expression_told around more u))))

set_told : (around : Around) (locals : List Token) (place : ℕ) (t u : Tree)
    → Told (Leaves (locals ++ []))
    (first (known_name locals around.text t ++ expression_nodes around locals u))
    (word_of around.text t >>= λ name.
    or_fault name.place causes.NameUnknown (name_index around.text locals name) >>= λ index.
    expression around locals u >>= λ e. Ok (set index e, locals))
set_told around locals place t u =
    let value : ℕ → Reading Statement =
    λ index. expression around locals u >>= λ e. Ok (set index e, locals) in
    subst (Told (Leaves (locals ++ []))
    (first (known_name locals around.text t ++ expression_nodes around locals u)))
    (>>=-association (word_of around.text t)
    (λ name. or_fault name.place causes.NameUnknown (name_index around.text locals name)) value)
    (bound_row Anything (Leaves (locals ++ [])) (known_name locals around.text t)
    (expression_nodes around locals u)
    (word_of around.text t >>= λ name.
    or_fault name.place causes.NameUnknown (name_index around.text locals name)) value
    (known_told locals around.text t)
    (λ index any.
    made Anything (Leaves (locals ++ [])) (first (expression_nodes around locals u))
    (expression around locals u) (λ e. (set index e, locals)) (λ e any. sym (append-nil locals))
    (expression_told around locals u)))

-- ---- statements

-- what is told of a list with these parts
abbrev ToldForm : Around → List Token → ℕ → Trees → Option StatementHead → Type 0
ToldForm around locals place parts h =
    Told (Leaves (locals ++ declared_by parts (each_declared around.text parts) h))
    (first (finding place (statement_causes parts h)
    ∷ statement_parts around locals parts (body_nodes around parts locals)
    (behind_nodes around parts locals) h))
    (statement_form around place parts (steps_of around parts) locals h)

abbrev ToldBody : Around → Trees → List Token → Type 0
ToldBody around trees locals =
    Told (Leaves (locals ++ joined (each_declared around.text trees)))
    (first (body_nodes around trees locals)) (in_order (steps_of around trees) locals)

abbrev ToldBehind : Around → Trees → List Token → Type 0
ToldBehind around trees locals =
    Told (Leaves (locals ++ joined (drop 1 (each_declared around.text trees))))
    (first (behind_nodes around trees locals)) (in_order (drop 1 (steps_of around trees)) locals)

named_form : (around : Around) (locals : List Token) (place : ℕ) (parts : Trees)
    → ToldForm around locals place parts (Some Var) × ToldForm around locals place parts (Some Set)
named_form around locals place no_trees = (refl, refl)
named_form around locals place (tree t no_trees) = (refl, refl)
named_form around locals place (tree t (tree u no_trees)) =
    (var_told around locals place t u, set_told around locals place t u)
named_form around locals place (tree t (tree u (tree v trees))) = (refl, refl)

if_told : (around : Around) (locals : List Token) (place : ℕ) (parts : Trees)
    → ToldBehind around parts locals → ToldForm around locals place parts (Some If)
if_told around locals place no_trees told = refl
if_told around locals place (tree c no_trees) told = refl
if_told around locals place (tree c (tree s no_trees)) told = refl
if_told around locals place (tree c (tree s (tree t no_trees))) told =
    let more = joined (each_declared around.text (tree s (tree t no_trees))) in
    bound_row Anything (Leaves (locals ++ more)) (expression_nodes around locals c)
    (body_nodes around (tree s (tree t no_trees)) locals) (expression around locals c)
    (λ e. step_of around s locals >>= λ f. step_of around t f.1 >>= λ g.
    Ok (choice e f.0 g.0, g.1))
    (expression_told around locals c)
    (λ e any. pair_of (first (body_nodes around (tree s (tree t no_trees)) locals)) (locals ++ more) e
    (step_of around t) (step_of around s locals) told)
if_told around locals place (tree c (tree s (tree t (tree u trees)))) told = refl

while_told : (around : Around) (locals : List Token) (place : ℕ) (parts : Trees)
    → ToldBehind around parts locals → ToldForm around locals place parts (Some While)
while_told around locals place no_trees told = refl
while_told around locals place (tree c rest) told =
    let more = joined (each_declared around.text rest) in
    bound_row Anything (Leaves (locals ++ more)) (expression_nodes around locals c)
    (body_nodes around rest locals) (expression around locals c)
    (λ e. in_order (steps_of around rest) locals >>= λ body. Ok (while e body.0, body.1))
    (expression_told around locals c)
    (λ e any. made (Leaves (locals ++ more)) (Leaves (locals ++ more))
    (first (body_nodes around rest locals)) (in_order (steps_of around rest) locals)
    (λ body. (while e body.0, body.1)) (λ body q. q) told)

statement_form_told : (around : Around) (locals : List Token) (place : ℕ) (parts : Trees)
    (h : Option StatementHead) → ToldBody around parts locals → ToldBehind around parts locals
    → ToldForm around locals place parts h
statement_form_told around locals place parts None body behind = refl
statement_form_told around locals place parts (Some Var) body behind =
    (named_form around locals place parts).0
statement_form_told around locals place parts (Some Set) body behind =
    (named_form around locals place parts).1
statement_form_told around locals place parts (Some Do) body behind =
    let more = joined (each_declared around.text parts) in
    made (Leaves (locals ++ more)) (Leaves (locals ++ more)) (first (body_nodes around parts locals))
    (in_order (steps_of around parts) locals) (λ read. (block read.0, read.1)) (λ read q. q) body
statement_form_told around locals place parts (Some If) body behind =
    if_told around locals place parts behind
statement_form_told around locals place parts (Some While) body behind =
    while_told around locals place parts behind
statement_form_told around locals place parts (Some (Store op)) body behind =
    made Anything (Leaves (locals ++ []))
    (first (finding place (statement_causes parts (Some (Store op)))
    ∷ in_a_row (each_expression around locals parts)))
    (two place (expressions around locals parts)) (λ es. (store op es.0 es.1, locals))
    (λ es any. sym (append-nil locals))
    (two_told place parts around locals (each_told around locals parts))
statement_form_told around locals place parts (Some (Value h)) body behind =
    made Anything (Leaves (locals ++ []))
    (first (finding place (statement_causes parts (Some (Value h)))
    ∷ in_a_row (each_expression around locals parts)))
    (one place (expressions around locals parts)) (λ e. (value_statement h e, locals))
    (λ e any. sym (append-nil locals))
    (one_told place parts around locals (each_told around locals parts))

mutual
  pub statement_told : (around : Around) (t : Tree) (locals : List Token)
      → Told (Leaves (locals ++ declared around.text t)) (first (statement_nodes around t locals))
      (step_of around t locals)
  statement_told around (atom token) locals = refl
  statement_told around (list place no_trees) locals = refl
  statement_told around (list place (tree f parts)) locals =
      statement_form_told around locals place parts (head statement_head around.text f)
      (body_told around parts locals) (behind_told around parts locals)

  pub body_told : (around : Around) (trees : Trees) (locals : List Token)
      → ToldBody around trees locals
  body_told around no_trees locals = (refl, sym (append-nil locals))
  body_told around (tree t rest) locals =
      let now = locals ++ declared around.text t in
      let more = joined (each_declared around.text rest) in
      bound_row (Leaves now) (Leaves (locals ++ (declared around.text t ++ more)))
      (statement_nodes around t locals) (body_nodes around rest now) (step_of around t locals)
      (λ f. in_order (steps_of around rest) f.1 >>= λ read. Ok (statement f.0 read.0, read.1))
      (statement_told around t locals)
      (λ f q. made (Leaves (now ++ more)) (Leaves (locals ++ (declared around.text t ++ more)))
      (first (body_nodes around rest now)) (in_order (steps_of around rest) f.1)
      (λ read. (statement f.0 read.0, read.1))
      (λ read r. r ∙ append_assoc locals (declared around.text t) more)
      (subst (λ (ls : List Token).
      Told (Leaves (ls ++ more)) (first (body_nodes around rest ls))
      (in_order (steps_of around rest) f.1)) q (body_told around rest f.1)))

  pub behind_told : (around : Around) (trees : Trees) (locals : List Token)
      → ToldBehind around trees locals
  behind_told around no_trees locals = (refl, sym (append-nil locals))
  behind_told around (tree c rest) locals = body_told around rest locals
