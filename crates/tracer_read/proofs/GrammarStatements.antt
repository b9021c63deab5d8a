-- Statements are read as what their nodes spell, and nothing else is read.
use Rattle.std.proofs.Common.{◌≡◌, ◌≤◌, ℕ, List, [], ◌∷◌, length, Option, Some, None, Result, Ok, Err, IfOk, inl, inr, refl, sym, ap, subst, ◌∙◌}
use Rattle.tracer_lang.specs.Tree.{Expression, Statement, emit, set, block, choice, while, store, return, stop, run, Statements, no_statements, statement}
use Rattle.tracer_text.specs.declared.fault.ScriptCause.TheVariants as causes
use Rattle.tracer_text.specs.declared.token.Token.{Token}
use Rattle.tracer_text.specs.Nodes.{Tree, atom, list, Trees, no_trees, tree}
use Rattle.tracer_read.specs.declared.heads.ValueHead.{ValueHead}
use Rattle.tracer_read.specs.declared.heads.ValueHead.TheVariants.{Emit, Return, Stop, Run}
use Rattle.tracer_read.specs.declared.heads.StatementHead.{StatementHead}
use Rattle.tracer_read.specs.declared.heads.StatementHead.TheVariants.{Var, Set, Do, If, While, Store, Value}
use Rattle.tracer_read.specs.Heads.{statement_head}
use Rattle.tracer_read.specs.Parts.{◌>>=◌, or_fault, word_of, name_index, new_local, two_parts, one, two}
use Rattle.tracer_read.specs.Expressions.{Around, head, expression, expressions}
use Rattle.tracer_read.specs.Statements.{Reading, in_order, var_form, set_form, if_form, while_form, value_statement, statement_form, step_of, steps_of}
use Rattle.tracer_read.specs.Grammar.{IsWord, NoPart, FirstPart, OnePart, TwoParts, ThreeParts, IsName, Spells}
use Rattle.tracer_read.specs.GrammarStatements.{IsNewLocal, Declares, Sets, IsStatement, SpellsStatement, SpellsStatements}
use Rattle.tracer_read.proofs.Sound.{IfOk-bind, IfOk-then}
use Rattle.tracer_read.proofs.GrammarNames.{ok_bind, or_fault_ok, index_names, names_index, new_local-is, new_local-ok, word_spelled, word_read}
use Rattle.tracer_read.proofs.GrammarExpressions.{expression_spelled, one_spelled, two_spelled, expression_read, one_read, two_read}

-- ---- what is read is spelled

-- what is read from a node behind some locals
abbrev pub Spelled : Around → Tree → List Token → Statement × List Token → Type 0
Spelled around t before x = SpellsStatement around x.0 t before x.1 × (length x.1 ≤ 16)

abbrev pub AllSpelled : Around → Trees → List Token → Statements × List Token → Type 0
AllSpelled around parts before x = SpellsStatements around x.0 parts before x.1 × (length x.1 ≤ 16)

-- a list whose first node is a word for this statement
abbrev Begins : Around → Tree → StatementHead → Type 0
Begins around first what = head statement_head around.text first ≡ Some what

-- what the list is read as, it spells
abbrev FormSpelled : Around → ℕ → Tree → Trees → List Token → Option StatementHead → Type 0
FormSpelled around place first parts locals h =
    IfOk (statement_form around place parts (steps_of around parts) locals h)
    (Spelled around (list place (tree first parts)) locals)

pub two_nodes : (place : ℕ) (parts : Trees) (pair : Tree × Tree) (Hold : Tree → Tree → Type 0)
    → two_parts place parts ≡ Ok pair → Hold pair.0 pair.1 → TwoParts Hold parts
two_nodes place no_trees pair Hold is h = absurd cc
two_nodes place (tree t no_trees) pair Hold is h = absurd cc
two_nodes place (tree t (tree u no_trees)) pair Hold is h =
    let same : (t, u) ≡ pair = cc (is) in
    subst (λ (p : Tree × Tree). Hold p.0 p.1) (sym same) h
two_nodes place (tree t (tree u (tree v parts))) pair Hold is h = absurd cc

var_spelled : (around : Around) (place : ℕ) (first : Tree) (parts : Trees) (locals : List Token)
    → length locals ≤ 16
    → Begins around first Var → FormSpelled around place first parts locals (Some Var)
var_spelled around place first parts locals few is =
    let Q : Statement × List Token → Type 0 =
    Spelled around (list place (tree first parts)) locals in
    IfOk-then (two_parts place parts) _ Q (λ pair two_is.
    IfOk-then (word_of around.text pair.0) _ Q (λ name name_is.
    IfOk-bind (new_local around.text locals name) _
    (λ more. IsNewLocal around.text locals more name) Q (new_local-is around.text locals name few)
    (λ more new.
    IfOk-bind (expression around more pair.1) _ (λ e. Spells around more e pair.1) Q
    (expression_spelled around more pair.1) (λ e h. (
      inl (
        is,
        two_nodes place parts pair (Declares around (length locals) e locals more) two_is (
          word_spelled around.text pair.0 name (IsNewLocal around.text locals more) name_is new,
          refl,
          h,
        ),
      ),
      new.2,
    )))))

set_spelled : (around : Around) (place : ℕ) (first : Tree) (parts : Trees) (locals : List Token)
    → length locals ≤ 16
    → Begins around first Set → FormSpelled around place first parts locals (Some Set)
set_spelled around place first parts locals few is =
    let Q : Statement × List Token → Type 0 =
    Spelled around (list place (tree first parts)) locals in
    IfOk-then (two_parts place parts) _ Q (λ pair two_is.
    IfOk-then (word_of around.text pair.0) _ Q (λ name name_is.
    IfOk-then (or_fault name.place causes.NameUnknown (name_index around.text locals name)) _ Q
    (λ index found.
    IfOk-bind (expression around locals pair.1) _ (λ e. Spells around locals e pair.1) Q
    (expression_spelled around locals pair.1) (λ e h.
    let index_is = name_index around.text locals name in
    let found_is : index_is ≡ Some index =
    or_fault_ok name.place causes.NameUnknown index_is index found in
    let word : IsWord around.text (IsName around.text locals index) pair.0 =
    word_spelled around.text pair.0 name (IsName around.text locals index) name_is
    (index_names around.text locals name index found_is) in
    let two_nodes_are : TwoParts (Sets around index e locals) parts =
    two_nodes place parts pair (Sets around index e locals) two_is (word, h) in
    (inr ((is, two_nodes_are), refl), few)))))

value_spelled : (around : Around) (place : ℕ) (first : Tree) (parts : Trees) (locals : List Token)
    (h : ValueHead) → length locals ≤ 16
    → Begins around first (Value h) → FormSpelled around place first parts locals (Some (Value h))
value_spelled around place first parts locals Emit few is =
    IfOk-bind (one place (expressions around locals parts)) _
    (λ e. OnePart (Spells around locals e) parts)
    (Spelled around (list place (tree first parts)) locals)
    (one_spelled around locals place parts) (λ e h. (((is, h), refl), few))
value_spelled around place first parts locals Return few is =
    IfOk-bind (one place (expressions around locals parts)) _
    (λ e. OnePart (Spells around locals e) parts)
    (Spelled around (list place (tree first parts)) locals)
    (one_spelled around locals place parts) (λ e h. (((is, h), refl), few))
value_spelled around place first parts locals Stop few is =
    IfOk-bind (one place (expressions around locals parts)) _
    (λ e. OnePart (Spells around locals e) parts)
    (Spelled around (list place (tree first parts)) locals)
    (one_spelled around locals place parts) (λ e h. (((is, h), refl), few))
value_spelled around place first parts locals Run few is =
    IfOk-bind (one place (expressions around locals parts)) _
    (λ e. OnePart (Spells around locals e) parts)
    (Spelled around (list place (tree first parts)) locals)
    (one_spelled around locals place parts) (λ e h. (((is, h), refl), few))

-- what is known of the parts of a list
record PartsSpelled (around : Around) (place : ℕ) (parts : Trees)
    (locals : List Token) : Type 0 where
  body_is : IfOk (in_order (steps_of around parts) locals) (AllSpelled around parts locals)
  if_is : (first : Tree) → Begins around first If
      → FormSpelled around place first parts locals (Some If)
  while_is : (first : Tree) → Begins around first While
      → FormSpelled around place first parts locals (Some While)

form_spelled : (around : Around) (place : ℕ) (first : Tree) (parts : Trees) (locals : List Token)
    (h : Option StatementHead) → length locals ≤ 16
    → head statement_head around.text first ≡ h → PartsSpelled around place parts locals
    → FormSpelled around place first parts locals h
form_spelled around place first parts locals None few is known = tt
form_spelled around place first parts locals (Some Var) few is known =
    var_spelled around place first parts locals few is
form_spelled around place first parts locals (Some Set) few is known =
    set_spelled around place first parts locals few is
form_spelled around place first parts locals (Some If) few is known = known.if_is first is
form_spelled around place first parts locals (Some While) few is known = known.while_is first is
form_spelled around place first parts locals (Some Do) few is known =
    IfOk-bind (in_order (steps_of around parts) locals) _ (AllSpelled around parts locals)
    (Spelled around (list place (tree first parts)) locals) known.body_is
    (λ x h. ((is, h.0), h.1))
form_spelled around place first parts locals (Some (Store op)) few is known =
    IfOk-bind (two place (expressions around locals parts)) _
    (λ es. TwoParts (λ a b. Spells around locals es.0 a × Spells around locals es.1 b) parts)
    (Spelled around (list place (tree first parts)) locals) (two_spelled around locals place parts)
    (λ es h. (((is, h), refl), few))
form_spelled around place first parts locals (Some (Value h)) few is known =
    value_spelled around place first parts locals h few is

mutual
  pub step_spelled : (around : Around) (t : Tree) (locals : List Token) → length locals ≤ 16
      → IfOk (step_of around t locals) (Spelled around t locals)
  step_spelled around (atom token) locals few = tt
  step_spelled around (list place no_trees) locals few = tt
  step_spelled around (list place (tree first parts)) locals few =
      form_spelled around place first parts locals (head statement_head around.text first) few refl
      (record {
        body_is = body_spelled around parts locals few;
        if_is = if_spelled around place parts locals few;
        while_is = while_spelled around place parts locals few;
      })

  pub body_spelled : (around : Around) (parts : Trees) (locals : List Token) → length locals ≤ 16
      → IfOk (in_order (steps_of around parts) locals) (AllSpelled around parts locals)
  body_spelled around no_trees locals few = ((tt, refl), few)
  body_spelled around (tree t parts) locals few =
      let Q : Statements × List Token → Type 0 = AllSpelled around (tree t parts) locals in
      IfOk-bind (step_of around t locals) _ (Spelled around t locals) Q
      (step_spelled around t locals few) (λ x h.
      IfOk-bind (in_order (steps_of around parts) x.1) _ (AllSpelled around parts x.1) Q
      (body_spelled around parts x.1 h.1) (λ y k.
      ((x.1, h.0, k.0), k.1)))

  if_spelled : (around : Around) (place : ℕ) (parts : Trees) (locals : List Token)
      → length locals ≤ 16
      → (first : Tree) → Begins around first If
      → FormSpelled around place first parts locals (Some If)
  if_spelled around place no_trees locals few first is = tt
  if_spelled around place (tree a no_trees) locals few first is = tt
  if_spelled around place (tree a (tree b no_trees)) locals few first is = tt
  if_spelled around place (tree a (tree b (tree c no_trees))) locals few first is =
      let Q : Statement × List Token → Type 0 =
      Spelled around (list place (tree first (tree a (tree b (tree c no_trees))))) locals in
      IfOk-bind (expression around locals a) _ (λ e. Spells around locals e a) Q
      (expression_spelled around locals a) (λ e h.
      IfOk-bind (step_of around b locals) _ (Spelled around b locals) Q
      (step_spelled around b locals few) (λ x k.
      IfOk-bind (step_of around c x.1) _ (Spelled around c x.1) Q (step_spelled around c x.1 k.1)
      (λ y l.
      ((is, (x.1, h, k.0, l.0)), l.1))))
  if_spelled around place (tree a (tree b (tree c (tree d parts)))) locals few first is = tt

  while_spelled : (around : Around) (place : ℕ) (parts : Trees) (locals : List Token)
      → length locals ≤ 16
      → (first : Tree) → Begins around first While
      → FormSpelled around place first parts locals (Some While)
  while_spelled around place no_trees locals few first is = tt
  while_spelled around place (tree a parts) locals few first is =
      let Q : Statement × List Token → Type 0 =
      Spelled around (list place (tree first (tree a parts))) locals in
      IfOk-bind (expression around locals a) _ (λ e. Spells around locals e a) Q
      (expression_spelled around locals a) (λ e h.
      IfOk-bind (in_order (steps_of around parts) locals) _ (AllSpelled around parts locals) Q
      (body_spelled around parts locals few) (λ x k.
      ((is, (h, k.0)), k.1)))

-- ---- what is spelled is read

abbrev Reads : Around → Statement → Type 0
Reads around s = (t : Tree) (before after : List Token) → SpellsStatement around s t before after
    → step_of around t before ≡ Ok (s, after)

abbrev ReadsAll : Around → Statements → Type 0
ReadsAll around ss = (parts : Trees) (before after : List Token)
    → SpellsStatements around ss parts before after
    → in_order (steps_of around parts) before ≡ Ok (ss, after)

form_read : (around : Around) (what : StatementHead) (Hold : Trees → Type 0) (t : Tree)
    (before after : List Token) (s : Statement)
    → IsStatement around what Hold t
    → ((place : ℕ) (parts : Trees) → Hold parts
    → statement_form around place parts (steps_of around parts) before (Some what) ≡ Ok (s, after))
    → step_of around t before ≡ Ok (s, after)
form_read around what Hold (atom token) before after s h read = absurd h
form_read around what Hold (list place no_trees) before after s h read = absurd h
form_read around what Hold (list place (tree first parts)) before after s h read =
    ap (statement_form around place parts (steps_of around parts) before) h.0 ∙ read place parts h.1

abbrev given : Statement → List Token → Reading Statement
given s locals = Ok (s, locals)

-- the locals after it are those before it
same_locals : (s : Statement) (before after : List Token) → after ≡ before
    → given s before ≡ given s after
same_locals s before after same = ap (given s) (sym same)

value_read : (around : Around) (h : ValueHead) (e : Expression) (t : Tree)
    (before after : List Token)
    → IsStatement around (Value h) (OnePart (Spells around before e)) t → after ≡ before
    → step_of around t before ≡ Ok (value_statement h e, after)
value_read around h e t before after is same =
    form_read around (Value h) (OnePart (Spells around before e)) t before after
    (value_statement h e) is (λ place parts one_is.
    ap (λ r. r >>= λ e. Ok (value_statement h e, before))
    (one_read around before place parts e (expression_read around before e) one_is)
    ∙ same_locals (value_statement h e) before after same)

var_read : (around : Around) (index : ℕ) (e : Expression) (before after : List Token) (place : ℕ)
    (parts : Trees)
    → TwoParts (Declares around index e before after) parts
    → var_form around place parts before ≡ Ok (set index e, after)
var_read around index e before after place no_trees h = absurd h
var_read around index e before after place (tree t no_trees) h = absurd h
var_read around index e before after place (tree t (tree u no_trees)) h =
    let word = word_read around.text t (IsNewLocal around.text before after) h.0 in
    ok_bind (word_of around.text t) (λ name. new_local around.text before name >>= λ more.
    expression around more u >>= λ e. Ok (set (length before) e, more))
    word.0 (Ok (set index e, after)) word.1
    (ok_bind (new_local around.text before word.0)
    (λ more. expression around more u >>= λ e. Ok (set (length before) e, more))
    after (Ok (set index e, after)) (new_local-ok around.text before after word.0 word.2)
    (ok_bind (expression around after u) (λ e. Ok (set (length before) e, after)) e
    (Ok (set index e, after)) (expression_read around after e u h.2)
    (ap (λ i. Ok (set i e, after)) (sym h.1))))
var_read around index e before after place (tree t (tree u (tree v parts))) h = absurd h

set_read : (around : Around) (index : ℕ) (e : Expression) (before after : List Token) (place : ℕ)
    (parts : Trees)
    → TwoParts (Sets around index e before) parts → after ≡ before
    → set_form around place parts before ≡ Ok (set index e, after)
set_read around index e before after place no_trees h same = absurd h
set_read around index e before after place (tree t no_trees) h same = absurd h
set_read around index e before after place (tree t (tree u no_trees)) h same =
    let word = word_read around.text t (IsName around.text before index) h.0 in
    ok_bind (word_of around.text t) (λ name. or_fault name.place causes.NameUnknown
    (name_index around.text before name) >>= λ index. expression around before u >>= λ e.
    Ok (set index e, before))
    word.0 (Ok (set index e, after)) word.1
    (ok_bind (or_fault word.0.place causes.NameUnknown (name_index around.text before word.0))
    (λ index. expression around before u >>= λ e. Ok (set index e, before))
    index (Ok (set index e, after)) (ap (or_fault word.0.place causes.NameUnknown)
    (names_index around.text before word.0 index word.2))
    (ok_bind (expression around before u) (λ e. Ok (set index e, before)) e
    (Ok (set index e, after)) (expression_read around before e u h.1)
    (same_locals (set index e) before after same)))
set_read around index e before after place (tree t (tree u (tree v parts))) h same = absurd h

if_read : (around : Around) (e : Expression) (first second : Statement) (before after : List Token)
    (place : ℕ) (parts : Trees)
    → Reads around first → Reads around second
    → ThreeParts (λ a b c. (between : List Token) × Spells around before e a
    × SpellsStatement around first b before between × SpellsStatement around second c between after)
    parts
    → if_form place (expressions around before parts) (steps_of around parts) before ≡ Ok
    (choice e first second, after)
if_read around e first second before after place no_trees reads_first reads_second h = absurd h
if_read around e first second before after place (tree a no_trees) reads_first reads_second h =
    absurd h
if_read around e first second before after place
    (tree a (tree b no_trees)) reads_first reads_second h = absurd h
if_read around e first second before after place
    (tree a (tree b (tree c no_trees))) reads_first reads_second h =
    ok_bind (expression around before a) (λ e. step_of around b before >>= λ x.
    step_of around c x.1 >>= λ y. Ok (choice e x.0 y.0, y.1))
    e (Ok (choice e first second, after)) (expression_read around before e a h.1)
    (ok_bind (step_of around b before) (λ x. step_of around c x.1 >>= λ y.
    Ok (choice e x.0 y.0, y.1))
    (first, h.0) (Ok (choice e first second, after)) (reads_first b before h.0 h.2)
    (ap (λ r. r >>= λ y. Ok (choice e first y.0, y.1)) (reads_second c h.0 after h.3)))
if_read around e first second before after place
    (tree a (tree b (tree c (tree d parts)))) reads_first reads_second h = absurd h

while_read : (around : Around) (e : Expression) (body : Statements) (before after : List Token)
    (place : ℕ) (parts : Trees)
    → ReadsAll around body
    → FirstPart (λ a parts. Spells around before e a
    × SpellsStatements around body parts before after) parts
    → while_form place (expressions around before parts) (steps_of around parts) before ≡ Ok
    (while e body, after)
while_read around e body before after place no_trees reads h = absurd h
while_read around e body before after place (tree a parts) reads h =
    ok_bind (expression around before a) (λ e. in_order (steps_of around parts) before >>= λ x.
    Ok (while e x.0, x.1))
    e (Ok (while e body, after)) (expression_read around before e a h.0)
    (ap (λ r. r >>= λ x. Ok (while e x.0, x.1)) (reads parts before after h.1))

no_step : (around : Around) (parts : Trees) (before after : List Token) → NoPart parts
    → after ≡ before
    → in_order (steps_of around parts) before ≡ Ok (no_statements, after)
no_step around no_trees before after h same = ap (λ locals. Ok (no_statements, locals)) (sym same)
no_step around (tree t parts) before after h same = absurd h

first_step : (around : Around) (s : Statement) (ss : Statements) (parts : Trees)
    (before after : List Token)
    → Reads around s → ReadsAll around ss
    → FirstPart (λ t others. (between : List Token) × SpellsStatement around s t before between
    × SpellsStatements around ss others between after) parts
    → in_order (steps_of around parts) before ≡ Ok (statement s ss, after)
first_step around s ss no_trees before after reads reads_all h = absurd h
first_step around s ss (tree t parts) before after reads reads_all h =
    ok_bind (step_of around t before) (λ x. in_order (steps_of around parts) x.1 >>= λ y.
    Ok (statement x.0 y.0, y.1))
    (s, h.0) (Ok (statement s ss, after)) (reads t before h.0 h.1)
    (ap (λ r. r >>= λ y. Ok (statement s y.0, y.1)) (reads_all parts h.0 after h.2))

mutual
  pub statement_read : (around : Around) (s : Statement) (t : Tree) (before after : List Token)
      → SpellsStatement around s t before after → step_of around t before ≡ Ok (s, after)
  statement_read around (emit e) t before after h = value_read around Emit e t before after h.0 h.1
  statement_read around (set index e) t before after (inl h) =
      form_read around Var _ t before after (set index e) h
      (λ place parts are. var_read around index e before after place parts are)
  statement_read around (set index e) t before after (inr h) =
      form_read around Set _ t before after (set index e) h.0
      (λ place parts are. set_read around index e before after place parts are h.1)
  statement_read around (block body) t before after h =
      form_read around Do _ t before after (block body) h (λ place parts are.
      ap (λ r. r >>= λ x. Ok (block x.0, x.1)) (statements_read around body parts before after are))
  statement_read around (choice e first second) t before after h =
      form_read around If _ t before after (choice e first second) h (λ place parts are.
      if_read around e first second before after place parts (statement_read around first)
      (statement_read around second) are)
  statement_read around (while e body) t before after h =
      form_read around While _ t before after (while e body) h (λ place parts are.
      while_read around e body before after place parts (statements_read around body) are)
  statement_read around (store op address value) t before after h =
      form_read around (Store op) _ t before after (store op address value) h.0 (λ place parts are.
      ap (λ r. r >>= λ es. Ok (store op es.0 es.1, before))
      (two_read around before place parts address value (expression_read around before address)
      (expression_read around before value) are)
      ∙ same_locals (store op address value) before after h.1)
  statement_read around (return e) t before after h =
      value_read around Return e t before after h.0 h.1
  statement_read around (stop e) t before after h = value_read around Stop e t before after h.0 h.1
  statement_read around (run e) t before after h = value_read around Run e t before after h.0 h.1

  pub statements_read : (around : Around) (ss : Statements) (parts : Trees)
      (before after : List Token)
      → SpellsStatements around ss parts before after
      → in_order (steps_of around parts) before ≡ Ok (ss, after)
  statements_read around no_statements parts before after h =
      no_step around parts before after h.0 h.1
  statements_read around (statement first rest) parts before after h =
      first_step around first rest parts before after (statement_read around first)
      (statements_read around rest) h
