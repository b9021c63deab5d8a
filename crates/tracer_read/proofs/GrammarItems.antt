-- Lists of the top level are read as what they spell.
use Rattle.std.proofs.Common.{◌≡◌, ◌≢◌, ◌≤◌, ◌⊎◌, ℕ, ◌+◌, ◌==◌, false, List, [], ◌∷◌, ◌++◌, length, Option, Some, None, Result, Ok, IfOk, inl, inr, refl, sym, ap, subst, ◌∙◌, arith}
use Rattle.std.specs.Prelude.{is_some}
use Rattle.std.specs.Result.{result_ok}
use Rattle.std.proofs.lemmas.Bool.{eq-eqb, eqb-true, false≢true}
use Rattle.tracer_lang.specs.declared.tree.Point.{Point}
use Rattle.tracer_lang.specs.Tree.{Statements, FunctionTree, TracepointTree}
use Rattle.tracer_text.specs.declared.fault.ScriptCause.TheVariants as causes
use Rattle.tracer_text.specs.declared.fault.ScriptFault.{ScriptFault}
use Rattle.tracer_text.specs.declared.token.Token.{Token}
use Rattle.tracer_text.specs.Nodes.{Tree, atom, list, Trees, no_trees, tree}
use Rattle.tracer_read.specs.declared.heads.ItemHead.{ItemHead}
use Rattle.tracer_read.specs.declared.heads.ItemHead.TheVariants.{Budget, Def, At}
use Rattle.tracer_read.specs.Heads.{named, item_names}
use Rattle.tracer_read.specs.Parts.{◌>>=◌, unless, word_of, number_within, new_name, only_part, part_count}
use Rattle.tracer_read.specs.Expressions.{Callee, Around, head}
use Rattle.tracer_read.specs.Statements.{Reading, in_order, steps_of}
use Rattle.tracer_read.specs.Scripts.{is_def, callee_named, callee_from, callee_if, callee_at, Draft, budget_form, parameters_of, parameter_list, def_form, point_of, at_form, item_form, item}
use Rattle.tracer_read.specs.Grammar.{IsNumber, IsWord}
use Rattle.tracer_read.specs.GrammarStatements.{IsNew, SpellsStatements}
use Rattle.tracer_read.specs.GrammarScripts.{IsItem, SpellsPoint, SpellsTracepoint, AreNew, AreParameters, SpellsFunction, SpellsBudget}
use Rattle.tracer_read.proofs.Sound.{IfOk-bind, IfOk-then, IfOk-unless, IfOk-weaker}
use Rattle.tracer_read.proofs.GrammarNames.{ok_bind, not_broken, is_false, new_name-ok, new_name-is, word_spelled, word_read, number_within-is, number_within-ok}
use Rattle.tracer_read.proofs.GrammarExpressions.{one_part, only_read}
use Rattle.tracer_read.proofs.GrammarStatements.{AllSpelled, body_spelled, statements_read}
use Rattle.tracer_read.proofs.GrammarFunctions.{point_spelled, point_read, Behind, parameters_spelled, parameters_read, AddsBudget, AddsFunction, AddsTracepoint}

-- a list whose first node is a word for this item
abbrev Begins : Around → Tree → ItemHead → Type 0
Begins around first what = head (λ word. named word item_names) around.text first ≡ Some what

abbrev pub Adds : Around → Tree → Draft → Draft → Type 0
Adds around t d e = AddsBudget around t d e ⊎ (AddsFunction around t d e
    ⊎ AddsTracepoint around t d e)

-- ---- what is read is spelled

none_is : (o : Option ℕ) → is_some o ≡ false → o ≡ None
none_is None h = refl
none_is (Some n) h = absurd cc

callee_if-is : (around : Around) (place : ℕ) (first : Tree) (parts : Trees) (what : ItemHead)
    → Begins around first what
    → callee_at around.text (list place (tree first parts)) ≡ callee_if (is_def (Some what))
    (callee_from around.text parts)
callee_if-is around place first parts what is =
    ap (λ h. callee_if (is_def h) (callee_from around.text parts)) is

budget_adds : (around : Around) (place : ℕ) (first : Tree) (parts : Trees) (d : Draft)
    → Begins around first Budget
    → IfOk (budget_form around place parts d) (Adds around (list place (tree first parts)) d)
budget_adds around place first parts d is =
    let Q : Draft → Type 0 = Adds around (list place (tree first parts)) d in
    IfOk-then (only_part place parts) _ Q (λ t only.
    IfOk-unless (is_some d.budget) place causes.NameDoubled
    (number_within 1 1000000 around.text t >>= λ n. Ok (record d { budget = Some n })) Q (λ none.
    IfOk-bind (number_within 1 1000000 around.text t) _
    (λ n. IsNumber around.text n t × (1 ≤ n) × (n ≤ 1000000)) Q
    (number_within-is 1 1000000 around.text t) (λ n h.
    inl (record {
      n = n;
      spelled = (
        is,
        one_part place parts t (λ t. IsNumber around.text n t × (1 ≤ n)
            × (n ≤ 1000000)) only h,
      );
      first_one = none_is d.budget none;
      becomes = refl;
      no_callee = callee_if-is around place first parts Budget is;
    }))))

def_adds : (around : Around) (place : ℕ) (first : Tree) (parts : Trees) (d : Draft)
    → Begins around first Def
    → IfOk (def_form around place parts d) (Adds around (list place (tree first parts)) d)
def_adds around place first no_trees d is = tt
def_adds around place first (tree f no_trees) d is = tt
def_adds around place first (tree f (tree (atom token) body)) d is =
    let Q : Draft → Type 0 = Adds around (list place (tree first (tree f (tree (atom token) body))))
    d in
    IfOk-then (word_of around.text f) _ Q (λ name _.
    IfOk-then (new_name around.text d.names name) _ Q (λ names _. tt))
def_adds around place first (tree f (tree (list q ps) body)) d is =
    let parts = tree f (tree (list q ps) body) in
    let Q : Draft → Type 0 = Adds around (list place (tree first parts)) d in
    IfOk-then (word_of around.text f) _ Q (λ name name_is.
    IfOk-then (new_name around.text d.names name) _ Q (λ names new_is.
    IfOk-bind (parameters_of around.text [] ps) _ (Behind around.text [] ps) Q
    (parameters_spelled around.text [] ps (omega arith)) (λ locals b.
    IfOk-bind (in_order (steps_of around body) locals) _ (AllSpelled around body locals) Q
    (body_spelled around body locals b.few) (λ x h.
    let new = new_name-is around.text d.names name names new_is in
    let g : FunctionTree = record { parameters = length locals; locals = length x.1; body = x.0 } in
    let are : AreParameters around.text locals (list q ps) =
    subst (λ ns. AreParameters around.text ns (list q ps)) (sym b.all_are)
    (b.spelled, b.new, subst (λ (ns : List Token). length ns ≤ 16) b.all_are b.few) in
    inr (inl (record {
      function = g;
      name = name;
      count = part_count ps;
      spelled = (
        is,
        (
          locals,
          x.1,
          word_spelled around.text f name
              (λ word. Unit {0}) name_is tt,
          are,
          h.0,
          refl,
          refl,
        ),
      );
      new = new.0;
      becomes = ap (λ ns. record d { names = ns; functions = d.functions ++ g ∷ [] }) new.1;
      callee_is = callee_if-is around place first parts Def is
          ∙ ap (λ r. callee_named ps (result_ok r)) name_is;
    }))))))

at_adds : (around : Around) (place : ℕ) (first : Tree) (parts : Trees) (d : Draft)
    → Begins around first At
    → IfOk (at_form around place parts d) (Adds around (list place (tree first parts)) d)
at_adds around place first no_trees d is = tt
at_adds around place first (tree point body) d is =
    let Q : Draft → Type 0 = Adds around (list place (tree first (tree point body))) d in
    IfOk-unless (length d.tracepoints == 64) place causes.TooLarge _ Q (λ room.
    IfOk-bind (point_of around point) _ (λ p. SpellsPoint around p point) Q
    (point_spelled around point) (λ p at.
    IfOk-bind (in_order (steps_of around body) []) _ (AllSpelled around body []) Q
    (body_spelled around body [] (omega arith)) (λ x h.
    inr (inr (record {
      tracepoint = record { point = p; locals = length x.1; body = x.0 };
      spelled = (is, (x.1, at, h.0, refl));
      room = λ e. false≢true (sym room ∙ eq-eqb (length d.tracepoints) 64 e);
      becomes = refl;
      no_callee = callee_if-is around place first (tree point body) At is;
    })))))

form_adds : (around : Around) (place : ℕ) (first : Tree) (parts : Trees) (d : Draft)
    (h : Option ItemHead)
    → head (λ word. named word item_names) around.text first ≡ h
    → IfOk (item_form around place parts d h) (Adds around (list place (tree first parts)) d)
form_adds around place first parts d None is = tt
form_adds around place first parts d (Some Budget) is = budget_adds around place first parts d is
form_adds around place first parts d (Some Def) is = def_adds around place first parts d is
form_adds around place first parts d (Some At) is = at_adds around place first parts d is

pub item_adds : (around : Around) (t : Tree) (d : Draft) → IfOk (item around t d) (Adds around t d)
item_adds around (atom token) d = tt
item_adds around (list place no_trees) d = tt
item_adds around (list place (tree first parts)) d =
    form_adds around place first parts d (head (λ word. named word item_names) around.text first)
    refl

-- ---- what is spelled is read

item_form-read : (around : Around) (what : ItemHead) (place : ℕ) (first : Tree) (parts : Trees)
    (d e : Draft)
    → Begins around first what → item_form around place parts d (Some what) ≡ Ok e
    → item around (list place (tree first parts)) d ≡ Ok e
item_form-read around what place first parts d e is read = ap (item_form around place parts d) is
    ∙ read

-- what a node is, where this is all that it adds
pub record BudgetRead (around : Around) (n : ℕ) (t : Tree) : Type 0 where
  pub read : (d : Draft) → d.budget ≡ None → item around t d ≡ Ok (record d { budget = Some n })
  pub no_callee : callee_at around.text t ≡ None

pub record FunctionRead (around : Around) (function : FunctionTree) (t : Tree) : Type 0 where
  pub name : Token
  pub count : ℕ
  pub callee_is : callee_at around.text t ≡ Some (record { name = name; parameters = count })
  pub read : (d : Draft) → IsNew around.text d.names name
      → item around t d ≡ Ok
      (record d { names = d.names ++ name ∷ []; functions = d.functions ++ function ∷ [] })

pub record TracepointRead (around : Around) (tracepoint : TracepointTree) (t : Tree) : Type 0 where
  pub read : (d : Draft) → length d.tracepoints ≢ 64
      → item around t d ≡ Ok (record d { tracepoints = d.tracepoints ++ tracepoint ∷ [] })
  pub no_callee : callee_at around.text t ≡ None

pub budget_read : (around : Around) (n : ℕ) (t : Tree) → SpellsBudget around n t
    → BudgetRead around n t
budget_read around n (atom token) h = absurd h
budget_read around n (list place no_trees) h = absurd h
budget_read around n (list place (tree first parts)) h =
    let only = only_read place parts (λ t. IsNumber around.text n t × (1 ≤ n) × (n ≤ 1000000))
    h.1 in
    record {
      read = λ d none.
          let made : Draft = record d { budget = Some n } in
          let number = number_within-ok 1 1000000 around.text only.0 n only.2.0 only.2.1 only.2.2 in
          item_form-read around Budget place first parts d made h.0
          (ok_bind (only_part place parts) (λ t. unless (is_some d.budget) place causes.NameDoubled
          (number_within 1 1000000 around.text t >>= λ n. Ok (record d { budget = Some n })))
          only.0 (Ok made) only.1
          (not_broken (is_some d.budget) place causes.NameDoubled
          (number_within 1 1000000 around.text only.0 >>= λ n. Ok (record d { budget = Some n }))
          (ap is_some none)
          ∙ ap (λ r. r >>= λ n. Ok (record d { budget = Some n })) number));
      no_callee = callee_if-is around place first parts Budget h.0;
    }

-- a function of these parts
function_is : (f : FunctionTree) (n m : ℕ) → f.parameters ≡ n → f.locals ≡ m
    → record { parameters = n; locals = m; body = f.body } ≡ f
function_is f n m h k =
    ap (λ n. record { parameters = n; locals = m; body = f.body }) (sym h)
    ∙ ap (λ m. record { parameters = f.parameters; locals = m; body = f.body }) (sym k)

tracepoint_is : (t : TracepointTree) (n : ℕ) → t.locals ≡ n
    → record { point = t.point; locals = n; body = t.body } ≡ t
tracepoint_is t n h = ap (λ n. record { point = t.point; locals = n; body = t.body }) (sym h)

-- one function more, and what is made of a body that is read
abbrev with_function : Draft → List Token → FunctionTree → Draft
with_function d names f = record d { names = names; functions = d.functions ++ f ∷ [] }

abbrev defined : Draft → List Token → List Token → Statements × List Token → Draft
defined d names locals read =
    let f : FunctionTree =
    record { parameters = length locals; locals = length read.1; body = read.0 } in
    with_function d names f

-- one tracepoint more, and what is made of a body that is read
abbrev with_tracepoint : Draft → TracepointTree → Draft
with_tracepoint d t = record d { tracepoints = d.tracepoints ++ t ∷ [] }

abbrev placed : Draft → Point → Statements × List Token → Draft
placed d p read =
    let t : TracepointTree = record { point = p; locals = length read.1; body = read.0 } in
    with_tracepoint d t

pub function_read : (around : Around) (function : FunctionTree) (t : Tree)
    → SpellsFunction around function t → FunctionRead around function t
function_read around function (atom token) h = absurd h
function_read around function (list place no_trees) h = absurd h
function_read around function (list place (tree first no_trees)) h = absurd h.1
function_read around function (list place (tree first (tree f no_trees))) h = absurd h.1
function_read around function (list place (tree first (tree f (tree (atom token) body)))) h =
    absurd h.1.3
function_read around function (list place (tree first (tree f (tree (list q ps) body)))) h =
    let parts = tree f (tree (list q ps) body) in
    let parameters = h.1.0 in
    let locals = h.1.1 in
    let word = word_read around.text f (λ word. Unit {0}) h.1.2 in
    record {
      name = word.0;
      count = part_count ps;
      callee_is = callee_if-is around place first parts Def h.0
          ∙ ap (λ r. callee_named ps (result_ok r)) word.1;
      read = λ d new.
          let names = d.names ++ word.0 ∷ [] in
          let with_body : List Token → Result Draft ScriptFault = λ locals.
          in_order (steps_of around body) locals >>= λ read. Ok (defined d names locals read) in
          item_form-read around Def place first parts d (with_function d names function) h.0
          (ok_bind (word_of around.text f) (λ name.
          new_name around.text d.names name >>= λ names.
          parameters_of around.text [] ps >>= λ locals.
          in_order (steps_of around body) locals >>= λ read. Ok (defined d names locals read))
          word.0 (Ok (with_function d names function)) word.1
          (ok_bind (new_name around.text d.names word.0) (λ names.
          parameters_of around.text [] ps >>= λ locals.
          in_order (steps_of around body) locals >>= λ read. Ok (defined d names locals read))
          names (Ok (with_function d names function)) (new_name-ok around.text d.names word.0 new)
          (ok_bind (parameters_of around.text [] ps) with_body
          parameters (Ok (with_function d names function))
          (parameters_read around.text [] parameters ps h.1.3.0 h.1.3.1 (omega (arith, h.1.3.2)))
          (ap (λ r. r >>= λ read. Ok (defined d names parameters read))
          (statements_read around function.body body parameters locals h.1.4)
          ∙ ap (λ f. Ok (with_function d names f))
          (function_is function (length parameters) (length locals) h.1.5 h.1.6)))));
    }

pub tracepoint_read : (around : Around) (tracepoint : TracepointTree) (t : Tree)
    → SpellsTracepoint around tracepoint t → TracepointRead around tracepoint t
tracepoint_read around tracepoint (atom token) h = absurd h
tracepoint_read around tracepoint (list place no_trees) h = absurd h
tracepoint_read around tracepoint (list place (tree first no_trees)) h = absurd h.1
tracepoint_read around tracepoint (list place (tree first (tree point body))) h =
    let parts = tree point body in
    let locals = h.1.0 in
    record {
      read = λ d room.
          let with_point : Point → Result Draft ScriptFault = λ p.
          in_order (steps_of around body) [] >>= λ read. Ok (placed d p read) in
          let some_room : (length d.tracepoints == 64) ≡ false =
          is_false (length d.tracepoints == 64) (λ is. room (eqb-true (length d.tracepoints) 64 is))
          in
          item_form-read around At place first parts d (with_tracepoint d tracepoint) h.0
          (not_broken (length d.tracepoints == 64) place causes.TooLarge
          (point_of around point >>= with_point) some_room
          ∙ ok_bind (point_of around point) with_point
          tracepoint.point (Ok (with_tracepoint d tracepoint))
          (point_read around tracepoint.point point h.1.1)
          (ap (λ r. r >>= λ read. Ok (placed d tracepoint.point read))
          (statements_read around tracepoint.body body [] locals h.1.2)
          ∙ ap (λ t. Ok (with_tracepoint d t)) (tracepoint_is tracepoint (length locals) h.1.3)));
      no_callee = callee_if-is around place first parts At h.0;
    }
