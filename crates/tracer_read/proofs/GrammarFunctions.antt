-- Points, parameters, functions and tracepoints are read as what their nodes spell.
use Rattle.std.proofs.Common.{◌≡◌, ◌≢◌, ◌≤◌, ℕ, ◌+◌, ◌^◌, ◌==◌, ◌&&◌, true, false, not, cond, leb, List, [], ◌∷◌, ◌++◌, length, Option, Some, None, Result, Ok, Err, IfOk, inl, inr, refl, sym, ap, subst, ◌∙◌, arith, append_assoc}
use Rattle.std.specs.Prelude.{is_some}
use Rattle.std.specs.Result.{result_ok}
use Rattle.std.proofs.lemmas.Bool.{eq-eqb, eqb-true, false≢true, leb-true, le-leb}
use Rattle.std.proofs.lemmas.List.{length_push, append-nil}
use Rattle.tracer_lang.specs.declared.tree.Point.{Point}
use Rattle.tracer_lang.specs.declared.tree.Point.TheVariants as points
use Rattle.tracer_lang.specs.Tree.{Statements, FunctionTree, TracepointTree}
use Rattle.tracer_text.specs.declared.fault.ScriptCause.TheVariants as causes
use Rattle.tracer_text.specs.declared.fault.ScriptFault.{ScriptFault}
use Rattle.tracer_text.specs.declared.token.Token.{Token}
use Rattle.tracer_text.specs.FirstPass.{fault}
use Rattle.tracer_text.specs.Nodes.{Tree, atom, list, Trees, no_trees, tree}
use Rattle.tracer_read.specs.declared.heads.ItemHead.{ItemHead}
use Rattle.tracer_read.specs.declared.heads.ItemHead.TheVariants.{Budget, Def, At}
use Rattle.tracer_read.specs.declared.heads.PointHead.{PointHead}
use Rattle.tracer_read.specs.declared.heads.PointHead.TheVariants.{Addr, Enter, Store}
use Rattle.tracer_read.specs.Heads.{named, item_names, point_names}
use Rattle.tracer_read.specs.Parts.{◌>>=◌, unless, place_of, word_of, number_of, number_within, new_name, new_local, symbol_of, only_part, two_parts, part_count}
use Rattle.tracer_read.specs.Expressions.{Callee, Around, head}
use Rattle.tracer_read.specs.Statements.{in_order, steps_of}
use Rattle.tracer_read.specs.Scripts.{is_def, callee_named, callee_from, callee_if, callee_at, Draft, budget_form, parameters_of, parameter_list, def_form, store_point, point_form, point_of, at_form, item_form, item}
use Rattle.tracer_read.specs.Grammar.{IsNumber, IsWord, FirstPart, OnePart, TwoParts, NamesSymbol}
use Rattle.tracer_read.specs.GrammarStatements.{IsNew, IsNewLocal, SpellsStatements}
use Rattle.tracer_read.specs.GrammarScripts.{IsPoint, IsRange, SpellsPoint, IsItem, SpellsTracepoint, AreNew, SpellsWords, AreParameters, SpellsFunction, SpellsBudget}
use Rattle.tracer_read.proofs.Sound.{IfOk-bind, IfOk-then, IfOk-unless, IfOk-weaker, both_true, not_false}
use Rattle.tracer_read.proofs.GrammarNames.{ok_bind, not_broken, is_false, new_name-ok, new_name-is, new_local-is, new_local-ok, word_spelled, word_read, number_spelled, number_read, number_within-is, number_within-ok}
use Rattle.tracer_read.proofs.GrammarExpressions.{one_part, only_read, symbol_of-spelled, symbol_of-read}
use Rattle.tracer_read.proofs.GrammarStatements.{AllSpelled, two_nodes, body_spelled, statements_read}

-- ---- points

point_form-spelled : (around : Around) (place : ℕ) (first : Tree) (parts : Trees)
    (h : Option PointHead)
    → head (λ word. named word point_names) around.text first ≡ h
    → IfOk (point_form around place parts h) (λ p.
    SpellsPoint around p (list place (tree first parts)))
point_form-spelled around place first parts None is = tt
point_form-spelled around place first parts (Some Addr) is =
    let Q : Point → Type 0 = λ p. SpellsPoint around p (list place (tree first parts)) in
    IfOk-then (only_part place parts) _ Q (λ t only.
    IfOk-bind (number_of around.text t) _ (λ n. IsNumber around.text n t) Q
    (number_spelled around.text t) (λ n h.
    (is, one_part place parts t (IsNumber around.text n) only h)))
point_form-spelled around place first parts (Some Enter) is =
    let Q : Point → Type 0 = λ p. SpellsPoint around p (list place (tree first parts)) in
    IfOk-then (only_part place parts) _ Q (λ t only.
    IfOk-bind (symbol_of around.text around.symbols t) _ (λ n. NamesSymbol around n t) Q
    (symbol_of-spelled around t) (λ n h.
    (is, one_part place parts t (NamesSymbol around n) only h)))
point_form-spelled around place first parts (Some Store) is =
    let Q : Point → Type 0 = λ p. SpellsPoint around p (list place (tree first parts)) in
    IfOk-then (two_parts place parts) _ Q (λ pair two_is.
    IfOk-bind (number_of around.text pair.0) _ (λ n. IsNumber around.text n pair.0) Q
    (number_spelled around.text pair.0) (λ address a.
    IfOk-bind (number_of around.text pair.1) _ (λ n. IsNumber around.text n pair.1) Q
    (number_spelled around.text pair.1) (λ len b.
    IfOk-unless (not (leb 1 len && leb (address + len) (2 ^ 32))) (place_of pair.1) causes.Number
    (Ok (points.Store address len)) Q (λ within.
    let both = both_true (leb 1 len) (leb (address + len) (2 ^ 32))
    (not_false (leb 1 len && leb (address + len) (2 ^ 32)) within) in (
      is,
      two_nodes place parts pair (λ t u. IsNumber around.text address t
          × IsNumber around.text len u × IsRange address len) two_is
          (a, b, (leb-true 1 len both.0, leb-true (address + len) (2 ^ 32) both.1)),
    )))))

pub point_spelled : (around : Around) (t : Tree)
    → IfOk (point_of around t) (λ p. SpellsPoint around p t)
point_spelled around (atom token) = tt
point_spelled around (list place no_trees) = tt
point_spelled around (list place (tree first parts)) =
    point_form-spelled around place first parts
    (head (λ word. named word point_names) around.text first) refl

point_form-read : (around : Around) (what : PointHead) (Hold : Trees → Type 0) (t : Tree)
    (p : Point)
    → IsPoint around what Hold t
    → ((place : ℕ) (parts : Trees) → Hold parts → point_form around place parts (Some what) ≡ Ok p)
    → point_of around t ≡ Ok p
point_form-read around what Hold (atom token) p h read = absurd h
point_form-read around what Hold (list place no_trees) p h read = absurd h
point_form-read around what Hold (list place (tree first parts)) p h read =
    ap (point_form around place parts) h.0 ∙ read place parts h.1

store_read : (around : Around) (place address len : ℕ) (parts : Trees)
    → TwoParts (λ t u. IsNumber around.text address t × IsNumber around.text len u
    × IsRange address len) parts
    → point_form around place parts (Some Store) ≡ Ok (points.Store address len)
store_read around place address len no_trees h = absurd h
store_read around place address len (tree t no_trees) h = absurd h
store_read around place address len (tree t (tree u no_trees)) h =
    let place_u = place_of u in
    let within : not (leb 1 len && leb (address + len) (2 ^ 32)) ≡ false =
    ap (λ b. not (b && leb (address + len) (2 ^ 32))) (le-leb 1 len h.2.0)
    ∙ ap not (le-leb (address + len) (2 ^ 32) h.2.1) in
    ok_bind (number_of around.text t) (λ address. number_of around.text u >>= λ len.
    unless (not (leb 1 len && leb (address + len) (2 ^ 32))) place_u causes.Number
    (Ok (points.Store address len)))
    address (Ok (points.Store address len)) (number_read around.text t address h.0)
    (ok_bind (number_of around.text u) (λ len.
    unless (not (leb 1 len && leb (address + len) (2 ^ 32))) place_u causes.Number
    (Ok (points.Store address len)))
    len (Ok (points.Store address len)) (number_read around.text u len h.1)
    (not_broken (not (leb 1 len && leb (address + len) (2 ^ 32))) place_u causes.Number
    (Ok (points.Store address len)) within))
store_read around place address len (tree t (tree u (tree v parts))) h = absurd h

pub point_read : (around : Around) (p : Point) (t : Tree) → SpellsPoint around p t
    → point_of around t ≡ Ok p
point_read around (points.Addr address) t h =
    point_form-read around Addr (OnePart (IsNumber around.text address)) t (points.Addr address) h
    (λ place parts one_is.
    let only = only_read place parts (IsNumber around.text address) one_is in
    ok_bind (only_part place parts) (λ t. number_of around.text t >>= λ n. Ok (points.Addr n))
    only.0 (Ok (points.Addr address)) only.1
    (ap (λ r. r >>= λ n. Ok (points.Addr n)) (number_read around.text only.0 address only.2)))
point_read around (points.Enter address) t h =
    point_form-read around Enter (OnePart (NamesSymbol around address)) t (points.Enter address) h
    (λ place parts one_is.
    let only = only_read place parts (NamesSymbol around address) one_is in
    ok_bind (only_part place parts) (λ t. symbol_of around.text around.symbols t >>= λ n.
    Ok (points.Enter n)) only.0 (Ok (points.Enter address)) only.1
    (ap (λ r. r >>= λ n. Ok (points.Enter n)) (symbol_of-read around only.0 address only.2)))
point_read around (points.Store address len) t h =
    point_form-read around Store _ t (points.Store address len) h
    (λ place parts two_are. store_read around place address len parts two_are)

-- ---- parameters

-- words behind others, all of them new
pub record Behind (text : List ℕ) (before : List Token) (ps : Trees)
    (after : List Token) : Type 0 where
  pub words : List Token
  pub all_are : after ≡ before ++ words
  pub spelled : SpellsWords text words ps
  pub new : AreNew text before words
  pub few : length after ≤ 16

pub parameters_spelled : (text : List ℕ) (before : List Token) (ps : Trees) → length before ≤ 16
    → IfOk (parameters_of text before ps) (Behind text before ps)
parameters_spelled text before no_trees few =
    record { words = []; all_are = sym (append-nil before); spelled = tt; new = tt; few = few }
parameters_spelled text before (tree p ps) few =
    let Q : List Token → Type 0 = Behind text before (tree p ps) in
    IfOk-then (word_of text p) _ Q (λ name is.
    IfOk-bind (new_local text before name) _ (λ more. IsNewLocal text before more name) Q
    (new_local-is text before name few) (λ more new.
    IfOk-weaker (parameters_of text more ps) (Behind text more ps) Q
    (parameters_spelled text more ps new.2) (λ after b. record {
      words = name ∷ b.words;
      all_are = b.all_are ∙ ap (λ ns. ns ++ b.words) new.1
          ∙ append_assoc before (name ∷ []) b.words;
      spelled = (word_spelled text p name (λ token. token ≡ name) is refl, b.spelled);
      new = (new.0, subst (λ ns. AreNew text ns b.words) new.1 b.new);
      few = b.few;
    })))

pub parameters_read : (text : List ℕ) (before words : List Token) (ps : Trees)
    → SpellsWords text words ps → AreNew text before words → length before + length words ≤ 16
    → parameters_of text before ps ≡ Ok (before ++ words)
parameters_read text before [] no_trees spelled new few = ap Ok (sym (append-nil before))
parameters_read text before [] (tree p ps) spelled new few = absurd spelled
parameters_read text before (word ∷ words) no_trees spelled new few = absurd spelled
parameters_read text before (word ∷ words) (tree p ps) spelled new few =
    let token = word_read text p (λ token. token ≡ word) spelled.0 in
    let is : word_of text p ≡ Ok word = token.1 ∙ ap Ok token.2 in
    let more = before ++ word ∷ [] in
    let grown : length more ≡ length before + 1 = length_push before word in
    ok_bind (word_of text p) (λ name. new_local text before name >>= λ more.
    parameters_of text more ps) word (Ok (before ++ (word ∷ words))) is
    (ok_bind (new_local text before word) (λ more. parameters_of text more ps) more
    (Ok (before ++ (word ∷ words)))
    (new_local-ok text before more word (new.0, refl, omega (arith, few, grown)))
    (parameters_read text more words ps spelled.1 new.1 (omega (arith, few, grown))
    ∙ ap Ok (append_assoc before (word ∷ []) words)))

-- ---- what a list of the top level adds to what is read so far

pub record AddsBudget (around : Around) (t : Tree) (d e : Draft) : Type 0 where
  pub n : ℕ
  pub spelled : SpellsBudget around n t
  pub first_one : d.budget ≡ None
  pub becomes : e ≡ record d { budget = Some n }
  pub no_callee : callee_at around.text t ≡ None

pub record AddsFunction (around : Around) (t : Tree) (d e : Draft) : Type 0 where
  pub function : FunctionTree
  pub name : Token
  pub count : ℕ
  pub spelled : SpellsFunction around function t
  pub new : IsNew around.text d.names name
  pub becomes : e ≡ record d {
    names = d.names ++ name ∷ [];
    functions = d.functions ++ function ∷ [];
  }
  pub callee_is : callee_at around.text t ≡ Some (record { name = name; parameters = count })

pub record AddsTracepoint (around : Around) (t : Tree) (d e : Draft) : Type 0 where
  pub tracepoint : TracepointTree
  pub spelled : SpellsTracepoint around tracepoint t
  pub room : length d.tracepoints ≢ 64
  pub becomes : e ≡ record d { tracepoints = d.tracepoints ++ tracepoint ∷ [] }
  pub no_callee : callee_at around.text t ≡ None
