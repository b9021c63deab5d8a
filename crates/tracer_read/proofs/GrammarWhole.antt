-- A text is read as a script exactly where it spells it.
use Rattle.std.proofs.Common.{◌≡◌, ◌≢◌, ◌<◌, ◌≤◌, ◌⊎◌, ℕ, ◌+◌, cond, List, [], ◌∷◌, ◌++◌, length, map, Option, Some, None, Result, Ok, IfOk, inl, inr, refl, sym, ap, subst, ◌∙◌, arith, append_assoc}
use Rattle.std.specs.Prelude.{unwrap_or, option_to_list}
use Rattle.std.specs.Option.{option_or}
use Rattle.std.proofs.lemmas.List.{length_push, append-nil, take_all, length-take}
use Rattle.sl_base.specs.declared.symbol.Symbol.{Symbol}
use Rattle.tracer_lang.specs.Tree.{FunctionTree, TracepointTree, ScriptTree}
use Rattle.tracer_text.specs.declared.fault.ScriptFault.{ScriptFault}
use Rattle.tracer_text.specs.declared.token.Token.{Token}
use Rattle.tracer_text.specs.FirstPass.{read_part, fault_of, unless, first_pass}
use Rattle.tracer_text.specs.Tokens.{tokens_of}
use Rattle.tracer_text.specs.Nodes.{Tree, Trees, no_trees, tree, nodes_from}
use Rattle.tracer_read.specs.Parts.{◌>>=◌}
use Rattle.tracer_read.specs.Expressions.{Callee, Around, callee_names}
use Rattle.tracer_read.specs.Scripts.{callee_at, callees, Draft, item, items, nothing, surroundings, script_from, second_pass, script_of_text}
use Rattle.tracer_read.specs.GrammarStatements.{IsNew}
use Rattle.tracer_read.specs.GrammarScripts.{AreNew, SpellsItems, SpellsBudget, SpellsFunction, SpellsTracepoint, SpellsScript, IsSpelling}
use Rattle.tracer_read.specs.Laws.{SpellsWhatIsRead, ReadsWhatIsSpelled, OneReading}
use Rattle.tracer_read.proofs.Sound.{IfOk-bind, IfOk-then, IfOk-weaker}
use Rattle.tracer_read.proofs.Accepted.{no_fault, not_long, first_pass-small}
use Rattle.tracer_read.proofs.GrammarNames.{ok_bind, of_value}
use Rattle.tracer_read.proofs.GrammarFunctions.{AddsBudget, AddsFunction, AddsTracepoint}
use Rattle.tracer_read.specs.Written.{trees_nodes, trees_depth}
use Rattle.tracer_read.proofs.WrittenPasses.{written_passes}
use Rattle.tracer_read.proofs.WrittenNodes.{nodes_written, written_nodes}
use Rattle.tracer_read.proofs.GrammarItems.{Adds, item_adds, BudgetRead, FunctionRead, TracepointRead, budget_read, function_read, tracepoint_read}

-- ---- the names of functions

-- the names in some nodes
abbrev names_in : Around → Trees → List Token
names_in around trees = callee_names (callees around.text trees)

names_without : (around : Around) (t : Tree) (rest : Trees) → callee_at around.text t ≡ None
    → names_in around (tree t rest) ≡ names_in around rest
names_without around t rest is = ap (λ o. callee_names
    (option_to_list o ++ callees around.text rest)) is

names_with : (around : Around) (t : Tree) (rest : Trees) (callee : Callee)
    → callee_at around.text t ≡ Some callee
    → names_in around (tree t rest) ≡ callee.name ∷ names_in around rest
names_with around t rest callee is = ap (λ o.
    callee_names (option_to_list o ++ callees around.text rest)) is

-- ---- what is read is spelled

-- a budget that is named among some lists joins one that was named before them, if there is one
abbrev Joins : Option ℕ → Option ℕ → Option ℕ → Type 0
Joins before named after = ((named ≡ None) × (after ≡ before)) ⊎ ((before ≡ None) × (after ≡ named))

-- what some lists of the top level add
record Follows (around : Around) (trees : Trees) (d e : Draft) : Type 0 where
  named_budget : Option ℕ
  more_functions : List FunctionTree
  more_tracepoints : List TracepointTree
  spelled : SpellsItems around trees named_budget more_functions more_tracepoints
  budget : Joins d.budget named_budget e.budget
  functions : e.functions ≡ d.functions ++ more_functions
  tracepoints : e.tracepoints ≡ d.tracepoints ++ more_tracepoints
  names : AreNew around.text d.names (names_in around trees)
  few : length e.tracepoints ≤ 64

-- no second budget behind one
joins_none : (n : ℕ) (named after : Option ℕ) → Joins (Some n) named after → (named ≡ None)
    × (after ≡ Some n)
joins_none n named after (inl h) = h
joins_none n named after (inr h) = absurd cc

after_budget : (around : Around) (t : Tree) (rest : Trees) (d e g : Draft) → AddsBudget around t d e
    → Follows around rest e g → Follows around (tree t rest) d g
after_budget around t rest d e g a s =
    let made : Draft = record d { budget = Some a.n } in
    let joined : Joins (Some a.n) s.named_budget g.budget =
    subst (λ (e : Draft). Joins e.budget s.named_budget g.budget) a.becomes s.budget in
    let none = joins_none a.n s.named_budget g.budget joined in
    record {
      named_budget = Some a.n;
      more_functions = s.more_functions;
      more_tracepoints = s.more_tracepoints;
      spelled = inl (
        a.n,
        refl,
        a.spelled,
        subst
            (λ b. SpellsItems around rest b s.more_functions s.more_tracepoints) none.0 s.spelled,
      );
      budget = inr (a.first_one, none.1);
      functions = s.functions ∙ ap (λ (e : Draft). e.functions ++ s.more_functions) a.becomes;
      tracepoints = s.tracepoints ∙ ap (λ (e : Draft). e.tracepoints ++ s.more_tracepoints)
          a.becomes;
      names = subst (λ ns. AreNew around.text d.names ns)
          (sym (names_without around t rest a.no_callee))
          (subst (λ (e : Draft). AreNew around.text e.names (names_in around rest)) a.becomes
          s.names);
      few = s.few;
    }

after_function : (around : Around) (t : Tree) (rest : Trees) (d e g : Draft)
    → AddsFunction around t d e → Follows around rest e g → Follows around (tree t rest) d g
after_function around t rest d e g a s =
    let behind : AreNew around.text (d.names ++ a.name ∷ []) (names_in around rest) =
    subst (λ (e : Draft). AreNew around.text e.names (names_in around rest)) a.becomes s.names in
    record {
      named_budget = s.named_budget;
      more_functions = a.function ∷ s.more_functions;
      more_tracepoints = s.more_tracepoints;
      spelled = inr (inl (a.function, s.more_functions, refl, a.spelled, s.spelled));
      budget = subst (λ (e : Draft). Joins e.budget s.named_budget g.budget) a.becomes s.budget;
      functions = s.functions ∙ ap (λ (e : Draft). e.functions ++ s.more_functions) a.becomes
          ∙ append_assoc d.functions (a.function ∷ []) s.more_functions;
      tracepoints = s.tracepoints ∙ ap (λ (e : Draft). e.tracepoints ++ s.more_tracepoints)
          a.becomes;
      names = subst (λ ns. AreNew around.text d.names ns)
          (sym (names_with around t rest (record { name = a.name; parameters = a.count })
          a.callee_is)) (a.new, behind);
      few = s.few;
    }

after_tracepoint : (around : Around) (t : Tree) (rest : Trees) (d e g : Draft)
    → AddsTracepoint around t d e → Follows around rest e g → Follows around (tree t rest) d g
after_tracepoint around t rest d e g a s = record {
  named_budget = s.named_budget;
  more_functions = s.more_functions;
  more_tracepoints = a.tracepoint ∷ s.more_tracepoints;
  spelled = inr (inr (a.tracepoint, s.more_tracepoints, refl, a.spelled, s.spelled));
  budget = subst (λ (e : Draft). Joins e.budget s.named_budget g.budget) a.becomes s.budget;
  functions = s.functions ∙ ap (λ (e : Draft). e.functions ++ s.more_functions) a.becomes;
  tracepoints = s.tracepoints ∙ ap (λ (e : Draft). e.tracepoints ++ s.more_tracepoints) a.becomes
      ∙ append_assoc d.tracepoints (a.tracepoint ∷ []) s.more_tracepoints;
  names = subst (λ ns. AreNew around.text d.names ns)
      (sym (names_without around t rest a.no_callee))
      (subst (λ (e : Draft). AreNew around.text e.names (names_in around rest)) a.becomes s.names);
  few = s.few;
}

after_item : (around : Around) (t : Tree) (rest : Trees) (d e g : Draft) → Adds around t d e
    → Follows around rest e g → Follows around (tree t rest) d g
after_item around t rest d e g (inl a) s = after_budget around t rest d e g a s
after_item around t rest d e g (inr (inl a)) s = after_function around t rest d e g a s
after_item around t rest d e g (inr (inr a)) s = after_tracepoint around t rest d e g a s

few_after : (around : Around) (t : Tree) (d e : Draft) → length d.tracepoints ≤ 64
    → Adds around t d e → length e.tracepoints ≤ 64
few_after around t d e few (inl a) = subst (λ (e : Draft). length e.tracepoints ≤ 64)
    (sym a.becomes) few
few_after around t d e few (inr (inl a)) = subst (λ (e : Draft). length e.tracepoints ≤ 64)
    (sym a.becomes) few
few_after around t d e few (inr (inr a)) =
    let grown : length e.tracepoints ≡ length d.tracepoints + 1 =
    ap (λ (e : Draft). length e.tracepoints) a.becomes ∙ length_push d.tracepoints a.tracepoint in
    let room : length d.tracepoints ≢ 64 = a.room in
    omega (arith, grown, few, room)

items_follow : (around : Around) (trees : Trees) (d : Draft) → length d.tracepoints ≤ 64
    → IfOk (items around trees d) (Follows around trees d)
items_follow around no_trees d few = record {
  named_budget = None;
  more_functions = [];
  more_tracepoints = [];
  spelled = (refl, refl, refl);
  budget = inl (refl, refl);
  functions = sym (append-nil d.functions);
  tracepoints = sym (append-nil d.tracepoints);
  names = tt;
  few = few;
}
items_follow around (tree t rest) d few =
    IfOk-bind (item around t d) (items around rest) (Adds around t d)
    (Follows around (tree t rest) d) (item_adds around t d) (λ e a.
    IfOk-weaker (items around rest e) (Follows around rest e) (Follows around (tree t rest) d)
    (items_follow around rest e (few_after around t d e few a))
    (λ g s. after_item around t rest d e g a s))

-- ---- what is spelled is read

-- what is read of some lists
record Read (around : Around) (trees : Trees) (d : Draft) (named : Option ℕ)
    (functions : List FunctionTree) (tracepoints : List TracepointTree) : Type 0 where
  end : Draft
  is : items around trees d ≡ Ok end
  budget_is : end.budget ≡ option_or named d.budget
  functions_are : end.functions ≡ d.functions ++ functions
  tracepoints_are : end.tracepoints ≡ d.tracepoints ++ tracepoints

-- a budget is named among some lists or before them
abbrev AtMostOne : Option ℕ → Option ℕ → Type 0
AtMostOne named before = (named ≡ None) ⊎ (before ≡ None)

one_budget : (n : ℕ) (before : Option ℕ) → AtMostOne (Some n) before → before ≡ None
one_budget n before (inl h) = absurd cc
one_budget n before (inr h) = h

abbrev ReadsItems : Around → Trees → Type 0
ReadsItems around trees =
    (d : Draft) (named : Option ℕ) (functions : List FunctionTree)
    (tracepoints : List TracepointTree)
    → SpellsItems around trees named functions tracepoints → AtMostOne named d.budget
    → AreNew around.text d.names (names_in around trees)
    → length d.tracepoints + length tracepoints ≤ 64
    → Read around trees d named functions tracepoints

no_more : (around : Around) (d : Draft) (named : Option ℕ) (functions : List FunctionTree)
    (tracepoints : List TracepointTree)
    → SpellsItems around no_trees named functions tracepoints
    → Read around no_trees d named functions tracepoints
no_more around d named functions tracepoints h = record {
  end = d;
  is = refl;
  budget_is = ap (λ b. option_or b d.budget) (sym h.0);
  functions_are = sym (append-nil d.functions) ∙ ap (λ fs. d.functions ++ fs) (sym h.1);
  tracepoints_are = sym (append-nil d.tracepoints) ∙ ap (λ ts. d.tracepoints ++ ts) (sym h.2);
}

budget_more : (around : Around) (t : Tree) (rest : Trees) → ReadsItems around rest
    → (d : Draft) (named : Option ℕ) (functions : List FunctionTree)
    (tracepoints : List TracepointTree)
    → (h : (n : ℕ) × (named ≡ Some n) × SpellsBudget around n t
    × SpellsItems around rest None functions tracepoints)
    → AtMostOne named d.budget → AreNew around.text d.names (names_in around (tree t rest))
    → length d.tracepoints + length tracepoints ≤ 64
    → Read around (tree t rest) d named functions tracepoints
budget_more around t rest reads d named functions tracepoints h at_most new few =
    let n = h.0 in
    let b = budget_read around n t h.2 in
    let none : d.budget ≡ None = one_budget n d.budget
    (subst (λ o. AtMostOne o d.budget) h.1 at_most) in
    let e : Draft = record d { budget = Some n } in
    let r = reads e None functions tracepoints h.3 (inl refl)
    (subst (λ ns. AreNew around.text d.names ns) (names_without around t rest b.no_callee) new)
    few in
    record {
      end = r.end;
      is = ok_bind (item around t d) (items around rest) e (Ok r.end) (b.read d none) r.is;
      budget_is = r.budget_is ∙ ap (λ o. option_or o d.budget) (sym h.1);
      functions_are = r.functions_are;
      tracepoints_are = r.tracepoints_are;
    }

function_more : (around : Around) (t : Tree) (rest : Trees) → ReadsItems around rest
    → (d : Draft) (named : Option ℕ) (functions : List FunctionTree)
    (tracepoints : List TracepointTree)
    → (h : (function : FunctionTree) × (more : List FunctionTree) × (functions ≡ function ∷ more)
    × SpellsFunction around function t × SpellsItems around rest named more tracepoints)
    → AtMostOne named d.budget → AreNew around.text d.names (names_in around (tree t rest))
    → length d.tracepoints + length tracepoints ≤ 64
    → Read around (tree t rest) d named functions tracepoints
function_more around t rest reads d named functions tracepoints h at_most new few =
    let f = function_read around h.0 t h.3 in
    let split : AreNew around.text d.names (f.name ∷ names_in around rest) =
    subst (λ ns. AreNew around.text d.names ns)
    (names_with around t rest (record { name = f.name; parameters = f.count }) f.callee_is) new in
    let e : Draft = record d {
      names = d.names ++ f.name ∷ [];
      functions = d.functions ++ h.0 ∷ [];
    } in
    let r = reads e named h.1 tracepoints h.4 at_most split.1 few in
    record {
      end = r.end;
      is = ok_bind (item around t d) (items around rest) e (Ok r.end) (f.read d split.0) r.is;
      budget_is = r.budget_is;
      functions_are = r.functions_are ∙ append_assoc d.functions (h.0 ∷ []) h.1
          ∙ ap (λ fs. d.functions ++ fs) (sym h.2);
      tracepoints_are = r.tracepoints_are;
    }

tracepoint_more : (around : Around) (t : Tree) (rest : Trees) → ReadsItems around rest
    → (d : Draft) (named : Option ℕ) (functions : List FunctionTree)
    (tracepoints : List TracepointTree)
    → (h : (tracepoint : TracepointTree) × (more : List TracepointTree)
    × (tracepoints ≡ tracepoint ∷ more) × SpellsTracepoint around tracepoint t
    × SpellsItems around rest named functions more)
    → AtMostOne named d.budget → AreNew around.text d.names (names_in around (tree t rest))
    → length d.tracepoints + length tracepoints ≤ 64
    → Read around (tree t rest) d named functions tracepoints
tracepoint_more around t rest reads d named functions tracepoints h at_most new few =
    let p = tracepoint_read around h.0 t h.3 in
    let count : length tracepoints ≡ length (h.0 ∷ h.1) = ap length h.2 in
    let room : length d.tracepoints ≢ 64 = λ full. omega (arith, full, few, count) in
    let e : Draft = record d { tracepoints = d.tracepoints ++ h.0 ∷ [] } in
    let grown : length e.tracepoints ≡ length d.tracepoints + 1 = length_push d.tracepoints h.0 in
    let r = reads e named functions h.1 h.4 at_most
    (subst (λ ns. AreNew around.text d.names ns) (names_without around t rest p.no_callee) new)
    (omega (arith, grown, few, count)) in
    record {
      end = r.end;
      is = ok_bind (item around t d) (items around rest) e (Ok r.end) (p.read d room) r.is;
      budget_is = r.budget_is;
      functions_are = r.functions_are;
      tracepoints_are = r.tracepoints_are ∙ append_assoc d.tracepoints (h.0 ∷ []) h.1
          ∙ ap (λ ts. d.tracepoints ++ ts) (sym h.2);
    }

items_read : (around : Around) (trees : Trees) → ReadsItems around trees
items_read around no_trees d named functions tracepoints h at_most new few =
    no_more around d named functions tracepoints h
items_read around (tree t rest) d named functions tracepoints (inl h) at_most new few =
    budget_more around t rest (items_read around rest) d named functions tracepoints h at_most new
    few
items_read around (tree t rest) d named functions tracepoints (inr (inl h)) at_most new few =
    function_more around t rest (items_read around rest) d named functions tracepoints h at_most new
    few
items_read around (tree t rest) d named functions tracepoints (inr (inr h)) at_most new few =
    tracepoint_more around t rest (items_read around rest) d named functions tracepoints h at_most
    new few

-- ---- the first pass

-- a text of the right size is read whole
first_pass-is : (text : List ℕ) (tokens : List Token) → first_pass text ≡ Ok tokens
    → (fault_of text ≡ None) × (tokens_of text ≡ tokens)
first_pass-is text tokens is =
    let part = read_part text in
    let passed = no_fault (fault_of part) (tokens_of part) tokens is in
    let short : length part ≤ 65536 = not_long part 0 0 (tokens_of part) passed.0 in
    let whole : part ≡ text = take_all 65537 text (omega (arith, short, length-take 65537 text)) in
    (subst (λ t. fault_of t ≡ None) whole passed.0, ap tokens_of (sym whole) ∙ passed.1)

passes : (text : List ℕ) → fault_of text ≡ None → first_pass text ≡ Ok (tokens_of text)
passes text none =
    let short : length text ≤ 65536 = not_long text 0 0 (tokens_of text) none in
    let whole : read_part text ≡ text = take_all 65537 text (omega (arith, short)) in
    ap (λ t. unless (fault_of t) (tokens_of t)) whole ∙ ap (λ o. unless o (tokens_of text)) none

-- ---- both passes

budget_named : (named after : Option ℕ) → Joins None named after → after ≡ named
budget_named named after (inl h) = h.1 ∙ sym h.0
budget_named named after (inr h) = h.1

spelled_nodes : (text : List ℕ) (symbols : List Symbol) (trees : Trees)
    → IfOk (second_pass text symbols trees) (λ script. SpellsScript text symbols script trees)
spelled_nodes text symbols trees =
    let around = surroundings text symbols trees in
    IfOk-bind (items around trees nothing) _ (Follows around trees nothing)
    (λ script. SpellsScript text symbols script trees)
    (items_follow around trees nothing (omega arith)) (λ d s.
    let Spelled : List FunctionTree → List TracepointTree → Type 0 = λ fs ts.
    SpellsItems around trees s.named_budget fs ts in
    record {
      named_budget = s.named_budget;
      items = subst (λ ts. Spelled d.functions ts) (sym s.tracepoints)
          (subst (λ fs. Spelled fs s.more_tracepoints) (sym s.functions) s.spelled);
      budget = ap (λ b. unwrap_or b 1000000) (budget_named s.named_budget d.budget s.budget);
      names = s.names;
      few = s.few;
    })

spelled_text : (text : List ℕ) (symbols : List Symbol)
    → IfOk (script_of_text text symbols) (IsSpelling text symbols)
unfolding script_of_text
spelled_text text symbols =
    IfOk-then (first_pass text) (λ tokens. second_pass text symbols (nodes_from text tokens).inside)
    (IsSpelling text symbols) (λ tokens passed.
    let form = first_pass-is text tokens passed in
    let nodes = λ (tokens : List Token). (nodes_from text tokens).inside in
    IfOk-weaker (second_pass text symbols (nodes tokens))
    (λ script. SpellsScript text symbols script (nodes tokens)) (IsSpelling text symbols)
    (spelled_nodes text symbols (nodes tokens)) (λ script s.
    let same = λ (P : Trees → Type 0). subst (λ tokens. P (nodes tokens)) (sym form.1) in
    let small = first_pass-small text tokens passed in
    record {
      short = not_long text 0 0 (tokens_of text) form.0;
      nodes = nodes (tokens_of text);
      written = nodes_written text form.0;
      few_nodes = same (λ nodes. trees_nodes nodes ≤ 4096) small.few;
      shallow = same (λ nodes. trees_depth nodes ≤ 64) small.shallow;
      spelled = same (SpellsScript text symbols script) s;
    }))

pub spells_what_is_read : SpellsWhatIsRead
spells_what_is_read text symbols script is = of_value (script_of_text text symbols) script
    (IsSpelling text symbols) (spelled_text text symbols) is

or_none : (o : Option ℕ) → option_or o None ≡ o
or_none None = refl
or_none (Some n) = refl

same_script : (s : ScriptTree) (n : ℕ) (fs : List FunctionTree) (ts : List TracepointTree)
    → n ≡ s.budget → fs ≡ s.functions → ts ≡ s.tracepoints
    → record { budget = n; functions = fs; tracepoints = ts } ≡ s
same_script s n fs ts h k l =
    ap (λ n. record { budget = n; functions = fs; tracepoints = ts }) h
    ∙ ap (λ fs. record { budget = s.budget; functions = fs; tracepoints = ts }) k
    ∙ ap (λ ts. record { budget = s.budget; functions = s.functions; tracepoints = ts }) l

read_nodes : (text : List ℕ) (symbols : List Symbol) (script : ScriptTree) (trees : Trees)
    → SpellsScript text symbols script trees → second_pass text symbols trees ≡ Ok script
read_nodes text symbols script trees s =
    let around = surroundings text symbols trees in
    let r = items_read around trees nothing s.named_budget script.functions script.tracepoints
    s.items (inr refl) s.names (omega (arith, s.few)) in
    let budget_is : unwrap_or r.end.budget 1000000 ≡ script.budget =
    ap (λ b. unwrap_or b 1000000) (r.budget_is ∙ or_none s.named_budget) ∙ sym s.budget in
    ok_bind (items around trees nothing) (λ d. Ok (script_from d)) r.end (Ok script) r.is
    (ap Ok (same_script script (unwrap_or r.end.budget 1000000) r.end.functions r.end.tracepoints
    budget_is r.functions_are r.tracepoints_are))

pub reads_what_is_spelled : ReadsWhatIsSpelled
unfolding script_of_text
reads_what_is_spelled text symbols script s =
    let same : (nodes_from text (tokens_of text)).inside ≡ s.nodes =
    written_nodes text s.nodes (tokens_of text) s.written in
    ok_bind (first_pass text) (λ tokens. second_pass text symbols (nodes_from text tokens).inside)
    (tokens_of text) (Ok script)
    (passes text (written_passes text s.nodes s.short s.written s.few_nodes s.shallow))
    (ap (second_pass text symbols) same
    ∙ read_nodes text symbols script s.nodes s.spelled)

pub one_reading : OneReading
one_reading text symbols script other s t =
    let both : Ok script ≡ Ok other = sym (reads_what_is_spelled text symbols script s)
    ∙ reads_what_is_spelled text symbols other t in
    cc (both)
