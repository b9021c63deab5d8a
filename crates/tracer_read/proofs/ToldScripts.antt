-- The first fault of a script.
use Rattle.std.proofs.Common.{◌≡◌, ℕ, ◌+◌, ◌^◌, Bool, true, false, cond, List, [], ◌∷◌, ◌++◌, length, Option, Some, None, Result, Ok, Err, refl, sym, ap, subst, ◌∙◌, append_assoc, length-append}
use Rattle.std.specs.Prelude.{◌==◌, ◌&&◌, not, nat_le, is_some, All, MatchResult}
use Rattle.std.proofs.lemmas.List.{append-nil}
use Rattle.sl_base.specs.declared.symbol.Symbol.{Symbol}
use Rattle.tracer_lang.specs.declared.tree.Point.{Point}
use Rattle.tracer_lang.specs.declared.tree.Point.TheVariants as point
use Rattle.tracer_lang.specs.Tree.{Statements, FunctionTree, TracepointTree, ScriptTree}
use Rattle.tracer_text.specs.declared.fault.ScriptCause.{ScriptCause}
use Rattle.tracer_text.specs.declared.fault.ScriptCause.TheVariants as causes
use Rattle.tracer_text.specs.declared.fault.ScriptFault.{ScriptFault}
use Rattle.tracer_text.specs.declared.token.Token.{Token}
use Rattle.tracer_text.specs.FirstPass.{fault, first_of, first_pass}
use Rattle.tracer_text.specs.Nodes.{Tree, atom, list, Trees, no_trees, tree, nodes_from}
use Rattle.tracer_read.specs.declared.heads.ItemHead.{ItemHead}
use Rattle.tracer_read.specs.declared.heads.ItemHead.TheVariants.{Budget, Def, At}
use Rattle.tracer_read.specs.declared.heads.PointHead.{PointHead}
use Rattle.tracer_read.specs.declared.heads.PointHead.TheVariants.{Addr, Enter, Store}
use Rattle.tracer_read.specs.Heads.{named, item_names, point_names}
use Rattle.tracer_read.specs.Parts.{◌>>=◌, unless, place_of, word_of, number_of, number_within, new_name, new_local, symbol_of}
use Rattle.tracer_read.specs.Expressions.{Around, head}
use Rattle.tracer_read.specs.Statements.{Reading, in_order, steps_of}
use Rattle.tracer_read.specs.Scripts.{Draft, budget_form, parameters_of, parameter_list, def_form, store_point, point_form, point_of, at_form, item_form, item, items, nothing, script_from, surroundings, second_pass, script_of_text}
use Rattle.tracer_read.specs.Findings.{Finding, finding, when, IsClean, IsFirstFault, has_parts, of_first, is_right, number_node, function_name, local_name, symbol_name}
use Rattle.tracer_read.specs.FindingsScripts.{name_in, all_names, joined, each_declared, body_nodes, Seen, parameters, parameter_nodes, parameter_names, value_at, range_parts, point_causes, point_parts, point_nodes, item_causes, item_parts, item_nodes, seen_by, seen_after, items_nodes, nothing_seen, script_nodes}
use Rattle.tracer_read.specs.Numbers.{is_number, number_value}
use Rattle.tracer_read.specs.Parts.{or_fault, spelling}
use Rattle.tracer_read.proofs.FirstFault.{lower, least, first, first_is, none_is_clean, Told, Anything, bound_row, made, >>=-association}
use Rattle.tracer_read.proofs.ToldExpressions.{number_told, plain_told, symbol_told, function_told, local_told, only_told}
use Rattle.tracer_read.proofs.ToldStatements.{Leaves, body_told}

-- ---- parameters

parameters_told : (text : List ℕ) (names : List Token) (ps : Trees)
    → Told (λ all. all ≡ names ++ all_names ps) (first (parameters text names ps))
    (parameters_of text names ps)
parameters_told text names no_trees = (refl, sym (append-nil names))
parameters_told text names (tree p ps) =
    let now = names ++ name_in p in
    let whole = names ++ (name_in p ++ all_names ps) in
    subst (Told (λ (all : List Token). all ≡ whole)
    (first (local_name names text p ++ parameters text now ps)))
    (>>=-association (word_of text p) (new_local text names) (λ more. parameters_of text more ps))
    (bound_row (λ more. more ≡ now) (λ all. all ≡ whole) (local_name names text p)
    (parameters text now ps) (word_of text p >>= new_local text names)
    (λ more. parameters_of text more ps) (local_told names text p)
    (λ more q. subst (λ (ls : List Token).
    Told (λ (all : List Token). all ≡ whole) (first (parameters text now ps))
    (parameters_of text ls ps)) (sym q)
    (subst (λ (w : List Token). Told (λ (all : List Token). all ≡ w)
    (first (parameters text now ps)) (parameters_of text now ps))
    (append_assoc names (name_in p) (all_names ps)) (parameters_told text now ps))))

parameter_list_told : (text : List ℕ) (t : Tree)
    → Told (λ all. all ≡ parameter_names t) (first (parameter_nodes text t)) (parameter_list text t)
parameter_list_told text (atom token) = refl
parameter_list_told text (list place ps) = parameters_told text [] ps

-- ---- points

len_in : (place a n : ℕ) (right : Bool)
    → Told Anything (first (finding place (when (not right) causes.Number) ∷ []))
    (unless (not right) place causes.Number (Ok (point.Store a n)))
len_in place a n true = (refl, tt)
len_in place a n false = refl

len_by : (place a : ℕ) (b : Bool) (v : Option ℕ)
    → Told Anything
    (first (finding place (cond b
    (when (not (is_right (λ n. nat_le 1 n && nat_le (a + n) (2 ^ 32)) v)) causes.Number)
    (causes.Form ∷ [])) ∷ []))
    (cond b (or_fault place causes.Number v) (Err (fault place causes.Form)) >>= λ n.
    unless (not (nat_le 1 n && nat_le (a + n) (2 ^ 32))) place causes.Number (Ok (point.Store a n)))
len_by place a false v = refl
len_by place a true None = refl
len_by place a true (Some n) = len_in place a n (nat_le 1 n && nat_le (a + n) (2 ^ 32))

len_told : (text : List ℕ) (a : ℕ) (t : Tree)
    → Told Anything
    (first (number_node (λ n. nat_le 1 n && nat_le (a + n) (2 ^ 32)) text t))
    (number_of text t >>= λ n.
    unless (not (nat_le 1 n && nat_le (a + n) (2 ^ 32))) (place_of t) causes.Number
    (Ok (point.Store a n)))
len_told text a (list place trees) = refl
len_told text a (atom token) =
    len_by token.place a (is_number (spelling text token)) (number_value (spelling text token))

range_told : (text : List ℕ) (t u : Tree)
    → Told Anything (first (range_parts text (tree t (tree u no_trees)))) (store_point text (t, u))
range_told text t u =
    let behind = λ (a : ℕ).
    number_node (λ n. nat_le 1 n && nat_le (a + n) (2 ^ 32)) text u in
    bound_row (λ a. value_at text t ≡ a) Anything (number_node (λ _. true) text t)
    (behind (value_at text t)) (number_of text t)
    (λ a. number_of text u >>= λ n.
    unless (not (nat_le 1 n && nat_le (a + n) (2 ^ 32))) (place_of u) causes.Number
    (Ok (point.Store a n)))
    (plain_told text t)
    (λ a q. subst (λ (b : ℕ). Told Anything (first (behind b)) (number_of text u >>= λ n.
    unless (not (nat_le 1 n && nat_le (a + n) (2 ^ 32))) (place_of u) causes.Number
    (Ok (point.Store a n)))) (sym q) (len_told text a u))

point_form_told : (around : Around) (place : ℕ) (parts : Trees) (h : Option PointHead)
    → Told Anything (first (finding place (point_causes parts h) ∷ point_parts around parts h))
    (point_form around place parts h)
point_form_told around place parts None = refl
point_form_told around place parts (Some Addr) =
    only_told place (number_node (λ _. true) around.text)
    (λ t. number_of around.text t >>= λ n. Ok (point.Addr n))
    (λ t. made (λ n. value_at around.text t ≡ n) Anything
    (first (number_node (λ _. true) around.text t)) (number_of around.text t) point.Addr
    (λ n q. tt) (plain_told around.text t)) parts
point_form_told around place parts (Some Enter) =
    only_told place (symbol_name around.symbols around.text)
    (λ t. symbol_of around.text around.symbols t >>= λ n. Ok (point.Enter n))
    (λ t. made Anything Anything (first (symbol_name around.symbols around.text t))
    (symbol_of around.text around.symbols t) point.Enter (λ n q. tt)
    (symbol_told around.symbols around.text t)) parts
point_form_told around place no_trees (Some Store) = refl
point_form_told around place (tree t no_trees) (Some Store) = refl
point_form_told around place (tree t (tree u no_trees)) (Some Store) = range_told around.text t u
point_form_told around place (tree t (tree u (tree v trees))) (Some Store) = refl

point_told : (around : Around) (t : Tree)
    → Told Anything (first (point_nodes around t)) (point_of around t)
point_told around (atom token) = refl
point_told around (list place no_trees) = refl
point_told around (list place (tree f parts)) =
    point_form_told around place parts (head (λ word. named word point_names) around.text f)

-- ---- lists of the top level

-- what stands before a list, from what is read so far
abbrev pub seen_of : Draft → Seen
seen_of draft = record {
  budget = is_some draft.budget;
  names = draft.names;
  points = length draft.tracepoints;
}

abbrev Sees : Seen → Draft → Type 0
Sees seen draft = seen_of draft ≡ seen

arity_first : (place : ℕ) (b : Bool) (found : List Finding) (cause : ScriptCause)
    → least (causes.Arity ∷ when b cause) ≡ Some causes.Arity
    → first (finding place (causes.Arity ∷ when b cause) ∷ found) ≡ Some (fault place causes.Arity)
arity_first place b found cause is =
    ap (λ (o : Option ScriptCause). first_of place o (first found)) is

arity_or_doubled : (b : Bool) → least (causes.Arity ∷ when b causes.NameDoubled) ≡ Some causes.Arity
arity_or_doubled true = refl
arity_or_doubled false = refl

arity_or_large : (b : Bool) → least (causes.Arity ∷ when b causes.TooLarge) ≡ Some causes.Arity
arity_or_large true = refl
arity_or_large false = refl

once : {A : Type 0} (Q : A → Type 0) (place : ℕ) (b : Bool) (cause : ScriptCause)
    (found : List Finding) (r : Result A ScriptFault)
    → Told Q (first found) r
    → Told Q (first (finding place ([] ++ when b cause) ∷ found)) (unless b place cause r)
once Q place true cause found r told = refl
once Q place false cause found r told = told

ToldItem : Around → Draft → ℕ → Trees → ItemHead → Type 0
ToldItem around draft place parts h =
    Told (Sees (seen_by (seen_of draft) parts (Some h)))
    (first (finding place (item_causes (seen_of draft) parts (Some h))
    ∷ item_parts around (seen_of draft) parts (Some h)))
    (item_form around place parts draft (Some h))

budget_told : (around : Around) (draft : Draft) (place : ℕ) (parts : Trees)
    → ToldItem around draft place parts Budget
unfolding ToldItem
budget_told around draft place no_trees =
    arity_first place (is_some draft.budget) [] causes.NameDoubled
    (arity_or_doubled (is_some draft.budget))
budget_told around draft place (tree t no_trees) =
    let range = number_node (λ n. nat_le 1 n && nat_le n 1000000) around.text t in
    once (Sees (record (seen_of draft) { budget = true })) place (is_some draft.budget)
    causes.NameDoubled range
    (number_within 1 1000000 around.text t >>= λ n. Ok (record draft { budget = Some n }))
    (made Anything (Sees (record (seen_of draft) { budget = true })) (first range)
    (number_within 1 1000000 around.text t) (λ n. record draft { budget = Some n }) (λ n any. refl)
    (number_told 1 1000000 around.text t))
budget_told around draft place (tree t (tree u trees)) =
    arity_first place (is_some draft.budget)
    (number_node (λ n. nat_le 1 n && nat_le n 1000000) around.text t) causes.NameDoubled
    (arity_or_doubled (is_some draft.budget))

-- a draft with one more function, or with one more tracepoint
abbrev defined : Draft → List Token → List Token → Statements × List Token → Draft
defined draft names locals read = record draft {
  names = names;
  functions = draft.functions
      ++ record { parameters = length locals; locals = length read.1; body = read.0 } ∷ [];
}

abbrev traced : Draft → Point → Statements × List Token → Draft
traced draft p read = record draft {
  tracepoints = draft.tracepoints
      ++ record { point = p; locals = length read.1; body = read.0 } ∷ [];
}

abbrev with_names : Draft → List Token → Seen
with_names draft names = record (seen_of draft) { names = names }

def_told : (around : Around) (draft : Draft) (place : ℕ) (parts : Trees)
    → ToldItem around draft place parts Def
unfolding ToldItem
def_told around draft place no_trees = refl
def_told around draft place (tree f no_trees) = refl
def_told around draft place (tree f (tree ps body)) =
    let text = around.text in
    let names = draft.names ++ name_in f in
    let Due = Sees (with_names draft names) in
    let inner : List Token → Result Draft ScriptFault =
    λ now. parameter_list text ps >>= λ locals.
    in_order (steps_of around body) locals >>= λ read. Ok (defined draft now locals read) in
    let behind = parameter_nodes text ps ++ body_nodes around body (parameter_names ps) in
    subst (Told Due (first (function_name draft.names text f ++ behind)))
    (>>=-association (word_of text f) (new_name text draft.names) inner)
    (bound_row (λ now. now ≡ names) Due (function_name draft.names text f) behind
    (word_of text f >>= new_name text draft.names) inner (function_told draft.names text f)
    (λ now q. bound_row (λ locals. locals ≡ parameter_names ps) Due (parameter_nodes text ps)
    (body_nodes around body (parameter_names ps)) (parameter_list text ps)
    (λ locals. in_order (steps_of around body) locals >>= λ read. Ok (defined draft now locals read))
    (parameter_list_told text ps)
    (λ locals r. made (Leaves (locals ++ joined (each_declared text body))) Due
    (first (body_nodes around body (parameter_names ps))) (in_order (steps_of around body) locals)
    (defined draft now locals) (λ read any. ap (with_names draft) q)
    (subst (λ (ls : List Token).
    Told (Leaves (locals ++ joined (each_declared text body))) (first (body_nodes around body ls))
    (in_order (steps_of around body) locals)) r (body_told around body locals)))))

at_told : (around : Around) (draft : Draft) (place : ℕ) (parts : Trees)
    → ToldItem around draft place parts At
unfolding ToldItem
at_told around draft place no_trees =
    arity_first place (length draft.tracepoints == 64) [] causes.TooLarge
    (arity_or_large (length draft.tracepoints == 64))
at_told around draft place (tree p body) =
    let Due = Sees (record (seen_of draft) { points = length draft.tracepoints + 1 }) in
    let found = point_nodes around p ++ body_nodes around body [] in
    let reading : Result Draft ScriptFault = point_of around p >>= λ at.
    in_order (steps_of around body) [] >>= λ read. Ok (traced draft at read) in
    once Due place (length draft.tracepoints == 64) causes.TooLarge found reading
    (bound_row Anything Due (point_nodes around p) (body_nodes around body []) (point_of around p)
    (λ at. in_order (steps_of around body) [] >>= λ read. Ok (traced draft at read))
    (point_told around p)
    (λ at any. made (Leaves ([] ++ joined (each_declared around.text body))) Due
    (first (body_nodes around body [])) (in_order (steps_of around body) []) (traced draft at)
    (λ read any. ap (λ (n : ℕ). record (seen_of draft) { points = n })
    (length-append draft.tracepoints
    (record { point = at; locals = length read.1; body = read.0 } ∷ [])))
    (body_told around body [])))

item_form_told : (around : Around) (draft : Draft) (place : ℕ) (parts : Trees) (h : Option ItemHead)
    → Told (Sees (seen_by (seen_of draft) parts h))
    (first (finding place (item_causes (seen_of draft) parts h)
    ∷ item_parts around (seen_of draft) parts h))
    (item_form around place parts draft h)
unfolding ToldItem
item_form_told around draft place parts None = refl
item_form_told around draft place parts (Some Budget) = budget_told around draft place parts
item_form_told around draft place parts (Some Def) = def_told around draft place parts
item_form_told around draft place parts (Some At) = at_told around draft place parts

item_told : (around : Around) (draft : Draft) (t : Tree)
    → Told (Sees (seen_after around.text (seen_of draft) t))
    (first (item_nodes around (seen_of draft) t)) (item around t draft)
item_told around draft (atom token) = refl
item_told around draft (list place no_trees) = refl
item_told around draft (list place (tree f parts)) =
    item_form_told around draft place parts (head (λ word. named word item_names) around.text f)

items_told : (around : Around) (draft : Draft) (trees : Trees)
    → Told Anything (first (items_nodes around (seen_of draft) trees)) (items around trees draft)
items_told around draft no_trees = (refl, tt)
items_told around draft (tree t rest) =
    let next = seen_after around.text (seen_of draft) t in
    bound_row (Sees next) Anything (item_nodes around (seen_of draft) t)
    (items_nodes around next rest) (item around t draft) (items around rest) (item_told around draft t)
    (λ d q. subst (λ (seen : Seen).
    Told Anything (first (items_nodes around seen rest)) (items around rest d)) q
    (items_told around d rest))

-- ---- scripts

matched : (found : List Finding) (r : Result ScriptTree ScriptFault)
    → Told Anything (first found) r
    → MatchResult r (λ script. All IsClean found) (λ fault. IsFirstFault found fault)
matched found (Ok script) told = none_is_clean found told.0
matched found (Err f) told = first_is found f told

pub first_fault_is_told : (text : List ℕ) (symbols : List Symbol) (tokens : List Token)
    → first_pass text ≡ Ok tokens
    → MatchResult (script_of_text text symbols)
    (λ script. All IsClean (script_nodes text symbols tokens))
    (λ fault. IsFirstFault (script_nodes text symbols tokens) fault)
unfolding script_of_text
first_fault_is_told text symbols tokens passed =
    let trees = (nodes_from text tokens).inside in
    let around = surroundings text symbols trees in
    let found = script_nodes text symbols tokens in
    subst (λ (r : Result (List Token) ScriptFault). MatchResult
    (r >>= λ ts. second_pass text symbols (nodes_from text ts).inside)
    (λ script. All IsClean found) (λ fault. IsFirstFault found fault)) (sym passed)
    (matched found (second_pass text symbols trees)
    (made Anything Anything (first found) (items around trees nothing) script_from
    (λ draft any. tt) (items_told around nothing trees)))
