-- A script that a text is read as is one over the symbols that it is read with.
use Rattle.std.specs.Prelude.{◌==◌, ◌%◌, ◌^◌, ◌&&◌, ◌||◌, not, nat_le, IfOk, IfSome, option_to_list, is_some, unwrap_or, if◌then◌else◌}
use Rattle.std.proofs.Common.{◌≡◌, ℕ, ◌+◌, Bool, true, false, List, [], ◌∷◌, ◌++◌, length, Option, Some, None, Result, Ok, Err, refl, sym, ap, subst, ◌∙◌, arith}
use Rattle.sl_base.specs.declared.symbol.Symbol.{Symbol}
use Rattle.elf_image.specs.declared.image.Image.{Image}
use Rattle.tracer_lang.specs.declared.tree.Point.{Point}
use Rattle.tracer_lang.specs.declared.tree.Point.TheVariants as points
use Rattle.tracer_lang.specs.Tree.{TracepointTree, ScriptTree}
use Rattle.tracer_text.specs.declared.fault.ScriptCause.TheVariants as causes
use Rattle.tracer_text.specs.declared.fault.ScriptFault.{ScriptFault}
use Rattle.tracer_text.specs.declared.token.Token.{Token}
use Rattle.tracer_text.specs.FirstPass.{first_pass}
use Rattle.tracer_text.specs.Nodes.{Tree, atom, list, Trees, no_trees, tree, nodes_from}
use Rattle.tracer_read.specs.declared.heads.ItemHead.{ItemHead}
use Rattle.tracer_read.specs.declared.heads.ItemHead.TheVariants.{Budget, Def, At}
use Rattle.tracer_read.specs.declared.heads.PointHead.{PointHead}
use Rattle.tracer_read.specs.declared.heads.PointHead.TheVariants.{Addr, Enter, Store}
use Rattle.tracer_read.specs.Heads.{named, item_names, point_names}
use Rattle.tracer_read.specs.Parts.{◌>>=◌, or_fault, spelling, place_of, word_of, number_of, number_within, new_name, symbol_value, symbol_of, only_part, two_parts}
use Rattle.tracer_read.specs.Expressions.{Around, head}
use Rattle.tracer_read.specs.Statements.{in_order, steps_of}
use Rattle.tracer_read.specs.Scripts.{Draft, parameter_list, budget_form, def_form, at_form, store_point, point_form, point_of, item_form, item, items, nothing, surroundings, second_pass, script_from, script_of_text}
use Rattle.epoch_run.specs.Symbols.{is_symbol_value, is_point_over, are_points_over, IsOver}
use Rattle.std.proofs.lemmas.Bool.{and_from}
use Rattle.std.proofs.lemmas.Grind.{common_steps}
use Rattle.std.specs.Str.{bytes_eq}

-- ---- values of symbols

itself : (n : ℕ) → (n == n) ≡ true
itself n = grind (arith, common_steps)

or_first : (a b : Bool) → a ≡ true → (a || b) ≡ true
or_first true b is = refl
or_first false b is = absurd cc

or_second : (a b : Bool) → b ≡ true → (a || b) ≡ true
or_second true b is = refl
or_second false b is = is

either : (first : Bool) (symbol : Symbol) (symbols : List Symbol) (more : Option ℕ) → IfSome more (λ n. is_symbol_value symbols n ≡ true)
    → IfSome (if first then Some (symbol.value % 2 ^ 32) else more) (λ n. is_symbol_value (symbol ∷ symbols) n ≡ true)
either true symbol symbols more is = or_first (symbol.value % 2 ^ 32 == symbol.value % 2 ^ 32) (is_symbol_value symbols (symbol.value % 2 ^ 32)) (itself (symbol.value % 2 ^ 32))
either false symbol symbols (Some n) is = or_second (symbol.value % 2 ^ 32 == n) (is_symbol_value symbols n) is
either false symbol symbols None is = tt

value_over : (symbols : List Symbol) (name : List ℕ) → IfSome (symbol_value symbols name) (λ n. is_symbol_value symbols n ≡ true)
value_over [] name = tt
value_over (symbol ∷ symbols) name = either (bytes_eq symbol.name name) symbol symbols (symbol_value symbols name) (value_over symbols name)

-- ---- steps of the reader

-- what follows something of a kind, and what follows anything
then_so : {A B : Type 0} (P : A → Type 0) (Q : B → Type 0) (r : Result A ScriptFault) (f : A → Result B ScriptFault) → IfOk r P → ((x : A) → P x → IfOk (f x) Q) → IfOk (r >>= f) Q
then_so P Q (Ok x) f is more = more x is
then_so P Q (Err e) f is more = tt

then_any : {A B : Type 0} (Q : B → Type 0) (r : Result A ScriptFault) (f : A → Result B ScriptFault) → ((x : A) → IfOk (f x) Q) → IfOk (r >>= f) Q
then_any Q (Ok x) f more = more x
then_any Q (Err e) f more = tt

unless_so : {A : Type 0} (Q : A → Type 0) (broken : Bool) (fault : ScriptFault) (more : Result A ScriptFault) → IfOk more Q → IfOk (if broken then Err fault else more) Q
unless_so Q true fault more is = tt
unless_so Q false fault more is = is

-- ---- points

abbrev PointIsOver : Around → Point → Type 0
PointIsOver around point = is_point_over around.symbols point ≡ true

or_fault_so : (P : ℕ → Type 0) (place : ℕ) (o : Option ℕ) → IfSome o P → IfOk (or_fault place causes.SymbolUnknown o) P
or_fault_so P place (Some n) is = is
or_fault_so P place None is = tt

symbol_over : (text : List ℕ) (symbols : List Symbol) (t : Tree) → IfOk (symbol_of text symbols t) (λ n. is_symbol_value symbols n ≡ true)
symbol_over text symbols t =
    then_any (λ (n : ℕ). is_symbol_value symbols n ≡ true) (word_of text t) (λ token. or_fault token.place causes.SymbolUnknown (symbol_value symbols (spelling text token)))
    (λ token. or_fault_so (λ n. is_symbol_value symbols n ≡ true) token.place (symbol_value symbols (spelling text token)) (value_over symbols (spelling text token)))

range_over : (around : Around) (parts : Tree × Tree) → IfOk (store_point around.text parts) (PointIsOver around)
range_over around parts =
    then_any (PointIsOver around) (number_of around.text parts.0) _ (λ address.
    then_any (PointIsOver around) (number_of around.text parts.1) _ (λ len.
    unless_so (PointIsOver around) (not (nat_le 1 len && nat_le (address + len) (2 ^ 32))) _ (Ok (points.Store address len)) refl))

point_form_over : (around : Around) (place : ℕ) (parts : Trees) (form : Option PointHead) → IfOk (point_form around place parts form) (PointIsOver around)
point_form_over around place parts None = tt
point_form_over around place parts (Some Addr) =
    then_any (PointIsOver around) (only_part place parts) _ (λ t. then_any (PointIsOver around) (number_of around.text t) _ (λ n. refl))
point_form_over around place parts (Some Enter) =
    then_any (PointIsOver around) (only_part place parts) _ (λ t.
    then_so (λ n. is_symbol_value around.symbols n ≡ true) (PointIsOver around) (symbol_of around.text around.symbols t) _ (symbol_over around.text around.symbols t) (λ n is. is))
point_form_over around place parts (Some Store) =
    then_any (PointIsOver around) (two_parts place parts) _ (λ two. range_over around two)

point_over : (around : Around) (t : Tree) → IfOk (point_of around t) (PointIsOver around)
point_over around (atom token) = tt
point_over around (list place no_trees) = tt
point_over around (list place (tree first parts)) = point_form_over around place parts (head (λ word. named word point_names) around.text first)

-- ---- lists of the top level

one_more : (symbols : List Symbol) (ts : List TracepointTree) (t : TracepointTree) → are_points_over symbols ts ≡ true → is_point_over symbols t.point ≡ true → are_points_over symbols (ts ++ t ∷ []) ≡ true
one_more symbols [] t is point = and_from (is_point_over symbols t.point) true point refl
one_more symbols (x ∷ ts) t is point = split (is_point_over symbols x.point) (one_more symbols ts t) is
  where
    split : (b : Bool) → (are_points_over symbols ts ≡ true → is_point_over symbols t.point ≡ true → are_points_over symbols (ts ++ t ∷ []) ≡ true) → (b && are_points_over symbols ts) ≡ true
        → (b && are_points_over symbols (ts ++ t ∷ [])) ≡ true
    split true more both = more both point
    split false more both = absurd cc

abbrev DraftIsOver : Around → Draft → Type 0
DraftIsOver around draft = are_points_over around.symbols draft.tracepoints ≡ true

budget_over : (around : Around) (place : ℕ) (parts : Trees) (draft : Draft) → DraftIsOver around draft → IfOk (budget_form around place parts draft) (DraftIsOver around)
budget_over around place parts draft is =
    then_any (DraftIsOver around) (only_part place parts) _ (λ t.
    unless_so (DraftIsOver around) (is_some draft.budget) _ _ (then_any (DraftIsOver around) (number_within 1 1000000 around.text t) _ (λ n. is)))

def_over : (around : Around) (place : ℕ) (parts : Trees) (draft : Draft) → DraftIsOver around draft → IfOk (def_form around place parts draft) (DraftIsOver around)
def_over around place no_trees draft is = tt
def_over around place (tree f no_trees) draft is = tt
def_over around place (tree f (tree parameters body)) draft is =
    then_any (DraftIsOver around) (word_of around.text f) _ (λ name.
    then_any (DraftIsOver around) (new_name around.text draft.names name) _ (λ names.
    then_any (DraftIsOver around) (parameter_list around.text parameters) _ (λ locals.
    then_any (DraftIsOver around) (in_order (steps_of around body) locals) _ (λ read. is))))

at_over : (around : Around) (place : ℕ) (parts : Trees) (draft : Draft) → DraftIsOver around draft → IfOk (at_form around place parts draft) (DraftIsOver around)
at_over around place no_trees draft is = tt
at_over around place (tree point body) draft is =
    unless_so (DraftIsOver around) (length draft.tracepoints == 64) _ _
    (then_so (PointIsOver around) (DraftIsOver around) (point_of around point) _ (point_over around point) (λ p here.
    then_any (DraftIsOver around) (in_order (steps_of around body) []) _ (λ read.
    one_more around.symbols draft.tracepoints (record { point = p; locals = length read.1; body = read.0 }) is here)))

form_over : (around : Around) (place : ℕ) (parts : Trees) (draft : Draft) (form : Option ItemHead) → DraftIsOver around draft → IfOk (item_form around place parts draft form) (DraftIsOver around)
form_over around place parts draft None is = tt
form_over around place parts draft (Some Budget) is = budget_over around place parts draft is
form_over around place parts draft (Some Def) is = def_over around place parts draft is
form_over around place parts draft (Some At) is = at_over around place parts draft is

item_over : (around : Around) (t : Tree) (draft : Draft) → DraftIsOver around draft → IfOk (item around t draft) (DraftIsOver around)
item_over around (atom token) draft is = tt
item_over around (list place no_trees) draft is = tt
item_over around (list place (tree first parts)) draft is = form_over around place parts draft (head (λ word. named word item_names) around.text first) is

items_over : (around : Around) (trees : Trees) (draft : Draft) → DraftIsOver around draft → IfOk (items around trees draft) (DraftIsOver around)
items_over around no_trees draft is = is
items_over around (tree first rest) draft is =
    then_so (DraftIsOver around) (DraftIsOver around) (item around first draft) (items around rest) (item_over around first draft is) (λ next so. items_over around rest next so)

-- ---- scripts

pub read_over : (text : List ℕ) (symbols : List Symbol) → IfOk (script_of_text text symbols) (IsOver symbols)
unfolding script_of_text
read_over text symbols =
    then_any (IsOver symbols) (first_pass text) _ (λ tokens.
    let trees = (nodes_from text tokens).inside in
    let around = surroundings text symbols trees in
    then_so (DraftIsOver around) (IsOver symbols) (items around trees nothing) _ (items_over around trees nothing refl) (λ draft is. is))

pub script_over : (text : List ℕ) (symbols all : List Symbol) (script : ScriptTree) → script_of_text text symbols ≡ Ok script → symbols ≡ all → IsOver all script
script_over text symbols all script is same =
    subst (λ (s : List Symbol). IsOver s script) same (subst (λ (r : Result ScriptTree ScriptFault). IfOk r (IsOver symbols)) is (read_over text symbols))
