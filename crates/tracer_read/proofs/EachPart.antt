-- Nothing of a text is dropped.
use Rattle.std.proofs.Common.{◌≡◌, ℕ, ◌+◌, ◌==◌, cond, [], length, Option, Some, None, Ok, IfOk, refl, ap, arith}
use Rattle.std.specs.Prelude.{is_some}
use Rattle.std.proofs.lemmas.List.{length_push}
use Rattle.tracer_lang.specs.Tree.{FunctionTree, TracepointTree}
use Rattle.tracer_text.specs.declared.fault.ScriptCause.TheVariants as causes
use Rattle.tracer_text.specs.Nodes.{Tree, atom, list, Trees, no_trees, tree}
use Rattle.tracer_read.specs.declared.heads.ItemHead.{ItemHead}
use Rattle.tracer_read.specs.declared.heads.ItemHead.TheVariants.{Budget, Def, At}
use Rattle.tracer_read.specs.Heads.{named, item_names}
use Rattle.tracer_read.specs.Parts.{◌>>=◌, word_of, number_within, new_name, only_part, part_count}
use Rattle.tracer_read.specs.Expressions.{Around, head}
use Rattle.tracer_read.specs.Statements.{in_order, step_of, steps_of}
use Rattle.tracer_read.specs.Scripts.{Draft, budget_form, def_form, at_form, item_form, item, items, nothing, parameter_list, point_of}
use Rattle.tracer_read.specs.Laws.{statement_count, list_count, EachStatementStays, EachListStays}
use Rattle.tracer_read.proofs.Sound.{IfOk-bind, IfOk-then, IfOk-unless, IfOk-weaker}

pub each_statement_stays : EachStatementStays
each_statement_stays around no_trees locals = refl
each_statement_stays around (tree first rest) locals =
    IfOk-then (step_of around first locals) _
    (λ read. statement_count read.0 ≡ part_count (tree first rest)) (λ x _.
    IfOk-bind (in_order (steps_of around rest) x.1) _
    (λ read. statement_count read.0 ≡ part_count rest)
    (λ read. statement_count read.0 ≡ part_count (tree first rest))
    (each_statement_stays around rest x.1)
    (λ y same. ap (λ n. 1 + n) same))

-- one list more
abbrev OneMore : Draft → Draft → Type 0
OneMore d e = list_count e ≡ list_count d + 1

budget-counts : (around : Around) (place : ℕ) (parts : Trees) (d : Draft)
    → IfOk (budget_form around place parts d) (OneMore d)
budget-counts around place parts d =
    IfOk-then (only_part place parts) _ (OneMore d) (λ t _.
    IfOk-unless (is_some d.budget) place causes.NameDoubled
    (number_within 1 1000000 around.text t >>= λ n. Ok (record d { budget = Some n })) (OneMore d)
    (λ is.
    IfOk-then (number_within 1 1000000 around.text t) _ (OneMore d) (λ n _.
    omega (arith, ap {B = ℕ} (λ b. cond b 1 0) is))))

def-counts : (around : Around) (place : ℕ) (parts : Trees) (d : Draft)
    → IfOk (def_form around place parts d) (OneMore d)
def-counts around place no_trees d = tt
def-counts around place (tree f no_trees) d = tt
def-counts around place (tree f (tree ps body)) d =
    IfOk-then (word_of around.text f) _ (OneMore d) (λ name _.
    IfOk-then (new_name around.text d.names name) _ (OneMore d) (λ names _.
    IfOk-then (parameter_list around.text ps) _ (OneMore d) (λ locals _.
    IfOk-then (in_order (steps_of around body) locals) _ (OneMore d) (λ x _.
    let g : FunctionTree = record { parameters = length locals; locals = length x.1; body = x.0 } in
    omega (arith, length_push d.functions g)))))

at-counts : (around : Around) (place : ℕ) (parts : Trees) (d : Draft)
    → IfOk (at_form around place parts d) (OneMore d)
at-counts around place no_trees d = tt
at-counts around place (tree point body) d =
    IfOk-unless (length d.tracepoints == 64) place causes.TooLarge _ (OneMore d) (λ _.
    IfOk-then (point_of around point) _ (OneMore d) (λ p _.
    IfOk-then (in_order (steps_of around body) []) _ (OneMore d) (λ x _.
    let t : TracepointTree = record { point = p; locals = length x.1; body = x.0 } in
    omega (arith, length_push d.tracepoints t))))

form-counts : (around : Around) (place : ℕ) (parts : Trees) (d : Draft) (h : Option ItemHead)
    → IfOk (item_form around place parts d h) (OneMore d)
form-counts around place parts d None = tt
form-counts around place parts d (Some Budget) = budget-counts around place parts d
form-counts around place parts d (Some Def) = def-counts around place parts d
form-counts around place parts d (Some At) = at-counts around place parts d

item-counts : (around : Around) (t : Tree) (d : Draft) → IfOk (item around t d) (OneMore d)
item-counts around (atom token) d = tt
item-counts around (list place no_trees) d = tt
item-counts around (list place (tree first parts)) d =
    form-counts around place parts d (head (λ word. named word item_names) around.text first)

items-count : (around : Around) (trees : Trees) (d : Draft)
    → IfOk (items around trees d) (λ e. list_count e ≡ list_count d + part_count trees)
items-count around no_trees d = omega arith
items-count around (tree first rest) d =
    let Q : Draft → Type 0 = λ e. list_count e ≡ list_count d + part_count (tree first rest) in
    IfOk-bind (item around first d) (items around rest) (OneMore d) Q (item-counts around first d)
    (λ e more.
    IfOk-weaker (items around rest e) (λ g. list_count g ≡ list_count e + part_count rest) Q
    (items-count around rest e)
    (λ g same. omega (arith, same, more)))

pub each_list_stays : EachListStays
each_list_stays around trees =
    IfOk-weaker (items around trees nothing) (λ e.
    list_count e ≡ list_count nothing + part_count trees) (λ e. list_count e ≡ part_count trees)
    (items-count around trees nothing) (λ e same. omega (arith, same))
