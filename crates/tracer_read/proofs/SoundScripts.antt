-- Scripts keep their limits.
use Rattle.std.proofs.Common.{◌≡◌, ◌≢◌, ◌<◌, ◌≤◌, ℕ, ◌+◌, ◌%◌, ◌^◌, ◌==◌, ◌&&◌, not, leb, List, [], ◌∷◌, ◌++◌, length, map, sum, All, Option, Some, None, Ok, IfOk, IfSome, refl, sym, ap, subst, ◌∙◌, append_assoc, arith}
use Rattle.std.specs.Prelude.{is_some, option_to_list, unwrap_or}
use Rattle.std.specs.Str.{bytes_eq}
use Rattle.sl_base.specs.declared.symbol.Symbol.{Symbol}
use Rattle.std.specs.Result.{result_ok}
use Rattle.std.proofs.lemmas.Bool.{eq-eqb, false≢true, leb-true}
use Rattle.std.proofs.lemmas.List.{length_push, map-append, append-nil}
use Rattle.std.proofs.lemmas.List.Elements.{All-append, All-cons, All-nil}
use Rattle.std.proofs.lemmas.List.Sums.{sum_by_push}
use Rattle.tracer_lang.specs.declared.tree.Point.TheVariants as points
use Rattle.tracer_lang.specs.Tree.{FunctionTree, TracepointTree}
use Rattle.tracer_lang.specs.Limits.{FitsFunction, FitsPoint, FitsTracepoint, IsWithinLimits, statements_nodes}
use Rattle.tracer_text.specs.declared.fault.ScriptCause.TheVariants as causes
use Rattle.tracer_text.specs.declared.token.Token.{Token}
use Rattle.tracer_text.specs.Nodes.{Tree, atom, list, Trees, no_trees, tree}
use Rattle.tracer_read.specs.declared.heads.ItemHead.{ItemHead}
use Rattle.tracer_read.specs.declared.heads.ItemHead.TheVariants.{Budget, Def, At}
use Rattle.tracer_read.specs.declared.heads.PointHead.{PointHead}
use Rattle.tracer_read.specs.declared.heads.PointHead.TheVariants.{Addr, Enter, Store}
use Rattle.tracer_read.specs.Heads.{named, item_names, point_names}
use Rattle.tracer_read.specs.Parts.{◌>>=◌, place_of, word_of, number_of, number_within, new_name, new_local, symbol_value, symbol_of, only_part, two_parts, part_count}
use Rattle.tracer_read.specs.Expressions.{Callee, Around, head, parameter_counts}
use Rattle.tracer_read.specs.Statements.{in_order, steps_of}
use Rattle.tracer_read.specs.Scripts.{is_def, callee_named, callee_from, callee_if, callee_at, callees, Draft, budget_form, parameters_of, def_form, store_point, point_form, point_of, at_form, item_form, item, items, nothing, script_from, surroundings}
use Rattle.tracer_read.specs.Written.{tree_nodes, trees_nodes, tree_depth, trees_depth}
use Rattle.tracer_read.proofs.Sound.{IfOk-bind, IfOk-then, IfOk-unless, IfOk-weaker, IfSome-cond, both_true, not_false}
use Rattle.tracer_read.proofs.Accepted.{Small}
use Rattle.tracer_read.proofs.SoundExpressions.{AreWords, number_of-small, number_within-within, symbol_of-small}
use Rattle.tracer_read.proofs.SoundStatements.{new_local-grows, BlockSound, block_sound}

-- ---- points and parameters

store_point-fits : (text : List ℕ) (parts : Tree × Tree) → IfOk (store_point text parts) FitsPoint
store_point-fits text parts =
    IfOk-then (number_of text parts.0) _ FitsPoint (λ address _.
    IfOk-then (number_of text parts.1) _ FitsPoint (λ len _.
    IfOk-unless (not (leb 1 len && leb (address + len) (2 ^ 32))) (place_of parts.1) causes.Number
    (Ok (points.Store address len)) FitsPoint (λ is.
    let both = both_true (leb 1 len) (leb (address + len) (2 ^ 32))
    (not_false (leb 1 len && leb (address + len) (2 ^ 32)) is) in
    (leb-true 1 len both.0, leb-true (address + len) (2 ^ 32) both.1))))

point_form-fits : (around : Around) → AreWords around.symbols
    → (place : ℕ) (parts : Trees) (h : Option PointHead)
    → IfOk (point_form around place parts h) FitsPoint
point_form-fits around words place parts None = tt
point_form-fits around words place parts (Some Addr) =
    IfOk-then (only_part place parts) _ FitsPoint (λ t _.
    IfOk-bind (number_of around.text t) _ (λ n. n < 2 ^ 32) FitsPoint
    (number_of-small around.text t) (λ n small. small))
point_form-fits around words place parts (Some Enter) =
    IfOk-then (only_part place parts) _ FitsPoint (λ t _.
    IfOk-bind (symbol_of around.text around.symbols t) _ (λ n. n < 2 ^ 32) FitsPoint
    (symbol_of-small around.text around.symbols words t) (λ n small. small))
point_form-fits around words place parts (Some Store) =
    IfOk-then (two_parts place parts) _ FitsPoint (λ two _. store_point-fits around.text two)

point_of-fits : (around : Around) → AreWords around.symbols → (t : Tree)
    → IfOk (point_of around t) FitsPoint
point_of-fits around words (atom token) = tt
point_of-fits around words (list place no_trees) = tt
point_of-fits around words (list place (tree first parts)) =
    point_form-fits around words place parts (head
    (λ word. named word point_names) around.text first)

parameters_of-count : (text : List ℕ) (names : List Token) (ps : Trees) → length names ≤ 16
    → IfOk (parameters_of text names ps) (λ more. (length more ≡ length names + part_count ps)
    × (length more ≤ 16))
parameters_of-count text names no_trees few = (omega arith, few)
parameters_of-count text names (tree p ps) few =
    let Q : List Token → Type 0 = λ more. (length more ≡ length names + part_count (tree p ps))
    × (length more ≤ 16) in
    IfOk-then (word_of text p) _ Q (λ name _.
    IfOk-bind (new_local text names name) _ (λ more. (length more ≡ length names + 1)
    × (length more ≤ 16)) Q (new_local-grows text names name few) (λ more grown.
    IfOk-weaker (parameters_of text more ps) (λ all. (length all ≡ length more + part_count ps)
    × (length all ≤ 16)) Q (parameters_of-count text more ps grown.1)
    (λ all counts. (omega (arith, counts.0, grown.0), counts.1))))

-- ---- what is read so far

sum_push : {X : Type 0} (f : X → ℕ) (xs : List X) (x : X)
    → sum (map f (xs ++ x ∷ [])) ≡ sum (map f xs) + f x
sum_push f xs x = ap sum (map-append f xs (x ∷ [])) ∙ sum_by_push (λ (n : ℕ). n) (map f xs) (f x)

abbrev function_nodes : FunctionTree → ℕ
function_nodes f = 1 + statements_nodes f.body

abbrev tracepoint_nodes : TracepointTree → ℕ
tracepoint_nodes t = 1 + statements_nodes t.body

abbrev parameters : FunctionTree → ℕ
parameters f = f.parameters

abbrev draft_nodes : Draft → ℕ
draft_nodes d = sum (map function_nodes d.functions) + sum (map tracepoint_nodes d.tracepoints)

abbrev IsBudget : ℕ → Type 0
IsBudget n = (1 ≤ n) × (n ≤ 1000000)

-- The functions that are read and those that are left have so many parameters each; so many nodes
-- are read.
record DraftSound (counts left : List ℕ) (nodes : ℕ) (d : Draft) : Type 0 where
  budget : IfSome d.budget IsBudget
  few : length d.tracepoints ≤ 64
  small : draft_nodes d ≤ nodes
  functions : All (FitsFunction counts) d.functions
  tracepoints : All (FitsTracepoint counts) d.tracepoints
  same : map parameters d.functions ++ left ≡ counts

budget-sound : (around : Around) (place : ℕ) (parts : Trees) (counts left : List ℕ) (nodes : ℕ)
    (d : Draft)
    → DraftSound counts left nodes d → IfOk (budget_form around place parts d)
    (DraftSound counts left (nodes + (1 + trees_nodes parts)))
budget-sound around place parts counts left nodes d s =
    let Q : Draft → Type 0 = DraftSound counts left (nodes + (1 + trees_nodes parts)) in
    IfOk-then (only_part place parts) _ Q (λ t _.
    IfOk-unless (is_some d.budget) place causes.NameDoubled
    (number_within 1 1000000 around.text t >>= λ n. Ok (record d { budget = Some n })) Q (λ _.
    IfOk-bind (number_within 1 1000000 around.text t) _ IsBudget Q
    (number_within-within 1 1000000 around.text t) (λ n within. record {
      budget = within;
      few = s.few;
      small = omega (arith, s.small);
      functions = s.functions;
      tracepoints = s.tracepoints;
      same = s.same;
    })))

at-sound : (around : Around) → AreWords around.symbols
    → (place : ℕ) (parts : Trees) (left : List ℕ) (nodes : ℕ) (d : Draft)
    → 1 + trees_depth parts ≤ 64
    → DraftSound (parameter_counts around.callees) left nodes d
    → IfOk (at_form around place parts d) (DraftSound (parameter_counts around.callees) left
    (nodes + (1 + trees_nodes parts)))
at-sound around words place no_trees left nodes d low s = tt
at-sound around words place (tree point body) left nodes d low s =
    let counts = parameter_counts around.callees in
    let Q : Draft → Type 0 = DraftSound counts left (nodes + (1 + trees_nodes (tree point body))) in
    IfOk-unless (length d.tracepoints == 64) place causes.TooLarge _ Q (λ is.
    IfOk-bind (point_of around point) _ FitsPoint Q (point_of-fits around words point) (λ p fits.
    IfOk-bind (in_order (steps_of around body) []) _ (BlockSound counts 0 body) Q
    (block_sound around words body [] (omega arith)) (λ x b.
    let t : TracepointTree = record { point = p; locals = length x.1; body = x.0 } in
    let room : length d.tracepoints ≢ 64 = λ e.
    false≢true (sym is ∙ eq-eqb (length d.tracepoints) 64 e) in
    let fits_t : FitsTracepoint counts t = record {
      point = fits;
      body = record {
        few_locals = b.most;
        shallow = omega (arith, b.shallow, low);
        numbers = b.fits;
      };
    } in
    record {
      budget = s.budget;
      few = omega (arith, length_push d.tracepoints t, s.few, room);
      small = omega (arith, sum_push tracepoint_nodes d.tracepoints t, s.small, b.few);
      functions = s.functions;
      tracepoints = All-append (FitsTracepoint counts) d.tracepoints (t ∷ []) s.tracepoints
          (All-cons (FitsTracepoint counts) t [] fits_t (All-nil (FitsTracepoint counts)));
      same = s.same;
    })))

def-sound : (around : Around) → AreWords around.symbols
    → (place : ℕ) (parts : Trees) (left : List ℕ) (nodes : ℕ) (d : Draft)
    → 1 + trees_depth parts ≤ 64
    → DraftSound (parameter_counts around.callees)
    (parameter_counts (option_to_list (callee_from around.text parts)) ++ left) nodes d
    → IfOk (def_form around place parts d) (DraftSound (parameter_counts around.callees) left
    (nodes + (1 + trees_nodes parts)))
def-sound around words place no_trees left nodes d low s = tt
def-sound around words place (tree f no_trees) left nodes d low s = tt
def-sound around words place (tree f (tree (atom token) body)) left nodes d low s =
    let Q : Draft → Type 0 = DraftSound (parameter_counts around.callees) left
    (nodes + (1 + trees_nodes (tree f (tree (atom token) body)))) in
    IfOk-then (word_of around.text f) _ Q (λ name _.
    IfOk-then (new_name around.text d.names name) _ Q (λ names _. tt))
def-sound around words place (tree f (tree (list p ps) body)) left nodes d low s =
    let counts = parameter_counts around.callees in
    let Q : Draft → Type 0 = DraftSound counts left
    (nodes + (1 + trees_nodes (tree f (tree (list p ps) body)))) in
    IfOk-then (word_of around.text f) _ Q (λ name is.
    IfOk-then (new_name around.text d.names name) _ Q (λ names _.
    IfOk-bind (parameters_of around.text [] ps) _
    (λ (more : List Token). (length more ≡ 0 + part_count ps) × (length more ≤ 16)) Q
    (parameters_of-count around.text [] ps (omega arith)) (λ locals c.
    IfOk-bind (in_order (steps_of around body) locals) _ (BlockSound counts (length locals) body) Q
    (block_sound around words body locals c.1) (λ x b.
    let g : FunctionTree = record { parameters = length locals; locals = length x.1; body = x.0 } in
    let fits_g : FitsFunction counts g = record {
      parameters = b.more;
      body = record {
        few_locals = b.most;
        shallow = omega (arith, b.shallow, low);
        numbers = b.fits;
      };
    } in
    let named_is : map parameters d.functions ++ (part_count ps ∷ left) ≡ counts =
    ap (λ r. map parameters d.functions ++ (parameter_counts
    (option_to_list (callee_named ps (result_ok r))) ++ left)) (sym is) ∙ s.same in
    let count_is : length locals ≡ part_count ps = omega (arith, c.0) in
    record {
      budget = s.budget;
      few = s.few;
      small = omega (arith, sum_push function_nodes d.functions g, s.small, b.few);
      functions = All-append (FitsFunction counts) d.functions (g ∷ []) s.functions
          (All-cons (FitsFunction counts) g [] fits_g (All-nil (FitsFunction counts)));
      tracepoints = s.tracepoints;
      same = ap (λ ns. ns ++ left) (map-append parameters d.functions (g ∷ []))
          ∙ append_assoc (map parameters d.functions) (length locals ∷ []) left
          ∙ ap (λ n. map parameters d.functions ++ (n ∷ left)) count_is
          ∙ named_is;
    }))))

form-sound : (around : Around) → AreWords around.symbols
    → (place : ℕ) (parts : Trees) (h : Option ItemHead) (left : List ℕ) (nodes : ℕ) (d : Draft)
    → 1 + trees_depth parts ≤ 64
    → DraftSound (parameter_counts around.callees)
    (parameter_counts (option_to_list (callee_if (is_def h) (callee_from around.text parts)))
    ++ left) nodes d
    → IfOk (item_form around place parts d h)
    (DraftSound (parameter_counts around.callees) left (nodes + (1 + trees_nodes parts)))
form-sound around words place parts None left nodes d low s = tt
form-sound around words place parts (Some Budget) left nodes d low s =
    budget-sound around place parts (parameter_counts around.callees) left nodes d s
form-sound around words place parts (Some Def) left nodes d low s =
    def-sound around words place parts left nodes d low s
form-sound around words place parts (Some At) left nodes d low s =
    at-sound around words place parts left nodes d low s

item-sound : (around : Around) → AreWords around.symbols
    → (t : Tree) (left : List ℕ) (nodes : ℕ) (d : Draft) → tree_depth t ≤ 64
    → DraftSound (parameter_counts around.callees)
    (parameter_counts (option_to_list (callee_at around.text t)) ++ left) nodes d
    → IfOk (item around t d) (DraftSound (parameter_counts around.callees) left
    (nodes + tree_nodes t))
item-sound around words (atom token) left nodes d low s = tt
item-sound around words (list place no_trees) left nodes d low s = tt
item-sound around words (list place (tree first parts)) left nodes d low s =
    let counts = parameter_counts around.callees in
    IfOk-weaker (item around (list place (tree first parts)) d)
    (DraftSound counts left (nodes + (1 + trees_nodes parts)))
    (DraftSound counts left (nodes + tree_nodes (list place (tree first parts))))
    (form-sound around words place parts (head (λ word. named word item_names) around.text first)
    left nodes d (omega (arith, low)) s)
    (λ e v. record {
      budget = v.budget;
      few = v.few;
      small = omega (arith, v.small);
      functions = v.functions;
      tracepoints = v.tracepoints;
      same = v.same;
    })

items-sound : (around : Around) → AreWords around.symbols → (trees : Trees) (nodes : ℕ) (d : Draft)
    → trees_depth trees ≤ 64
    → DraftSound (parameter_counts around.callees)
    (parameter_counts (callees around.text trees)) nodes d
    → IfOk (items around trees d) (DraftSound (parameter_counts around.callees) []
    (nodes + trees_nodes trees))
items-sound around words no_trees nodes d low s =
    record {
      budget = s.budget;
      few = s.few;
      small = omega (arith, s.small);
      functions = s.functions;
      tracepoints = s.tracepoints;
      same = s.same;
    }
items-sound around words (tree first rest) nodes d low s =
    let counts = parameter_counts around.callees in
    let left = parameter_counts (callees around.text rest) in
    let Q : Draft → Type 0 = DraftSound counts [] (nodes + trees_nodes (tree first rest)) in
    let split : parameter_counts (option_to_list
    (callee_at around.text first) ++ callees around.text rest) ≡ parameter_counts
    (option_to_list (callee_at around.text first)) ++ left =
    map-append (λ (callee : Callee). callee.parameters)
    (option_to_list (callee_at around.text first)) (callees around.text rest) in
    let s_split : DraftSound counts (parameter_counts
    (option_to_list (callee_at around.text first)) ++ left) nodes d = record {
      budget = s.budget;
      few = s.few;
      small = s.small;
      functions = s.functions;
      tracepoints = s.tracepoints;
      same = ap (λ ns. map parameters d.functions ++ ns) (sym split) ∙ s.same;
    } in
    IfOk-bind (item around first d) (items around rest)
    (DraftSound counts left (nodes + tree_nodes first)) Q
    (item-sound around words first left nodes d (omega (arith, low)) s_split)
    (λ e v. IfOk-weaker (items around rest e)
    (DraftSound counts [] (nodes + tree_nodes first + trees_nodes rest)) Q
    (items-sound around words rest (nodes + tree_nodes first) e (omega (arith, low)) v)
    (λ g w. record {
      budget = w.budget;
      few = w.few;
      small = omega (arith, w.small);
      functions = w.functions;
      tracepoints = w.tracepoints;
      same = w.same;
    }))

budget_or : (o : Option ℕ) → IfSome o IsBudget → IsBudget (unwrap_or o 1000000)
budget_or None h = (omega arith, omega arith)
budget_or (Some n) h = h

pub are_words : (symbols : List Symbol) → AreWords symbols
are_words [] name = tt
are_words (symbol ∷ symbols) name =
    IfSome-cond (bytes_eq symbol.name name) (Some (symbol.value % 2 ^ 32))
    (symbol_value symbols name) (λ n. n < 2 ^ 32)
    (λ _. omega arith) (are_words symbols name)

-- what is accepted keeps the limits of scripts
pub draft-within : (text : List ℕ) (symbols : List Symbol) (trees : Trees) → Small trees
    → IfOk (items (surroundings text symbols trees) trees nothing)
    (λ d. IsWithinLimits (script_from d))
draft-within text symbols trees small =
    let around = surroundings text symbols trees in
    let counts = parameter_counts around.callees in
    let start : DraftSound counts counts 0 nothing = record {
      budget = tt;
      few = omega arith;
      small = omega arith;
      functions = All-nil (FitsFunction counts);
      tracepoints = All-nil (FitsTracepoint counts);
      same = refl;
    } in
    IfOk-weaker (items around trees nothing) (DraftSound counts [] (0 + trees_nodes trees))
    (λ d. IsWithinLimits (script_from d))
    (items-sound around (are_words symbols) trees 0 nothing small.shallow start)
    (λ d s.
    let counts_are : counts ≡ map parameters d.functions = sym s.same
    ∙ append-nil (map parameters d.functions) in
    let budget = budget_or d.budget s.budget in
    record {
      least_budget = budget.0;
      most_budget = budget.1;
      few_tracepoints = s.few;
      few_nodes = omega (arith, s.small, small.few);
      functions = subst (λ c. All (FitsFunction c) d.functions) counts_are s.functions;
      tracepoints = subst (λ c. All (FitsTracepoint c) d.tracepoints) counts_are s.tracepoints;
    })
