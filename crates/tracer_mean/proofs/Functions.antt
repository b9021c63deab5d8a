-- The functions and tracepoints of a script within its limits.
use Rattle.std.proofs.Common.{◌≡◌, ℕ, ◌+◌, ◌<◌, ◌≤◌, List, length, map, refl, arith, ◌∙◌}
use Rattle.std.specs.Prelude.{sum, slice_index, slice_index_or}
use Rattle.std.proofs.lemmas.List.{get_or-map, length-map}
use Rattle.std.proofs.lemmas.List.Sums.{get_or-le-sum_by, sum-map}
use Rattle.tracer_lang.specs.declared.tree.Function.{Function}
use Rattle.tracer_lang.specs.declared.tree.Tracepoint.{Tracepoint}
use Rattle.tracer_lang.specs.declared.script.Script.{Script}
use Rattle.tracer_lang.specs.Tree.{FunctionTree, ScriptTree, function_of, tracepoint_of}
use Rattle.tracer_lang.specs.Limits.{statements_nodes, parameter_counts, FitsFunction, FitsTracepoint, IsWithinLimits}
use Rattle.tracer_lang.specs.Script.{tree_of}
use Rattle.tracer_lang.specs.Meaning.{no_function, no_tracepoint}

-- one of some numbers is at most their sum
at_most_sum : {X : Type 0} (f : X → ℕ) (xs : List X) (i : ℕ) (d : X) → i < length xs
    → f (slice_index_or xs i d) ≤ sum (map f xs)
at_most_sum f xs i d within = rw (sum-map f xs) (get_or-le-sum_by f xs i d within)

-- what is known of function i, which is f in the code
pub record IsFunction (s : Script) (i : ℕ) (f : Function) : Type 0 where
  pub named : slice_index_or (tree_of s).functions i no_function ≡ function_of f
  pub counted : slice_index (parameter_counts (tree_of s)) i ≡ f.parameters
  pub fits : FitsFunction (parameter_counts (tree_of s)) (function_of f)
  pub nodes : statements_nodes (function_of f).body < 4096

pub is_function : (s : Script) (i : ℕ) (f : Function) → IsWithinLimits (tree_of s)
    → i < length s.functions → f ≡ slice_index_or s.functions i f → IsFunction s i f
is_function s i f limits within e =
    let tree : ScriptTree = tree_of s in
    let long : length tree.functions ≡ length s.functions = length-map s.functions function_of in
    let named : slice_index_or tree.functions i no_function ≡ function_of f =
    get_or-map function_of s.functions i f no_function within ∙ rw (← e) refl in
    let inside : i < length tree.functions = omega arith in
    let nodes : 1 + statements_nodes (slice_index_or tree.functions i no_function).body
    ≤ sum (map (λ (g : FunctionTree). 1 + statements_nodes g.body) tree.functions) =
    at_most_sum (λ (g : FunctionTree). 1 + statements_nodes g.body) tree.functions i no_function
    inside in
    let few : 1 + statements_nodes (function_of f).body
    ≤ sum (map (λ (g : FunctionTree). 1 + statements_nodes g.body) tree.functions) =
    rw named at nodes in
    let fits : FitsFunction (parameter_counts tree) (slice_index_or tree.functions i no_function) =
    limits.functions i no_function inside in
    record {
      named = named;
      counted =
          get_or-map (λ (g : FunctionTree). g.parameters) tree.functions i no_function 0 inside
          ∙ rw named refl;
      fits = rw named at fits;
      nodes = omega (arith, few, limits.few_nodes);
    }

-- what is known of tracepoint i
pub record IsTracepoint (s : Script) (i : ℕ) (t : Tracepoint) : Type 0 where
  pub named : slice_index_or (tree_of s).tracepoints i no_tracepoint ≡ tracepoint_of t
  pub fits : FitsTracepoint (parameter_counts (tree_of s)) (tracepoint_of t)

pub is_tracepoint : (s : Script) (i : ℕ) (t : Tracepoint) → IsWithinLimits (tree_of s)
    → i < length s.tracepoints → t ≡ slice_index_or s.tracepoints i t → IsTracepoint s i t
is_tracepoint s i t limits within e =
    let tree : ScriptTree = tree_of s in
    let long : length tree.tracepoints ≡ length s.tracepoints =
    length-map s.tracepoints tracepoint_of in
    let named : slice_index_or tree.tracepoints i no_tracepoint ≡ tracepoint_of t =
    get_or-map tracepoint_of s.tracepoints i t no_tracepoint within ∙ rw (← e) refl in
    let inside : i < length tree.tracepoints = omega arith in
    let fits : FitsTracepoint (parameter_counts tree)
    (slice_index_or tree.tracepoints i no_tracepoint) =
    limits.tracepoints i no_tracepoint inside in
    record { named = named; fits = rw named at fits }
