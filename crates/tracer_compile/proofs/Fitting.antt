-- The code of a script fits where jumps reach all of it.
use Rattle.std.proofs.Common.{◌≡◌, ℕ, ◌+◌, ◌*◌, ◌^◌, ◌<◌, ◌≤◌, ◌⊎◌, inl, inr, List, [], ◌∷◌, length, map, refl, sym, ap, ◌∙◌, subst, arith, length-append}
use Rattle.std.specs.Prelude.{slice_index_or}
use Rattle.std.specs.List.{sum_by}
use Rattle.std.proofs.lemmas.List.Sums.{sum_by-cons, sum-map}
use Rattle.std.proofs.lemmas.Bool.{cases_lt}
use Rattle.std.proofs.lemmas.List.{get_or_past}
use Rattle.sl_model.specs.declared.instr.Instr.{Instr}
use Rattle.tracer_lang.specs.Limits.{statements_nodes, IsWithinLimits}
use Rattle.tracer_lang.specs.Meaning.{no_function}
use Rattle.tracer_lang.specs.Tree.{FunctionTree, TracepointTree, ScriptTree}
use Rattle.tracer_compile.specs.Blocks.{end_without, end_with, opening_block}
use Rattle.tracer_compile.specs.Code.{Scope, body_code, function_code, tracepoint_code}
use Rattle.tracer_compile.specs.Script.{joined, end_code, function_codes, tracepoint_codes, addresses_of, functions_part, script_code}
use Rattle.tracer_compile.proofs.Lengths.{FewLocals, length-body, length-opening}

-- the functions of a script have few locals
few_locals : (script : ScriptTree) (addresses : List ℕ) (locals : ℕ) → IsWithinLimits script
    → FewLocals record { functions = script.functions; addresses = addresses; locals = locals }
few_locals script addresses locals limits = record { few = few }
  where
    at : (i : ℕ) → (i < length script.functions) ⊎ (length script.functions ≤ i)
        → (slice_index_or script.functions i no_function).locals ≤ 16
    at i (inl within) = (limits.functions i no_function within).body.few_locals
    at i (inr past) =
        let none : slice_index_or script.functions i no_function ≡ no_function =
        get_or_past script.functions i no_function past in
        let Few : FunctionTree → Type 0 = λ f. f.locals ≤ 16 in
        let zero_fits : Few no_function = omega arith in
        subst Few (sym none) zero_fits

    few : (i : ℕ) → (slice_index_or script.functions i no_function).locals ≤ 16
    few i = at i (cases_lt i (length script.functions))

-- codes of so many words each
joined_fits : {X : Type 0} (code : X → List Instr) (nodes : X → ℕ)
    → ((x : X) → length (code x) ≤ 60 * nodes x)
    → (xs : List X) → length (joined (map code xs)) ≤ 60 * sum_by nodes xs
unfolding joined
joined_fits code nodes each [] = omega arith
joined_fits code nodes each (x ∷ xs) =
    omega (
      arith,
      length-append (code x) (joined (map code xs)),
      sum_by-cons nodes x xs,
      each x,
      joined_fits code nodes each xs,
    )

pub function_fits : (script : ScriptTree) (addresses : List ℕ) → IsWithinLimits script
    → (f : FunctionTree)
    → length (function_code script.functions addresses f) ≤ 60 * (1 + statements_nodes f.body)
unfolding function_code
function_fits script addresses limits f =
    let scope : Scope =
    record { functions = script.functions; addresses = addresses; locals = f.locals } in
    omega (arith, length-body scope (few_locals script addresses f.locals limits) f.body)

pub tracepoint_fits : (script : ScriptTree) (addresses : List ℕ) → IsWithinLimits script
    → (t : TracepointTree)
    → length (tracepoint_code script.functions addresses script.budget t)
    ≤ 60 * (1 + statements_nodes t.body)
unfolding tracepoint_code
tracepoint_fits script addresses limits t =
    let scope : Scope =
    record { functions = script.functions; addresses = addresses; locals = t.locals } in
    omega (
      arith,
      length-append (opening_block script.budget t.locals) (body_code scope t.body),
      length-opening script.budget t.locals,
      length-body scope (few_locals script addresses t.locals limits) t.body,
    )

pub length-end_code : length end_code ≡ 3
unfolding end_code end_without end_with
length-end_code = refl

-- end, functions and tracers, whatever the addresses are
pub parts_fit : (script : ScriptTree) (addresses : List ℕ) → IsWithinLimits script
    → 3 + (length (joined (function_codes script addresses))
    + length (joined (tracepoint_codes script addresses))) < 2 ^ 18
parts_fit script addresses limits =
    let of_function : FunctionTree → ℕ = λ f. 1 + statements_nodes f.body in
    let of_tracepoint : TracepointTree → ℕ = λ t. 1 + statements_nodes t.body in
    omega (
      arith,
      joined_fits (function_code script.functions addresses) of_function
          (function_fits script addresses limits) script.functions,
      joined_fits (tracepoint_code script.functions addresses script.budget) of_tracepoint
          (tracepoint_fits script addresses limits) script.tracepoints,
      sum-map of_function script.functions,
      sum-map of_tracepoint script.tracepoints,
      limits.few_nodes,
    )

pub length-functions_part : (script : ScriptTree) (addresses : List ℕ)
    → length (functions_part script addresses)
    ≡ 3 + length (joined (function_codes script addresses))
unfolding functions_part
length-functions_part script addresses =
    length-append end_code (joined (function_codes script addresses))
    ∙ ap (λ n. n + length (joined (function_codes script addresses))) length-end_code

-- the whole code is within reach of jumps
pub script_fits : (script : ScriptTree) → IsWithinLimits script
    → length (script_code script) < 2 ^ 18
unfolding script_code
script_fits script limits =
    let addresses : List ℕ = addresses_of script in
    omega (
      arith,
      length-append (functions_part script addresses)
          (joined (tracepoint_codes script addresses)),
      length-functions_part script addresses,
      parts_fit script addresses limits,
    )
