-- The tracepoints that fire are tracepoints of the script.
use Rattle.std.proofs.Common.{◌≡◌, ℕ, ◌+◌, ◌<◌, List, length, arith, ap, ◌∙◌}
use Rattle.std.specs.Prelude.{All}
use Rattle.std.specs.List.{range_with_len}
use Rattle.std.proofs.lemmas.List.{length-map}
use Rattle.std.proofs.lemmas.List.Elements.{All-filter}
use Rattle.std.proofs.lemmas.List.FromFn.{length-range_with_len, get_or-range_with_len}
use Rattle.sl_model.specs.State.{State}
use Rattle.tracer_lang.specs.declared.script.Script.{Script}
use Rattle.tracer_lang.specs.declared.tree.Point.{Point}
use Rattle.tracer_lang.specs.Tree.{TracepointTree, tracepoint_of}
use Rattle.tracer_lang.specs.Script.{tree_of}
use Rattle.tracer_lang.specs.Firing.{points_of, firing}

below : (n : ℕ) → All (λ i. i < n) (range_with_len 0 n)
below n k d within =
    let inside : k < n = rw (length-range_with_len 0 n) at within in
    let number : 0 + k ≡ k = omega arith in
    rw (get_or-range_with_len 0 n k d inside, number) inside

firing-below : (points : List Point) (s : State) → All (λ i. i < length points) (firing points s)
firing-below points s = All-filter _ (λ i. i < length points) (range_with_len 0 (length points)) (below (length points))

points-are : (script : Script) → length (points_of (tree_of script)) ≡ length script.tracepoints
points-are script =
    length-map (tree_of script).tracepoints (λ (t : TracepointTree). t.point)
    ∙ length-map script.tracepoints tracepoint_of

-- each number that fires is that of a tracepoint
pub firing-within : (script : Script) (points : List Point) (s : State)
    → points ≡ points_of (tree_of script)
    → All (λ i. i < length script.tracepoints) (firing points s)
firing-within script points s are k d within =
    let below = firing-below points s k d within in
    omega (arith, below, ap length are, points-are script)
