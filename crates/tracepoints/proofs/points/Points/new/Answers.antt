use Rattle.std.proofs.Common.{arith, ◌≡◌, ℕ, ◌≤◌, List, length, map, take, ap, sym, ◌∙◌}
use Rattle.std.specs.Prelude.{All}
use Rattle.std.proofs.lemmas.List.{take_all, length-map}
use Rattle.std.proofs.lemmas.List.Elements.{All-map}
use Rattle.tracer_lang.specs.declared.tree.Tracepoint.{Tracepoint}
use Rattle.tracer_lang.specs.declared.script.Script.{Script}
use Rattle.tracer_lang.specs.Tree.{TracepointTree}
use Rattle.tracer_lang.specs.Limits.{FitsPoint}
use Rattle.tracer_lang.specs.Script.{tree_of}
use Rattle.tracer_lang.specs.Firing.{points_of}
use Rattle.tracepoints.proofs.Firing.{points_of-trees}
use Rattle.tracer_lang.specs.declared.tree.Point.{Point}
use Rattle.tracepoints.proofs.points.Points.new.Goals as goal

few : (s : Script) → length (points_of (tree_of s)) ≤ 64
few s =
    omega (
      arith,
      s.limits.few_tracepoints,
      length-map (tree_of s).tracepoints (λ (t : TracepointTree). t.point),
    )

fit : (s : Script) → All FitsPoint (points_of (tree_of s))
fit s =
    All-map FitsPoint (λ (t : TracepointTree). t.point) (tree_of s).tracepoints
    (λ k d within. (s.limits.tracepoints k d within).point)

-- the points that were taken are those of the script
taken : (s : Script) (points : List Point) (items : List Tracepoint) (n : ℕ)
    → points ≡ map (λ (t : Tracepoint). t.point) (take n items) → length items ≤ n
    → items ≡ s.tracepoints → points ≡ points_of (tree_of s)
taken s points items n so_far all is =
    so_far
    ∙ ap (map (λ (t : Tracepoint). t.point)) (take_all n items all ∙ is)
    ∙ sym (points_of-trees s.tracepoints)

pub chained-requires-clause-few : goal.chained-requires-clause-few
chained-requires-clause-few c =
    rw (taken c.args.script.now c.loop-tracepoint.points _ c.loop-tracepoint.tracepoint-index
    c.loop-tracepoint.invariant c.loop-tracepoint-test.false c.as_slice-tracepoint-items.ensures)
    (few c.args.script.now)

pub chained-requires-clause-fit : goal.chained-requires-clause-fit
chained-requires-clause-fit c =
    rw (taken c.args.script.now c.loop-tracepoint.points _ c.loop-tracepoint.tracepoint-index
    c.loop-tracepoint.invariant c.loop-tracepoint-test.false c.as_slice-tracepoint-items.ensures)
    (fit c.args.script.now)

pub returns : goal.returns
returns c =
    c.chained.ensures
    ∙ taken c.args.script.now c.loop-tracepoint.points _ c.loop-tracepoint.tracepoint-index
    c.loop-tracepoint.invariant c.loop-tracepoint-test.false c.as_slice-tracepoint-items.ensures
