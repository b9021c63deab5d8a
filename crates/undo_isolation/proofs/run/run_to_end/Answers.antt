use Rattle.std.proofs.Common.{◌≡◌, refl, ◌∙◌, subst, arith}
use Rattle.std.proofs.lemmas.Grind.{common_steps}
use Rattle.sl_model.specs.State.{State}
use Rattle.sl_model.specs.Step.{Stepped as SteppedTo, step}
use Rattle.sl_model.specs.Runs.{steps}
use Rattle.sl_model.specs.Marks.{MarksGoOn}
use Rattle.sl_model.proofs.MarksLaws.{MarksGoOn-same, MarksGoOn-then}
use Rattle.sl_model.proofs.Steps.{IsNext, IsNext-step}
use Rattle.rv_machine.specs.Machine.{state_of}
use Rattle.rv_machine.specs.declared.machine.Outcome.TheVariants.{Stepped}
use Rattle.undo_isolation.specs.Run.{CameTo}
use Rattle.undo_isolation.proofs.Ends.{end-here, stands, goes, CameTo-suc, NoEndBefore-suc}
use Rattle.undo_isolation.proofs.run.run_to_end.Goals as goal

pub loop-init : goal.loop-init
unfolding steps
loop-init g c = record {
  came = record { state = refl; steps = omega arith };
  none = λ k below. absurd (omega arith);
  running = c.requires.running;
  count = omega arith;
  marking = refl;
  fixed = refl;
  marks = MarksGoOn-same (g.B.Bus.is_marking c.args.bus.now) (g.B.Bus.pages c.args.bus.now) (g.B.Bus.marked c.args.bus.now);
}

pub returns-then-ne-clause-end : goal.returns-then-ne-clause-end
returns-then-ne-clause-end g c count few ends =
    let kept = c.loop.invariant in
    let not : c.step.result ≡ Stepped → ⊥ = grind (arith, common_steps) in
    let start : State = state_of c.args.m.now (g.B.Bus.pages c.args.bus.now) in
    let now : State = state_of c.loop.m (g.B.Bus.pages c.loop.bus) in
    let after : State = state_of c.step.new.m (g.B.Bus.pages c.step.new.bus) in
    let same = stands (step now) c.loop.m (g.B.Bus.pages c.loop.bus) c.step.result c.step.new.m (g.B.Bus.pages c.step.new.bus) not c.step.ensures.next in
    let came : CameTo count start now c.args.steps.now c.loop.steps = end-here count c.loop.counter start now c.args.steps.now c.loop.steps ends kept.none kept.came same.1 in
    record { state = same.0 ∙ came.state; steps = c.step.ensures.uncounted not ∙ came.steps }

pub loop-preserved : goal.loop-preserved
loop-preserved g c =
    let kept = c.loop.invariant in
    let is : c.step.result ≡ Stepped = grind (arith, common_steps) in
    let start : State = state_of c.args.m.now (g.B.Bus.pages c.args.bus.now) in
    let now : State = state_of c.loop.m (g.B.Bus.pages c.loop.bus) in
    let then : State = state_of c.step.new.m (g.B.Bus.pages c.step.new.bus) in
    let stepped : step now ≡ SteppedTo then = goes (step now) c.loop.m (g.B.Bus.pages c.loop.bus) c.step.result c.step.new.m (g.B.Bus.pages c.step.new.bus) is c.step.ensures.next in
    let next : IsNext now then = IsNext-step now then stepped in
    let last : MarksGoOn (g.B.Bus.is_marking c.args.bus.now) (g.B.Bus.pages c.loop.bus) (g.B.Bus.marked c.loop.bus) (g.B.Bus.pages c.step.new.bus) (g.B.Bus.marked c.step.new.bus) =
    subst (λ b. MarksGoOn b (g.B.Bus.pages c.loop.bus) (g.B.Bus.marked c.loop.bus) (g.B.Bus.pages c.step.new.bus) (g.B.Bus.marked c.step.new.bus)) kept.marking c.step.ensures.marks in
    let counted = kept.count in
    record {
      came = CameTo-suc c.loop.counter start now then c.args.steps.now c.loop.steps c.step.new.steps kept.came stepped (c.step.ensures.counted is);
      none = NoEndBefore-suc c.loop.counter start now then kept.none kept.came.state stepped;
      running = next.status ∙ kept.running;
      count = omega (arith, c.step.ensures.count is);
      marking = c.step.ensures.marking ∙ kept.marking;
      fixed = c.step.ensures.fixed ∙ kept.fixed;
      marks = MarksGoOn-then _ _ _ (g.B.Bus.pages c.loop.bus) (g.B.Bus.marked c.loop.bus) _ _ kept.marks last;
    }
