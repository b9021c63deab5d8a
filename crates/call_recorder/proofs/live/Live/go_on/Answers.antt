use Rattle.std.specs.Prelude.{Some}
use Rattle.std.proofs.Common.{◌≡◌, ◌+◌, true, refl, sym, ap, subst, ◌∙◌, arith}
use Rattle.outside.specs.World.{HearsAll}
use Rattle.sl_model.specs.State.{State}
use Rattle.sl_model.specs.Marks.{MarksGoOn}
use Rattle.sl_model.proofs.MarksLaws.{MarksGoOn-same}
use Rattle.sl_model.specs.Step.{step, Called, Trapped}
use Rattle.call_log.specs.declared.entry.End.TheVariants as ends
use Rattle.call_recorder.specs.declared.live.Live.{Live}
use Rattle.call_recorder.specs.Lives.{state_in, GoesOn, RanTo, ComesSoFar}
use Rattle.call_recorder.proofs.Living.{goes_stepped, goes_nowhere, goes_on-stepped, same_live, begins_so}
use Rattle.rv_machine.specs.declared.machine.Machine.{Machine}
use Rattle.call_recorder.proofs.live.Live.go_on.Goals as goal

pub returns-in-Stepped-clause-kept : goal.returns-in-Stepped-clause-kept
returns-in-Stepped-clause-kept g c = λ opened before comes.
    goes_stepped g.W.World.hears opened before _ _ c.args.self.now _ comes (c.in-Stepped.ensures.count refl) c.requires.goes.running c.in-Stepped.ensures.next refl refl

pub returns-in-Stepped-clause-went : goal.returns-in-Stepped-clause-went
returns-in-Stepped-clause-went g c = (goes_on-stepped c.args.self.now _ c.requires.goes c.in-Stepped.ensures.next refl, c.in-Stepped.ensures.count refl)

pub returns-in-Trap-clause-kept : goal.returns-in-Trap-clause-kept
returns-in-Trap-clause-kept g c = λ opened before comes.
    let next = c.in-Trap.ensures.next in
    let same = same_live c.args.self.now c.step.new.m c.step.new.bus next.1 next.2 (c.in-Trap.ensures.kept (λ e. cc)) in
    goes_nowhere opened (HearsAll g.W.World.hears before c.args.world.now) c.args.self.now _ same comes

pub returns-in-Trap-clause-went : goal.returns-in-Trap-clause-went
returns-in-Trap-clause-went g c =
    let next = c.in-Trap.ensures.next in
    let old = c.args.self.now in
    let same = same_live old c.step.new.m c.step.new.bus next.1 next.2 (c.in-Trap.ensures.kept (λ e. cc)) in
    subst (λ (l : Live). RanTo (old.machine.count + 1) l (Some (ends.Trapped c.in-Trap.number))) (sym same)
    (record { ended = (c.requires.goes.running, next.0); next_call = c.requires.goes.next_call; before = omega arith })

pub call-requires-clause-goes : goal.call-requires-clause-goes
call-requires-clause-goes g c =
    let next = c.in-Call.ensures.next in
    subst GoesOn (sym (same_live c.args.self.now c.step.new.m c.step.new.bus next.1 next.2 (c.in-Call.ensures.kept (λ e. cc)))) c.requires.goes

pub call-requires-clause-count : goal.call-requires-clause-count
call-requires-clause-count g c =
    let next = c.in-Call.ensures.next in
    let same = same_live c.args.self.now c.step.new.m c.step.new.bus next.1 next.2 (c.in-Call.ensures.kept (λ e. cc)) in
    omega (arith, ap (λ (l : Live). l.machine.count) same, c.requires.count)

pub call-requires-clause-stands : goal.call-requires-clause-stands
call-requires-clause-stands g c =
    let next = c.in-Call.ensures.next in
    let same = same_live c.args.self.now c.step.new.m c.step.new.bus next.1 next.2 (c.in-Call.ensures.kept (λ e. cc)) in
    subst (λ (l : Live). step (state_in l) ≡ Called) (sym same) next.0

pub returns-in_ok-end-in-Call-clause-kept : goal.returns-in_ok-end-in-Call-clause-kept
returns-in_ok-end-in-Call-clause-kept g c = λ opened before comes.
    let next = c.in-Call.ensures.next in
    let same = same_live c.args.self.now c.step.new.m c.step.new.bus next.1 next.2 (c.in-Call.ensures.kept (λ e. cc)) in
    c.in_ok-end-in-Call.ensures.kept opened before (subst (λ (l : Live). ComesSoFar opened (HearsAll g.W.World.hears before c.args.world.now) l) (sym same) comes)

pub returns-in_ok-end-in-Call-clause-went : goal.returns-in_ok-end-in-Call-clause-went
returns-in_ok-end-in-Call-clause-went g c =
    let next = c.in-Call.ensures.next in
    let same = same_live c.args.self.now c.step.new.m c.step.new.bus next.1 next.2 (c.in-Call.ensures.kept (λ e. cc)) in
    let count = ap (λ (l : Live). l.machine.count + 1) same in
    subst (λ n. RanTo n c.call.new.self c.in_ok-end-in-Call.end) count c.in_ok-end-in-Call.ensures.went

pub returns-in_ok-end-in-Call-clause-marks : goal.returns-in_ok-end-in-Call-clause-marks
returns-in_ok-end-in-Call-clause-marks g c =
    let next = c.in-Call.ensures.next in
    let same = same_live c.args.self.now c.step.new.m c.step.new.bus next.1 next.2 (c.in-Call.ensures.kept (λ e. cc)) in
    subst (λ (l : Live). MarksGoOn true l.memory.pages l.memory.dirty c.call.new.self.memory.pages c.call.new.self.memory.dirty) same c.in_ok-end-in-Call.ensures.marks

pub returns-in-Stepped-clause-calls : goal.returns-in-Stepped-clause-calls
returns-in-Stepped-clause-calls g c = begins_so c.args.self.now.calls c.args.self.now.calls refl

pub returns-in-Trap-clause-calls : goal.returns-in-Trap-clause-calls
returns-in-Trap-clause-calls g c = begins_so c.args.self.now.calls c.args.self.now.calls refl

pub returns-in-Trap-clause-from : goal.returns-in-Trap-clause-from
returns-in-Trap-clause-from g c = omega (arith, ap (λ (m : Machine). m.count) c.in-Trap.ensures.next.1)

pub returns-in_ok-end-in-Call-clause-from : goal.returns-in_ok-end-in-Call-clause-from
returns-in_ok-end-in-Call-clause-from g c = omega (arith, ap (λ (m : Machine). m.count) c.in-Call.ensures.next.1, c.in_ok-end-in-Call.ensures.from)
