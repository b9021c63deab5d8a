use Rattle.std.specs.Prelude.{Some, None}
use Rattle.std.proofs.Common.{◌≡◌, ◌+◌, ◌++◌, true, ◌∷◌, [], length, refl, sym, ap, subst, ◌∙◌, ◌<◌, ◌^◌, arith, rules}
use Rattle.std.proofs.lemmas.List.{length_push}
use Rattle.sl_model.specs.declared.run_state.RunState.{RunState}
use Rattle.sl_model.specs.State.{State, Fits}
use Rattle.sl_model.specs.Marks.{MarksGoOn}
use Rattle.sl_model.proofs.MarksLaws.{MarksGoOn-same}
use Rattle.page_frames.specs.MarkedPages.{MarkedPages}
use Rattle.call_log.specs.declared.entry.End.{End}
use Rattle.replay.specs.Calls.{ask_of, exited, answered}
use Rattle.call_recorder.specs.Lives.{state_in, RanTo}
use Rattle.call_recorder.proofs.Living.{is_ask, goes_exited, goes_answered, status-answered, fits_answered, begins_so}
use Rattle.call_recorder.proofs.live.Live.call.Goals as goal

pub answer-requires : goal.answer-requires
answer-requires g c =
    let s : State = state_in c.args.self.now in
    is_ask s c.in-Some.asked (sym c.in_ok-asked.ensures ∙ c.in-Some.is)

pub returns-in_default-clause-kept : goal.returns-in_default-clause-kept
returns-in_default-clause-kept g c = λ opened before comes.
    let s : State = state_in c.args.self.now in
    let none : ask_of s ≡ None = sym c.in_ok-asked.ensures ∙ cc in
    goes_exited g.W.World.hears opened before _ _ c.args.self.now c.leave.new.self comes (ap (λ (t : State). t.count) c.leave.ensures.state) c.requires.goes.running c.requires.stands none c.leave.ensures.state c.leave.ensures.calls refl

pub returns-in_default-clause-went : goal.returns-in_default-clause-went
returns-in_default-clause-went g c =
    let count : c.leave.new.self.machine.count ≡ c.args.self.now.machine.count + 1 = ap (λ (t : State). t.count) c.leave.ensures.state in
    subst (λ (e : End). RanTo (c.args.self.now.machine.count + 1) c.leave.new.self (Some e)) (sym c.leave.ensures.end) (record {
      ended = ap (λ (t : State). t.status) c.leave.ensures.state;
      next_call = ap (λ (t : State). t.next_call) c.leave.ensures.state ∙ c.requires.goes.next_call ∙ sym (ap length c.leave.ensures.calls);
      before = omega arith;
    })

pub returns-in_default-clause-marks : goal.returns-in_default-clause-marks
returns-in_default-clause-marks g c = subst (λ (f : MarkedPages). MarksGoOn true c.args.self.now.memory.pages c.args.self.now.memory.dirty f.pages f.dirty) (sym c.leave.ensures.memory) (MarksGoOn-same true c.args.self.now.memory.pages c.args.self.now.memory.dirty)

pub returns-clause-kept : goal.returns-clause-kept
returns-clause-kept g c = λ opened before comes.
    let s : State = state_in c.args.self.now in
    let asks : ask_of s ≡ Some c.in-Some.asked = sym c.in_ok-asked.ensures ∙ c.in-Some.is in
    let entry = c.in_ok-entry.ensures in
    goes_answered g.W.World.hears opened before _ _ c.args.self.now _ comes c.in_ok-apply.ensures.count c.in-Some.asked c.in_ok-entry.entry c.requires.goes.running c.requires.stands asks entry.due c.requires.goes.next_call c.in_ok-push.ensures.ok c.in_ok-apply.ensures.state entry.is entry.heard

pub returns-clause-went : goal.returns-clause-went
returns-clause-went g c =
    let s : State = state_in c.args.self.now in
    let asks : ask_of s ≡ Some c.in-Some.asked = sym c.in_ok-asked.ensures ∙ c.in-Some.is in
    let entry = c.in_ok-entry.entry in
    let state = c.in_ok-apply.ensures.state in
    let index : c.apply.new.m.next_call ≡ c.args.self.now.machine.next_call + 1 = ap (λ (t : State). t.next_call) state in (
      record {
        running = ap (λ (t : State). t.status) state ∙ status-answered s entry ∙ c.requires.goes.running;
        next_call = index ∙ omega (arith, c.requires.goes.next_call, ap length c.in_ok-push.ensures.ok, length_push c.args.self.now.calls entry);
        fits = subst Fits (sym state) (fits_answered s c.in-Some.asked entry c.args.self.now.calls c.requires.goes.running c.requires.stands asks c.in_ok-entry.ensures.due c.requires.goes.next_call c.requires.goes.fits);
      },
      c.in_ok-apply.ensures.count,
    )

pub returns-in_default-clause-calls : goal.returns-in_default-clause-calls
returns-in_default-clause-calls g c = begins_so c.args.self.now.calls c.leave.new.self.calls c.leave.ensures.calls

pub returns-in_default-clause-from : goal.returns-in_default-clause-from
returns-in_default-clause-from g c = omega (arith, ap (λ (t : State). t.count) c.leave.ensures.state)

pub returns-clause-calls : goal.returns-clause-calls
returns-clause-calls g c = (c.in_ok-entry.entry ∷ [], c.in_ok-push.ensures.ok)

pub returns-then-index-clause-calls : goal.returns-then-index-clause-calls
returns-then-index-clause-calls g c = begins_so c.args.self.now.calls c.args.self.now.calls refl
