use Rattle.std.proofs.Common.{ℕ, List, ap, ◌∙◌}
use Rattle.sl_base.specs.declared.call.Call.{Call}
use Rattle.sl_model.specs.State.{State}
use Rattle.rv_machine.specs.Machine.{state_of}
use Rattle.replay.specs.Calls.{call_of, call_done, moved_on}
use Rattle.replay.proofs.Answered.{data_mapped, moved_on-done}
use Rattle.replay.proofs.answering.apply.Goals as goal

pub do_call-requires-clause-data : goal.do_call-requires-clause-data
do_call-requires-clause-data c =
    let pages = c.args.f.now.pages in
    rw (c.call_of-call.ensures pages, c.as_slice.ensures) (data_mapped (state_of c.args.m.now pages) c.args.entry.now c.requires.due)

pub returns-clause-state : goal.returns-clause-state
returns-clause-state c =
    let pages = c.args.f.now.pages in
    let s : State = state_of c.args.m.now pages in
    let entry = c.args.entry.now in
    let done = c.in_ok-do_call.ensures.state
    ∙ ap (λ (call : Call). call_done s call c.as_slice.result.now) (c.call_of-call.ensures pages)
    ∙ ap (λ (bytes : List ℕ). call_done s (call_of s) bytes) c.as_slice.ensures in
    c.move_on.ensures.state c.do_call.new.f.pages ∙ ap (λ (t : State). moved_on t entry.result) done ∙ moved_on-done s entry
