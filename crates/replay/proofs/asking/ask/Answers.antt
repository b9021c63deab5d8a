use Rattle.std.proofs.Common.{◌≡◌, true, false, sym, ap, ◌∙◌}
use Rattle.sl_base.specs.declared.call.Call.{Call}
use Rattle.sl_model.specs.State.{State}
use Rattle.rv_machine.specs.Machine.{state_of}
use Rattle.replay.specs.Calls.{call_of, is_exit}
use Rattle.replay.proofs.Asked.{asks_none, asks_fixed, asks_outside}
use Rattle.replay.proofs.asking.ask.Goals as goal

pub returns-then-is_exit : goal.returns-then-is_exit
returns-then-is_exit c =
    let s : State = state_of c.args.m.now c.args.f.now.pages in
    let call = c.call_of-call.ensures c.args.f.now.pages in
    let exits : is_exit (call_of s) ≡ true = ap (λ (call : Call). is_exit call) (sym call) ∙ sym c.is_exit.ensures ∙ cc in
    sym (asks_none s exits)

pub returns-then-is_some : goal.returns-then-is_some
returns-then-is_some c =
    let s : State = state_of c.args.m.now c.args.f.now.pages in
    let call = c.call_of-call.ensures c.args.f.now.pages in
    let goes_on : is_exit (call_of s) ≡ false = ap (λ (call : Call). is_exit call) (sym call) ∙ sym c.is_exit.ensures ∙ cc in
    sym (asks_fixed s c.call_of-call.result c.fixed_result-fixed.result c.new.result call c.fixed_result-fixed.ensures (sym c.is_some.ensures ∙ cc) c.new.ensures goes_on)

pub returns : goal.returns
returns c =
    let s : State = state_of c.args.m.now c.args.f.now.pages in
    let call = c.call_of-call.ensures c.args.f.now.pages in
    let goes_on : is_exit (call_of s) ≡ false = ap (λ (call : Call). is_exit call) (sym call) ∙ sym c.is_exit.ensures ∙ cc in
    sym (asks_outside s c.call_of-call.result c.fixed_result-fixed.result c.in_ok-give.give c.room-room.result call c.fixed_result-fixed.ensures (sym c.is_some.ensures ∙ cc) (c.in_ok-give.ensures c.args.m.now) c.room-room.ensures.value goes_on)
