use Rattle.std.specs.Option.{option_copied}
use Rattle.std.proofs.Common.{◌≡◌, Some, None, refl, sym, ap, ◌∙◌}
use Rattle.sl_model.specs.State.{State}
use Rattle.rv_machine.specs.Machine.{state_of}
use Rattle.replay.specs.Calls.{ask_of}
use Rattle.replay.specs.Run.{Goes}
use Rattle.replay.proofs.Onward.{asked_exit, asked_no_entry, asked_differs, asked_due}
use Rattle.replay.proofs.advancing.call.Goals as goal

pub returns-in_default-clause-came : goal.returns-in_default-clause-came
returns-in_default-clause-came c =
    let s : State = state_of c.args.m.now c.args.f.now.pages in
    let none : ask_of s ≡ None = sym c.in_ok-due.ensures ∙ cc in
    asked_exit c.args.rec.now s none ∙ ap (λ (t : State). Goes t) (sym (c.exit.ensures.state c.args.f.now.pages))

pub returns-in_default-entry_at-clause-came : goal.returns-in_default-entry_at-clause-came
returns-in_default-entry_at-clause-came c =
    let s : State = state_of c.args.m.now c.args.f.now.pages in
    let asks : ask_of s ≡ Some c.in-Some.due = sym c.in_ok-due.ensures ∙ cc in
    (asked_no_entry c.args.rec.now s c.in-Some.due asks (sym c.entry_at.ensures ∙ ap option_copied c.in_default-entry_at.is), refl, refl)

pub returns-in-Some-first_difference-clause-came : goal.returns-in-Some-first_difference-clause-came
returns-in-Some-first_difference-clause-came c =
    let s : State = state_of c.args.m.now c.args.f.now.pages in
    let asks : ask_of s ≡ Some c.in-Some.due = sym c.in_ok-due.ensures ∙ cc in
    (asked_differs c.args.rec.now s c.in-Some.due c.in-Some-entry_at.entry.now c.in-Some-first_difference.diff asks (sym c.entry_at.ensures ∙ ap option_copied c.in-Some-entry_at.is) (sym c.first_difference.ensures ∙ cc), refl, refl)

pub returns-clause-came : goal.returns-clause-came
returns-clause-came c =
    let s : State = state_of c.args.m.now c.args.f.now.pages in
    let asks : ask_of s ≡ Some c.in-Some.due = sym c.in_ok-due.ensures ∙ cc in
    asked_due c.args.rec.now s c.in-Some.due c.in-Some-entry_at.entry.now asks (sym c.entry_at.ensures ∙ ap option_copied c.in-Some-entry_at.is) (sym c.first_difference.ensures ∙ cc) ∙ ap (λ (t : State). Goes t) (sym c.in_ok-apply.ensures.state)
