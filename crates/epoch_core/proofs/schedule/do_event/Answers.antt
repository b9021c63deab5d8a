use Rattle.std.proofs.Common.{ℕ, ◌≡◌, Some, sym, ap, subst, ◌∙◌}
use Rattle.std.specs.List.{slice_get}
use Rattle.epoch_core.specs.Schedule.{after}
use Rattle.epoch_core.proofs.Steps.{finish_none, finish_is}
use Rattle.epoch_core.proofs.schedule.do_event.Goals as goal

pub returns-in-Claim-clause-after : goal.returns-in-Claim-clause-after
unfolding after
returns-in-Claim-clause-after g c = rw (c.in-Claim.is, c.requires.epochs) c.claim.ensures

pub returns-in_ok-finish-in-Finish-clause-after : goal.returns-in_ok-finish-in-Finish-clause-after
unfolding after
returns-in_ok-finish-in-Finish-clause-after g c =
    let post = c.in_ok-post-in-Finish.post in
    let values = g.R.Runs.values c.args.runs.now in
    let P : ℕ → Type 0 = λ k. slice_get values k ≡ Some post.value in
    let own : P post.epoch = subst P (sym c.in_ok-post-in-Finish.ensures.epoch) c.in_ok-post-in-Finish.ensures.value in
    let held = sym c.held.ensures ∙ c.in-Some.is ∙ ap Some (sym c.in_ok-post-in-Finish.ensures.epoch) in
    rw (c.in-Finish.is, finish_is values c.args.machine.now c.in-Finish.worker post held own) c.in_ok-finish-in-Finish.ensures.ok

pub returns-in_default-clause-after : goal.returns-in_default-clause-after
unfolding after
returns-in_default-clause-after g c =
    rw (c.in-Finish.is) (sym (finish_none (g.R.Runs.values c.args.runs.now) c.args.machine.now c.in-Finish.worker (sym c.held.ensures ∙ c.in_default.is)))

pub returns-in_ok-skip-in-Skip-clause-after : goal.returns-in_ok-skip-in-Skip-clause-after
unfolding after
returns-in_ok-skip-in-Skip-clause-after g c = rw (c.in-Skip.is) c.in_ok-skip-in-Skip.ensures.ok

pub returns-in-Leave-clause-after : goal.returns-in-Leave-clause-after
unfolding after
returns-in-Leave-clause-after g c = rw (c.in-Leave.is, c.requires.epochs) c.leave.ensures
