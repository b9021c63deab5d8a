use Rattle.std.proofs.Common.{ℕ, ◌≡◌, ◌+◌, ◌<◌, ◌≤◌, List, length, drop, get_or, refl, sym, ap, subst, ◌∙◌, arith}
use Rattle.std.proofs.lemmas.Result.{IfOk-weaker}
use Rattle.epoch_core.specs.declared.event.CoreEvent.TheVariants.{Claim}
use Rattle.epoch_core.specs.declared.post.Post.{Post}
use Rattle.epoch_core.specs.declared.post.PostValue.{PostValue}
use Rattle.epoch_core.specs.Posts.{Posted}
use Rattle.epoch_core.specs.Schedule.{CoreState, start, after, run_events, trays_of, all_posts, HoldsEpochs}
use Rattle.epoch_core.proofs.Sound.{Sound, start_sound, after_sound, holds_epochs, whole_after}
use Rattle.epoch_core.proofs.Steps.{run_events-drop_more, run_events-drop_all}
use Rattle.epoch_core.proofs.schedule.run_schedule.Goals as goal

pub loop-event-init : goal.loop-event-init
loop-event-init g c =
    let values = g.R.Runs.values c.args.runs.now in
    record {
      same = refl;
      sound = subst (Sound values) (sym c.in_ok-machine.ensures) (start_sound values c.args.workers);
      rest = ap (λ (core : CoreState). run_events values core c.args.events.now) c.in_ok-machine.ensures;
    }

pub do_event-requires-clause-held : goal.do_event-requires-clause-held
do_event-requires-clause-held g c =
    subst (λ (n : ℕ). HoldsEpochs n c.loop-event.machine) c.requires
    (holds_epochs (g.R.Runs.values c.args.runs.now) c.loop-event.machine c.loop-event.invariant.sound)

pub loop-event-preserved : goal.loop-event-preserved
loop-event-preserved g c =
    let values = g.R.Runs.values c.args.runs.now in
    let events = c.args.events.now in
    let i = c.loop-event.event-index in
    let core = c.loop-event.machine in
    let event = get_or events i (Claim 0) in
    let more : i < length events = omega arith in
    let moved : c.do_event.new.machine ≡ after values core event =
    c.in_ok-do_event.ensures.after ∙ ap (λ (vs : List PostValue). after vs core event) c.loop-event.invariant.same in
    record {
      same = c.in_ok-do_event.ensures.values ∙ c.loop-event.invariant.same;
      sound = subst (Sound values) (sym moved) (after_sound values core event c.loop-event.invariant.sound);
      rest = ap (λ (m : CoreState). run_events values m (drop (i + 1) events)) moved
          ∙ run_events-drop_more values core events i (Claim 0) more
          ∙ c.loop-event.invariant.rest;
    }

pub returns-clause-trays : goal.returns-clause-trays
returns-clause-trays g c =
    let values = g.R.Runs.values c.args.runs.now in
    let ended : c.loop-event.machine ≡ run_events values (start c.args.workers) c.args.events.now =
    sym (run_events-drop_all values c.loop-event.machine c.args.events.now c.loop-event.event-index c.loop-event-test.false) ∙ c.loop-event.invariant.rest in
    IfOk-weaker c.into_trays.result _ _ (λ trays is. is ∙ ap trays_of ended) c.into_trays.ensures

pub returns-clause-posted : goal.returns-clause-posted
returns-clause-posted g c =
    let values = g.R.Runs.values c.args.runs.now in
    let last = run_events values (start c.args.workers) c.args.events.now in
    let ended : c.loop-event.machine ≡ last =
    sym (run_events-drop_all values c.loop-event.machine c.args.events.now c.loop-event.event-index c.loop-event-test.false) ∙ c.loop-event.invariant.rest in
    IfOk-weaker c.into_trays.result _ _ (λ trays is none all.
    let enough : length values ≤ last.next = omega (arith, all, c.requires) in
    subst (λ (ts : List (List Post)). Posted values (all_posts ts)) (sym (is ∙ ap trays_of ended))
    (whole_after values c.args.workers c.args.events.now none enough)) c.into_trays.ensures
