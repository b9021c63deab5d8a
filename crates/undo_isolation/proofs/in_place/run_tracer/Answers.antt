use Rattle.std.specs.Prelude.{slice_index}
use Rattle.std.proofs.Common.{◌≡◌, ℕ, List, sym, ap, subst, ◌∙◌, arith}
use Rattle.sl_model.specs.Bank.{bank_start}
use Rattle.sl_model.specs.Pages.{Pages}
use Rattle.sl_model.specs.Runs.{EndsAfter}
use Rattle.sl_model.specs.State.{State}
use Rattle.rv_machine.specs.Machine.{state_of}
use Rattle.tracer_code.specs.Sound.{start_of}
use Rattle.undo_bank.specs.Areas.{areas_over}
use Rattle.undo_bank.proofs.BankLaws.{IsMadeFrom-kept}
use Rattle.undo_isolation.specs.Ended.{HasEnded}
use Rattle.undo_isolation.specs.Run.{CameTo}
use Rattle.undo_isolation.proofs.Readied.{Readied, readied-machine, starts-at_word, ended}
use Rattle.undo_isolation.proofs.in_place.run_tracer.Given.{Over}
use Rattle.undo_isolation.proofs.in_place.run_tracer.Goals as goal
use Rattle.undo_isolation.proofs.in_place.run_tracer.Goals.{After-run_over}

pub start_at-requires : goal.start_at-requires
start_at-requires g c =
    let s : State = state_of c.args.m.now c.args.f.now.pages in
    let ready : Readied c.args.code.now c.args.point s c.start.new.self =
    readied-machine c.args.code.now c.args.point c.args.m.now c.args.f.now c.args.bank.now c.start.new.self c.copied_words.result c.requires.sound c.requires.point c.known_machine.ensures c.requires.running c.known.ensures.pages
    c.known.ensures.areas c.requires.made c.start.ensures.kept c.start.ensures.code c.copied_words.ensures c.start.ensures.started in
    rw c.as_slice.ensures (starts-at_word c.args.code.now c.args.point s c.start.new.self ready)

pub run_over-requires-clause-running : goal.run_over-requires-clause-running
run_over-requires-clause-running g c = ap (λ (t : State). t.status) (c.start_at.ensures c.args.f.now.pages c.args.f.now.pages)

pub run_over-requires-clause-count : goal.run_over-requires-clause-count
run_over-requires-clause-count g c =
    let zero : c.start_at.new.m.count ≡ 0 = ap (λ (t : State). t.count) (c.start_at.ensures c.args.f.now.pages c.args.f.now.pages) in
    let bound = c.args.code.now.bound in
    omega arith

ready_there : (g : Over) (c : After-run_over g) → Readied c.args.code.now c.args.point (state_of c.args.m.now c.args.f.now.pages) c.start.new.self
ready_there g c =
    readied-machine c.args.code.now c.args.point c.args.m.now c.args.f.now c.args.bank.now c.start.new.self c.copied_words.result c.requires.sound c.requires.point c.known_machine.ensures c.requires.running c.known.ensures.pages
    c.known.ensures.areas c.requires.made c.start.ensures.kept c.start.ensures.code c.copied_words.ensures c.start.ensures.started

ended_there : (g : Over) (c : After-run_over g) → HasEnded c.args.code.now c.args.point (state_of c.args.m.now c.args.f.now.pages) (state_of c.run_over.new.m (areas_over c.run_over.new.bank c.run_over.new.f.pages)) c.args.steps.now c.run_over.new.steps
ended_there g c =
    let s : State = state_of c.args.m.now c.args.f.now.pages in
    let memory : Pages = areas_over c.start.new.self c.args.f.now.pages in
    let ready = ready_there g c in
    let end : State = state_of c.run_over.new.m (areas_over c.run_over.new.bank c.run_over.new.f.pages) in
    let begins : state_of c.start_at.new.m memory ≡ start_of c.args.code.now c.args.point memory s =
    c.start_at.ensures memory c.args.f.now.pages ∙ ap (λ (places : List ℕ). bank_start (slice_index places c.args.point) memory s) c.as_slice.ensures in
    let came = c.run_over.ensures.end ready.well.count ready.well.bound (subst (EndsAfter ready.well.count) (sym begins) ready.well.run.ends) in
    ended c.args.code.now c.args.point s c.start.new.self ready end c.args.steps.now c.run_over.new.steps
    (subst (λ (t : State). CameTo ready.well.count t end c.args.steps.now c.run_over.new.steps) begins came)

pub returns-clause-ended : goal.returns-clause-ended
returns-clause-ended g c = ended_there g c

pub returns-clause-made : goal.returns-clause-made
returns-clause-made g c =
    IsMadeFrom-kept c.args.code.now.words c.start.new.self c.run_over.new.bank c.run_over.new.f.pages (ready_there g c).made c.run_over.ensures.pages.below c.run_over.ensures.size (ended_there g c).contained.code
