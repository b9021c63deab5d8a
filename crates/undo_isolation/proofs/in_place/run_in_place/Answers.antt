use Rattle.std.proofs.Common.{◌≡◌, ◌-◌, take, ap, ◌∙◌}
use Rattle.sl_model.specs.State.{State}
use Rattle.rv_machine.specs.Machine.{state_of}
use Rattle.undo_isolation.proofs.Meant.{IsMeant-ran}
use Rattle.undo_isolation.proofs.Readied.{IsMadeFrom-code}
use Rattle.undo_isolation.proofs.Restored.{few_entries, few_words, restored, marks-cut, same_memory, RanAt-read}
use Rattle.undo_isolation.proofs.in_place.run_in_place.Goals as goal

pub read_words-requires-clause-few : goal.read_words-requires-clause-few
read_words-requires-clause-few g c =
    let ran = c.run_tracer.ensures in
    few_words c.args.code.now.words (state_of c.args.m.now c.args.f.now.pages) c.run_tracer.new.bank c.run_tracer.new.f.pages ran.areas ran.pages ran.ended.contained

pub undo-requires-clause-few : goal.undo-requires-clause-few
undo-requires-clause-few g c =
    let ran = c.run_tracer.ensures in
    few_entries c.args.code.now.words (state_of c.args.m.now c.args.f.now.pages) c.run_tracer.new.bank c.run_tracer.new.f.pages ran.areas ran.pages ran.ended.contained

pub returns-clause-ran : goal.returns-clause-ran
returns-clause-ran g c =
    let ran = c.run_tracer.ensures in
    RanAt-read c.args.code.now c.args.point (state_of c.args.m.now c.args.f.now.pages) c.run_tracer.new.m c.run_tracer.new.bank c.run_tracer.new.f.pages c.begin.new.self c.read_words.new.rec c.outcome_of.result c.undo.new.bank.last_log_len c.args.steps.now c.run_tracer.new.steps
    ran.areas ran.pages ran.ended c.outcome_of.ensures c.begin.ensures c.read_words.ensures c.undo.ensures.last

pub returns-clause-meant : goal.returns-clause-meant
returns-clause-meant g c = λ script stands.
    let ran = c.run_tracer.ensures in
    IsMeant-ran c.args.code.now script c.args.point (state_of c.args.m.now c.args.f.now.pages) c.read_words.new.rec c.undo.new.bank.last_log_len (c.run_tracer.new.steps - c.args.steps.now) stands ran.observed c.requires.point
    (RanAt-read c.args.code.now c.args.point (state_of c.args.m.now c.args.f.now.pages) c.run_tracer.new.m c.run_tracer.new.bank c.run_tracer.new.f.pages c.begin.new.self c.read_words.new.rec c.outcome_of.result c.undo.new.bank.last_log_len c.args.steps.now c.run_tracer.new.steps
    ran.areas ran.pages ran.ended c.outcome_of.ensures c.begin.ensures c.read_words.ensures c.undo.ensures.last)

pub returns-clause-memory : goal.returns-clause-memory
returns-clause-memory g c =
    let ran = c.run_tracer.ensures in
    let s : State = state_of c.args.m.now c.args.f.now.pages in
    let pages : c.undo.new.f.pages ≡ c.args.f.now.pages =
    c.undo.ensures.pages ∙ restored c.args.code.now.words s c.run_tracer.new.bank c.run_tracer.new.f.pages ran.pages ran.observed.pages_below ran.ended.contained in
    let dirty : c.undo.new.f.dirty ≡ c.args.f.now.dirty =
    c.undo.ensures.marks ∙ ap (λ n. take n c.run_tracer.new.f.dirty) c.dirty_len-marked.ensures.count ∙ marks-cut c.args.f.now.dirty c.run_tracer.new.f.dirty ran.marks.0 ran.marks.1 in
    same_memory c.undo.new.f c.args.f.now pages dirty

pub returns-clause-made : goal.returns-clause-made
returns-clause-made g c =
    IsMadeFrom-code c.args.code.now.words c.run_tracer.new.bank c.undo.new.bank c.run_tracer.ensures.areas c.undo.ensures.areas c.undo.ensures.code c.run_tracer.ensures.made
