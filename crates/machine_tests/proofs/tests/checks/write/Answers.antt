use Rattle.std.proofs.Common.{true, sym, subst, ◌∙◌}
use Rattle.std.specs.Prelude.{IsSome}
use Rattle.std.specs.FinMap.{get}
use Rattle.sl_model.specs.Marks.{MarksGoOn}
use Rattle.sl_model.proofs.MarksLaws.{MarksGoOn-same}
use Rattle.sl_model.proofs.PagesLaws.{is_some-set_bytes}
use Rattle.page_frames.specs.MarkedPages.{MarkedPages}
use Rattle.page_frames.proofs.Marking.{mark_bytes-goes_on}
use Rattle.machine_tests.proofs.tests.checks.write.Goals as goal

pub returns-then-not-is_mapped-clause-goes_on : goal.returns-then-not-is_mapped-clause-goes_on
returns-then-not-is_mapped-clause-goes_on c = MarksGoOn-same true c.args.frames.now.pages c.args.frames.now.dirty

pub returns-clause-pages : goal.returns-clause-pages
returns-clause-pages c = λ page some.
    sym (is_some-set_bytes c.args.frames.now.pages c.args.address c.args.bytes.now page)
    ∙ subst (λ (m : MarkedPages). IsSome (get m.pages page)) c.copy_in.ensures some

pub returns-clause-goes_on : goal.returns-clause-goes_on
returns-clause-goes_on c =
    let old = c.args.frames.now in
    subst (λ (m : MarkedPages). MarksGoOn true old.pages old.dirty m.pages m.dirty) (sym c.copy_in.ensures)
    (mark_bytes-goes_on old.pages old.dirty c.args.address c.args.bytes.now)
