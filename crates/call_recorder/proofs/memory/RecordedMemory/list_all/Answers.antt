use Rattle.std.proofs.Common.{ap, sym, ◌∙◌, arith}
use Rattle.std.specs.Prelude.{if◌then◌else◌, ◌==◌}
use Rattle.rec_format.proofs.Listed.{last_listing-more}
use Rattle.call_recorder.specs.Kept.{recorded_in}
use Rattle.call_recorder.proofs.memory.RecordedMemory.list_all.Goals as goal

pub loop-page-preserved : goal.loop-page-preserved
loop-page-preserved c = λ q.
    let page = c.page-item.result in
    c.in_ok-list.ensures q
    ∙ ap (λ bytes. if page.number == q then page.bytes else bytes) (c.loop-page.invariant q)
    ∙ sym (last_listing-more (recorded_in c.args.self.now q) c.args.pages.now c.loop-page.page-index q page c.loop-page-test.true c.page-item.is)
