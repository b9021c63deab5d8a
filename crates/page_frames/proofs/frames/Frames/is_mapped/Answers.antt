use Rattle.std.proofs.Common.{◌≡◌, ◌/◌, arith, refl, sym, ◌∙◌, ap, true, false}
use Rattle.std.specs.Prelude.{is_some}
use Rattle.sl_model.specs.Pages.{bytes_at}
use Rattle.page_frames.specs.Linked.{frame_of}
use Rattle.page_frames.proofs.Mapped.{is_some-step, is_some-index}
use Rattle.page_frames.proofs.frames.Frames.is_mapped.Goals as goal

pub returns-then-is_none : goal.returns-then-is_none
returns-then-is_none c =
    let page = c.loop-left.addr / 4096 in
    let none : is_some (frame_of c.self.inside.table page) ≡ false =
    sym (is_some-index c.self.inside.table page) ∙ ap is_some (sym c.find.ensures.index)
    ∙ c.if-is_none.ensures in
    sym (sym c.loop-left.invariant.same
    ∙ is_some-step c.self.inside c.args.self.now c.loop-left.addr c.loop-left.left _ c.self.invariant
    c.self.view_is c.loop-left-test.true refl ∙ rw none refl)

pub loop-left-preserved : goal.loop-left-preserved
loop-left-preserved c =
    let page = c.loop-left.addr / 4096 in
    let some : is_some (frame_of c.self.inside.table page) ≡ true =
    sym (is_some-index c.self.inside.table page) ∙ ap is_some (sym c.find.ensures.index)
    ∙ c.if-is_none.ensures in
    record {
      same = sym (is_some-step c.self.inside c.args.self.now c.loop-left.addr c.loop-left.left
          c.in_page-count.result c.self.invariant c.self.view_is c.loop-left-test.true
          c.in_page-count.ensures ∙ rw some refl) ∙ c.loop-left.invariant.same;
      sum = omega (arith, c.in_page-count.ensures, c.loop-left.invariant.sum);
    }

pub returns : goal.returns
unfolding bytes_at
returns c =
    let none : c.loop-left.left ≡ 0 = omega arith in
    rw none at c.loop-left.invariant.same
