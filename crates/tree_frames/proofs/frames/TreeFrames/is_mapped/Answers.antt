use Rattle.std.proofs.Common.{◌≡◌, arith, refl, sym, ◌∙◌}
use Rattle.sl_model.specs.Pages.{bytes_at}
use Rattle.tree_frames.proofs.Mapped.{is_some-step}
use Rattle.tree_frames.proofs.frames.TreeFrames.is_mapped.Goals as goal

pub returns-then-not-contains_key : goal.returns-then-not-contains_key
returns-then-not-contains_key c =
    sym (sym c.loop-left.invariant.same
    ∙ is_some-step c.self.inside c.args.self.now c.loop-left.addr c.loop-left.left _ c.self.invariant c.self.view_is c.loop-left-test.true refl
    ∙ rw (← c.if-not-contains_key.ensures) refl)

pub loop-left-preserved : goal.loop-left-preserved
loop-left-preserved c = record {
  same = sym (is_some-step c.self.inside c.args.self.now c.loop-left.addr c.loop-left.left c.in_page-count.result c.self.invariant c.self.view_is c.loop-left-test.true c.in_page-count.ensures
      ∙ rw (← c.if-not-contains_key.ensures) refl) ∙ c.loop-left.invariant.same;
  sum = omega (arith, c.in_page-count.ensures, c.loop-left.invariant.sum);
}

pub returns : goal.returns
unfolding bytes_at
returns c =
    let none : c.loop-left.left ≡ 0 = omega arith in
    rw none at c.loop-left.invariant.same
