use Rattle.std.proofs.Common.{◌-◌, ◌∙◌, ap, take, arith, refl, None}
use Rattle.tree_frames.specs.declared.frame.Frame.{Frame}
use Rattle.tree_frames.proofs.Mapped.{AreFields-unmarked, view-unmarked}
use Rattle.tree_frames.proofs.frames.TreeFrames.unmark_last.Goals as goal

pub invariant_of-self : goal.invariant_of-self
invariant_of-self c =
    let new : Frame = record { bytes = c.in-Some-get_mut.frame.now.bytes; place = None } in
    AreFields-unmarked c.self.inside _ c.in-Some.page c.in-Some-get_mut.frame.now new c.self.invariant c.in-Some-get_mut.ensures.value (c.get_mut.follows.holds new) refl refl
    c.in-Some.ensures.items (omega (arith, c.pop.ensures.capacity))

pub returns : goal.returns
returns c =
    let new : Frame = record { bytes = c.in-Some-get_mut.frame.now.bytes; place = None } in
    view-unmarked c.self.inside (record { frames = c.get_mut.follows.lender new; dirty = c.pop.new.self }) c.args.self.now c.in-Some.page c.in-Some-get_mut.frame.now new c.self.view_is
    c.in-Some-get_mut.ensures.value (c.get_mut.follows.holds new) refl
    (c.pop.ensures.rest ∙ ap (λ n. take (n - 1) c.self.inside.dirty.items) c.self.inside.dirty.ok.0)
