use Rattle.std.proofs.Common.{◌+◌, ◌%◌, ◌<◌, ◌≤◌, ◌∙◌, ap, sym, arith, refl, length}
use Rattle.sl_model.specs.Pages.{low_bytes}
use Rattle.sl_model.proofs.PagesLaws.{length-low_bytes, All-low_bytes}
use Rattle.page_frames.specs.MarkedPages.{with_bytes}
use Rattle.tree_frames.proofs.Kept.{room_for}
use Rattle.tree_frames.proofs.Changed.{AreFields-written, view-written}
use Rattle.tree_frames.proofs.Mapped.{is_some-here}
use Rattle.tree_frames.proofs.frames.TreeFrames.put.Goals as goal

pub returns-in_default-clause-mapped : goal.returns-in_default-clause-mapped
returns-in_default-clause-mapped c =
    let some : 0 < c.args.width = grind arith in
    sym (is_some-here c.self.inside c.args.self.now c.args.addr c.args.width c.self.invariant c.self.view_is some (omega arith) ∙ rw (← c.in_default.ensures.value) refl)

pub mark-requires : goal.mark-requires
mark-requires c = rw c.store.ensures.place (room_for c.self.inside c.self.invariant _ c.in-Some.frame.now c.in-Some.ensures.value)

pub invariant_of-self-2 : goal.invariant_of-self-2
invariant_of-self-2 c =
    AreFields-written c.self.inside _ c.args.addr (low_bytes c.args.width c.args.value) c.in-Some.frame.now c.mark.new.self c.self.invariant c.in-Some.ensures.value
    (c.get_mut.follows.holds c.mark.new.self) (rw (← c.store.ensures.place) c.mark.ensures.marks) (c.mark.ensures.bytes ∙ c.store.ensures.bytes) (All-low_bytes c.args.width c.args.value) c.mark.ensures.room

pub returns-clause-mapped : goal.returns-clause-mapped
returns-clause-mapped c =
    let some : 0 < c.args.width = grind arith in
    sym (is_some-here c.self.inside c.args.self.now c.args.addr c.args.width c.self.invariant c.self.view_is some (omega arith) ∙ rw (← c.in-Some.ensures.value) refl)

pub returns-clause-contents : goal.returns-clause-contents
returns-clause-contents c =
    let some : 0 < length (low_bytes c.args.width c.args.value) = rw (length-low_bytes c.args.width c.args.value) (grind arith) in
    let within : c.args.addr % 4096 + length (low_bytes c.args.width c.args.value) ≤ 4096 = omega (arith, length-low_bytes c.args.width c.args.value) in
    view-written c.self.inside (record { frames = c.get_mut.follows.lender c.mark.new.self; dirty = c.mark.new.dirty }) c.args.addr (low_bytes c.args.width c.args.value) c.in-Some.frame.now c.mark.new.self
    c.self.invariant c.in-Some.ensures.value (c.get_mut.follows.holds c.mark.new.self) (rw (← c.store.ensures.place) c.mark.ensures.marks) (c.mark.ensures.bytes ∙ c.store.ensures.bytes) some within
    ∙ ap (λ m. with_bytes m c.args.addr (low_bytes c.args.width c.args.value)) c.self.view_is
