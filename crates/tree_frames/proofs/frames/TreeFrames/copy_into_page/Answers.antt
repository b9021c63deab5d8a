use Rattle.std.proofs.Common.{◌∙◌, ap, rules, ◌<◌}
use Rattle.std.specs.List.{All}
use Rattle.std.proofs.lemmas.List.Elements.{All-from_get_or}
use Rattle.page_frames.specs.MarkedPages.{with_bytes}
use Rattle.tree_frames.proofs.Kept.{room_for, has_frame}
use Rattle.tree_frames.proofs.Changed.{AreFields-written, view-written}
use Rattle.tree_frames.proofs.frames.TreeFrames.copy_into_page.Goals as goal

pub unreachable-requires : goal.unreachable-requires
unreachable-requires c = has_frame c.self.inside c.args.self.now _ c.self.view_is c.in_default.ensures.value c.requires.mapped

pub mark-requires : goal.mark-requires
mark-requires c = rw c.copy_in.ensures.place (room_for c.self.inside c.self.invariant _ c.in-Some.frame.now c.in-Some.ensures.value)

pub invariant_of-self : goal.invariant_of-self
invariant_of-self c =
    let bytes : All (λ b. b < 256) c.args.bytes.now = All-from_get_or (λ b. b < 256) c.args.bytes.now 0 (λ i within. let fits = c.type_inv.bytes i in search rules) in
    AreFields-written c.self.inside _ c.args.addr c.args.bytes.now c.in-Some.frame.now c.mark.new.self c.self.invariant
    c.in-Some.ensures.value (c.get_mut.follows.holds c.mark.new.self) (rw (← c.copy_in.ensures.place) c.mark.ensures.marks) (c.mark.ensures.bytes ∙ c.copy_in.ensures.bytes) bytes c.mark.ensures.room

pub returns-clause-bytes : goal.returns-clause-bytes
returns-clause-bytes c =
    view-written c.self.inside (record { frames = c.get_mut.follows.lender c.mark.new.self; dirty = c.mark.new.dirty }) c.args.addr c.args.bytes.now c.in-Some.frame.now c.mark.new.self c.self.invariant
    c.in-Some.ensures.value (c.get_mut.follows.holds c.mark.new.self) (rw (← c.copy_in.ensures.place) c.mark.ensures.marks) (c.mark.ensures.bytes ∙ c.copy_in.ensures.bytes) c.requires.some c.requires.within
    ∙ ap (λ m. with_bytes m c.args.addr c.args.bytes.now) c.self.view_is
