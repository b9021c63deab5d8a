use Rattle.std.proofs.Common.{◌∙◌, ap, rules, ◌<◌, ◌/◌, refl, arith}
use Rattle.std.specs.List.{All}
use Rattle.std.specs.Vec.{with_item}
use Rattle.std.proofs.lemmas.List.Elements.{All-from_get_or}
use Rattle.page_frames.specs.declared.frames.Frames.TheInside.{Inside}
use Rattle.page_frames.specs.MarkedPages.{with_bytes}
use Rattle.page_frames.proofs.Kept.{room_for, below}
use Rattle.page_frames.proofs.Changes.{frame-read}
use Rattle.page_frames.proofs.Changed.{IsRewritten-marked, AreFields-written, view-written}
use Rattle.page_frames.proofs.Mapped.{no_index}
use Rattle.page_frames.proofs.frames.Frames.copy_into_page.Goals as goal

pub unreachable-requires : goal.unreachable-requires
unreachable-requires c = no_index c.self.inside c.args.self.now _ c.self.view_is c.in_default.ensures.index c.requires.mapped

pub mark-requires : goal.mark-requires
mark-requires c =
    let t = c.self.inside.table in
    rw c.copy_in.ensures.place (room_for c.self.inside c.self.invariant (c.args.addr / 4096) c.index_mut-frame.result.now
    (frame-read t (c.args.addr / 4096) c.in-Some.index c.index_mut-frame.result.now c.self.invariant.table c.in-Some.ensures.index c.index_mut-frame.ensures.value))

pub invariant_of-self : goal.invariant_of-self
invariant_of-self c =
    let page = c.args.addr / 4096 in
    let bytes : All (λ b. b < 256) c.args.bytes.now = All-from_get_or (λ b. b < 256) c.args.bytes.now 0 (λ i within. let fits = c.type_inv.bytes i in search rules) in
    AreFields-written c.self.inside _ c.args.addr c.in-Some.index c.args.bytes.now c.index_mut-frame.result.now c.mark.new.self c.self.invariant
    (IsRewritten-marked c.self.inside _ page c.in-Some.index c.index_mut-frame.result.now c.copy_in.new.self c.mark.new.self c.self.invariant
    c.in-Some.ensures.index c.index_mut-frame.ensures.value refl c.copy_in.ensures.page c.copy_in.ensures.next c.copy_in.ensures.place c.mark.ensures.page c.mark.ensures.next c.mark.ensures.marks c.mark.ensures.room)
    (c.mark.ensures.bytes ∙ c.copy_in.ensures.bytes) bytes

pub returns-clause-bytes : goal.returns-clause-bytes
returns-clause-bytes c =
    let page = c.args.addr / 4096 in
    let t = c.self.inside.table in
    let after : Inside = record { table = record t { frames = with_item t.frames c.in-Some.index c.mark.new.self }; dirty = c.mark.new.dirty } in
    view-written c.self.inside after c.args.addr c.in-Some.index c.args.bytes.now c.index_mut-frame.result.now c.mark.new.self c.self.invariant
    (IsRewritten-marked c.self.inside after page c.in-Some.index c.index_mut-frame.result.now c.copy_in.new.self c.mark.new.self c.self.invariant
    c.in-Some.ensures.index c.index_mut-frame.ensures.value refl c.copy_in.ensures.page c.copy_in.ensures.next c.copy_in.ensures.place c.mark.ensures.page c.mark.ensures.next c.mark.ensures.marks c.mark.ensures.room)
    (c.mark.ensures.bytes ∙ c.copy_in.ensures.bytes) c.requires.some c.requires.within
    ∙ ap (λ m. with_bytes m c.args.addr c.args.bytes.now) c.self.view_is

pub returns-clause-address : goal.returns-clause-address
returns-clause-address c =
    let page = c.args.addr / 4096 in
    let low = below c.self.inside.table page c.self.invariant.table
    (rw (← frame-read c.self.inside.table page c.in-Some.index c.index_mut-frame.result.now c.self.invariant.table c.in-Some.ensures.index c.index_mut-frame.ensures.value) refl) in
    omega (arith, low)
