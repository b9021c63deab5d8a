use Rattle.std.proofs.Common.{◌+◌, ◌/◌, ◌%◌, ◌<◌, ◌≤◌, ◌∙◌, ap, sym, arith, refl, length}
use Rattle.std.specs.Vec.{with_item}
use Rattle.sl_model.specs.Pages.{low_bytes}
use Rattle.sl_model.proofs.PagesLaws.{length-low_bytes, All-low_bytes}
use Rattle.page_frames.specs.declared.frames.Frames.TheInside.{Inside}
use Rattle.page_frames.specs.MarkedPages.{with_bytes}
use Rattle.page_frames.proofs.Kept.{room_for}
use Rattle.page_frames.proofs.Changes.{frame-read}
use Rattle.page_frames.proofs.Changed.{IsRewritten-marked, AreFields-written, view-written}
use Rattle.page_frames.proofs.Mapped.{is_some-here, is_some-index}
use Rattle.page_frames.proofs.frames.Frames.put.Goals as goal

pub returns-in_default-clause-mapped : goal.returns-in_default-clause-mapped
returns-in_default-clause-mapped c =
    let some : 0 < c.args.width = grind arith in
    sym (is_some-here c.self.inside c.args.self.now c.args.addr c.args.width c.self.invariant c.self.view_is some (omega arith)
    ∙ sym (is_some-index c.self.inside.table (c.args.addr / 4096)) ∙ rw (← c.in_default.ensures.index) refl)

pub mark-requires : goal.mark-requires
mark-requires c =
    let t = c.self.inside.table in
    rw c.store.ensures.place (room_for c.self.inside c.self.invariant (c.args.addr / 4096) c.index_mut-frame.result.now
    (frame-read t (c.args.addr / 4096) c.in-Some.index c.index_mut-frame.result.now c.self.invariant.table c.in-Some.ensures.index c.index_mut-frame.ensures.value))

pub invariant_of-self : goal.invariant_of-self
invariant_of-self c =
    let page = c.args.addr / 4096 in
    AreFields-written c.self.inside _ c.args.addr c.in-Some.index (low_bytes c.args.width c.args.value) c.index_mut-frame.result.now c.mark.new.self c.self.invariant
    (IsRewritten-marked c.self.inside _ page c.in-Some.index c.index_mut-frame.result.now c.store.new.self c.mark.new.self c.self.invariant
    c.in-Some.ensures.index c.index_mut-frame.ensures.value refl c.store.ensures.page c.store.ensures.next c.store.ensures.place c.mark.ensures.page c.mark.ensures.next c.mark.ensures.marks c.mark.ensures.room)
    (c.mark.ensures.bytes ∙ c.store.ensures.bytes) (All-low_bytes c.args.width c.args.value)

pub returns-clause-mapped : goal.returns-clause-mapped
returns-clause-mapped c =
    let some : 0 < c.args.width = grind arith in
    sym (is_some-here c.self.inside c.args.self.now c.args.addr c.args.width c.self.invariant c.self.view_is some (omega arith)
    ∙ sym (is_some-index c.self.inside.table (c.args.addr / 4096)) ∙ rw (← c.in-Some.ensures.index) refl)

pub returns-clause-contents : goal.returns-clause-contents
returns-clause-contents c =
    let page = c.args.addr / 4096 in
    let bytes = low_bytes c.args.width c.args.value in
    let some : 0 < length (low_bytes c.args.width c.args.value) = rw (length-low_bytes c.args.width c.args.value) (grind arith) in
    let within : c.args.addr % 4096 + length (low_bytes c.args.width c.args.value) ≤ 4096 = omega (arith, length-low_bytes c.args.width c.args.value) in
    let t = c.self.inside.table in
    let after : Inside = record { table = record t { frames = with_item t.frames c.in-Some.index c.mark.new.self }; dirty = c.mark.new.dirty } in
    view-written c.self.inside after c.args.addr c.in-Some.index bytes c.index_mut-frame.result.now c.mark.new.self c.self.invariant
    (IsRewritten-marked c.self.inside after page c.in-Some.index c.index_mut-frame.result.now c.store.new.self c.mark.new.self c.self.invariant
    c.in-Some.ensures.index c.index_mut-frame.ensures.value refl c.store.ensures.page c.store.ensures.next c.store.ensures.place c.mark.ensures.page c.mark.ensures.next c.mark.ensures.marks c.mark.ensures.room)
    (c.mark.ensures.bytes ∙ c.store.ensures.bytes) some within
    ∙ ap (λ m. with_bytes m c.args.addr bytes) c.self.view_is
