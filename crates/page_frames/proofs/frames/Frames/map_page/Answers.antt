use Rattle.std.proofs.Common.{◌≡◌, ◌≤◌, ◌<◌, ◌∙◌, sym, ap, arith, length, Some, rules}
use Rattle.std.specs.Prelude.{is_some}
use Rattle.std.specs.FinMap as map
use Rattle.sl_model.specs.declared.layout.TheConstants.{MOST_PAGES}
use Rattle.sl_model.proofs.Mapping.{IsPage-zeros}
use Rattle.page_frames.specs.declared.frames.Frames.TheInside.{Inside}
use Rattle.page_frames.specs.Fields.{marked_pages_of}
use Rattle.page_frames.specs.Linked.{pages_of}
use Rattle.page_frames.proofs.Kept.{length-le-frames, mapped}
use Rattle.page_frames.proofs.Changes.{IsTable-grown, frame_of-grown, len-pages_of}
use Rattle.page_frames.proofs.Mapped.{with_page-mapped, AreFields-grown, view-grown, AreFields-mapped, len-with_page, view-mapped, no_frame, is_some-index}
use Rattle.page_frames.proofs.frames.Frames.map_page.Goals as goal

pub returns-then-is_some-clause-ok : goal.returns-then-is_some-clause-ok
returns-then-is_some-clause-ok c =
    with_page-mapped c.self.inside c.args.self.now c.args.page c.self.view_is
    (sym (is_some-index c.self.inside.table c.args.page) ∙ ap is_some (sym c.find.ensures.index) ∙ sym c.if-is_some.ensures)

pub overflow_sub-self-inside : goal.overflow_sub-self-inside
overflow_sub-self-inside c =
    let few : length c.self.inside.dirty.items ≤ c.self.inside.table.used = length-le-frames c.self.invariant.places c.self.inside.table (mapped c.self.inside.table) in
    omega (arith, c.self.inside.dirty.ok.0, c.len-place.ensures)

pub invariant_of-self-in_err-make_spare : goal.invariant_of-self-in_err-make_spare
invariant_of-self-in_err-make_spare c =
    let after : Inside = record { table = c.make_spare.new.self; dirty = c.reserve.new.self } in
    AreFields-grown c.self.inside after c.self.invariant c.make_spare.ensures.grown c.reserve.ensures.items c.reserve.ensures.capacity

pub returns-in_err-make_spare-clause-one_more : goal.returns-in_err-make_spare-clause-one_more
returns-in_err-make_spare-clause-one_more c =
    let after : Inside = record { table = c.make_spare.new.self; dirty = c.reserve.new.self } in
    let same = view-grown c.self.inside after c.self.invariant c.make_spare.ensures.grown c.reserve.ensures.items ∙ c.self.view_is in
    omega (arith, ap (λ m. map.len m.pages) same)

pub returns-in_err-make_spare-clause-err : goal.returns-in_err-make_spare-clause-err
returns-in_err-make_spare-clause-err c =
    let after : Inside = record { table = c.make_spare.new.self; dirty = c.reserve.new.self } in
    let same : marked_pages_of after ≡ c.args.self.now = view-grown c.self.inside after c.self.invariant c.make_spare.ensures.grown c.reserve.ensures.items ∙ c.self.view_is in
    search (rules, same)

pub add-requires-clause-table : goal.add-requires-clause-table
add-requires-clause-table c = IsTable-grown c.self.inside.table _ c.make_spare.ensures.grown c.self.invariant.table

pub add-requires-clause-few : goal.add-requires-clause-few
add-requires-clause-few c =
    let room : map.len (pages_of c.self.inside.table) < MOST_PAGES = rw (← c.self.view_is) at c.requires.few in
    omega (arith, len-pages_of c.self.inside.table c.self.invariant.table, c.make_spare.ensures.grown.used)

pub add-requires-clause-new : goal.add-requires-clause-new
add-requires-clause-new c =
    frame_of-grown c.self.inside.table _ c.make_spare.ensures.grown c.self.invariant.table c.args.page
    ∙ sym (no_frame c.self.inside.table c.args.page (ap is_some (sym c.find.ensures.index) ∙ sym c.if-is_some.ensures))

pub add-requires-clause-whole : goal.add-requires-clause-whole
add-requires-clause-whole c = rw c.zeros.ensures IsPage-zeros

pub push_reserved-requires : goal.push_reserved-requires
push_reserved-requires c =
    let few : length c.self.inside.dirty.items ≤ c.self.inside.table.used = length-le-frames c.self.invariant.places c.self.inside.table (mapped c.self.inside.table) in
    omega (arith, few, c.self.inside.dirty.ok.0, c.len-place.ensures, c.in_ok-reserve.ensures.ok, c.reserve.ensures.len)

pub invariant_of-self-2 : goal.invariant_of-self-2
invariant_of-self-2 c =
    let t = c.self.inside.table in
    let few : length c.self.inside.dirty.items ≤ t.used = length-le-frames c.self.invariant.places t (mapped t) in
    let before : Inside = record { table = c.make_spare.new.self; dirty = c.reserve.new.self } in
    let after : Inside = record { table = c.add.new.self; dirty = c.push_reserved.new.self } in
    let are = AreFields-grown c.self.inside before c.self.invariant c.make_spare.ensures.grown c.reserve.ensures.items c.reserve.ensures.capacity in
    AreFields-mapped before after c.args.page _ are c.add.ensures.table c.add.ensures.puts (sym (frame_of-grown t _ c.make_spare.ensures.grown c.self.invariant.table c.args.page
    ∙ sym (no_frame t c.args.page (ap is_some (sym c.find.ensures.index) ∙ sym c.if-is_some.ensures))))
    (ap Some (c.len-place.ensures ∙ c.self.inside.dirty.ok.0 ∙ ap length (sym c.reserve.ensures.items)))
    c.push_reserved.ensures.items
    (omega (arith, few, c.self.inside.dirty.ok.0, c.len-place.ensures, c.in_ok-reserve.ensures.ok, c.reserve.ensures.len, c.push_reserved.ensures.capacity, c.add.ensures.used, c.make_spare.ensures.grown.used))

pub returns-clause-ok : goal.returns-clause-ok
returns-clause-ok c =
    let t = c.self.inside.table in
    let before : Inside = record { table = c.make_spare.new.self; dirty = c.reserve.new.self } in
    let after : Inside = record { table = c.add.new.self; dirty = c.push_reserved.new.self } in
    let same : marked_pages_of before ≡ c.args.self.now = view-grown c.self.inside before c.self.invariant c.make_spare.ensures.grown c.reserve.ensures.items ∙ c.self.view_is in
    view-mapped before after c.args.self.now c.args.page _ same c.add.ensures.puts (sym (frame_of-grown t _ c.make_spare.ensures.grown c.self.invariant.table c.args.page
    ∙ sym (no_frame t c.args.page (ap is_some (sym c.find.ensures.index) ∙ sym c.if-is_some.ensures)))) c.zeros.ensures c.push_reserved.ensures.items

pub returns-clause-one_more : goal.returns-clause-one_more
returns-clause-one_more c =
    let after : Inside = record { table = c.add.new.self; dirty = c.push_reserved.new.self } in
    len-with_page c.args.self.now (marked_pages_of after) c.args.page (returns-clause-ok c)
