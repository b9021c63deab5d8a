use Rattle.std.proofs.Common.{◌≡◌, ◌≤◌, ◌<◌, ◌++◌, ◌∷◌, [], ◌∙◌, sym, ap, arith, length, None, Some}
use Rattle.std.specs.Ordering.{nat_cmp}
use Rattle.std.specs.BTreeMap.{get, btree_map_len}
use Rattle.std.specs.FinMap as map
use Rattle.tree_frames.specs.Fields.{marked_pages_of, pages_of}
use Rattle.sl_model.specs.declared.layout.TheConstants.{MOST_PAGES}
use Rattle.tree_frames.proofs.Kept.{length-le-frames, mapped}
use Rattle.tree_frames.proofs.Mapped.{with_page-mapped, AreFields-same, AreFields-mapped, len-with_page, view-mapped, none_found, none_or_one}
use Rattle.std.specs.Prelude.{is_some}
use Rattle.tree_frames.proofs.frames.TreeFrames.map_page.Goals as goal

pub returns-then-contains_key-clause-ok : goal.returns-then-contains_key-clause-ok
returns-then-contains_key-clause-ok c = with_page-mapped c.self.inside c.args.self.now c.args.page c.self.view_is (sym c.contains_key.ensures ∙ c.if-contains_key.true)

pub overflow_sub-len : goal.overflow_sub-len
overflow_sub-len c =
    let few : length c.self.inside.dirty.items ≤ btree_map_len c.self.inside.frames = length-le-frames c.self.invariant.places c.self.inside.frames (mapped c.self.inside.frames) in
    omega (arith, c.self.inside.dirty.ok.0, c.len.ensures.len, c.len-place.ensures)

pub invariant_of-self-in_err-insert : goal.invariant_of-self-in_err-insert
invariant_of-self-in_err-insert c = AreFields-same c.self.inside _ c.self.invariant c.in_err-insert.ensures.err c.reserve.ensures.items c.reserve.ensures.capacity

pub push_reserved-requires : goal.push_reserved-requires
push_reserved-requires c =
    let few : length c.self.inside.dirty.items ≤ btree_map_len c.self.inside.frames = length-le-frames c.self.invariant.places c.self.inside.frames (mapped c.self.inside.frames) in
    omega (arith, c.self.inside.dirty.ok.0, c.len.ensures.len, c.len-place.ensures, c.in_ok-reserve.ensures.ok, c.reserve.ensures.len)

pub invariant_of-self-2 : goal.invariant_of-self-2
invariant_of-self-2 c =
    let none : None ≡ get nat_cmp c.self.inside.frames c.args.page = none_found _ (sym c.contains_key.ensures ∙ c.if-contains_key.false) in
    let few : length c.self.inside.dirty.items ≤ btree_map_len c.self.inside.frames = length-le-frames c.self.invariant.places c.self.inside.frames (mapped c.self.inside.frames) in
    let room : map.len (pages_of c.self.inside.frames.entries) < MOST_PAGES = rw (← c.self.view_is) at c.requires.few in
    AreFields-mapped c.self.inside _ c.args.page c.zeros.result c.self.invariant c.in_ok-insert.ensures.updates none c.zeros.ensures.bytes
    (c.zeros.ensures.place ∙ ap Some (c.len-place.ensures ∙ c.self.inside.dirty.ok.0)) (c.push_reserved.ensures.items ∙ ap (λ ps. ps ++ c.args.page ∷ []) c.reserve.ensures.items) c.requires.below room
    (omega (arith, c.self.inside.dirty.ok.0, c.len.ensures.len, c.len-place.ensures, c.in_ok-reserve.ensures.ok, c.reserve.ensures.len, c.push_reserved.ensures.capacity, c.in_ok-insert.ensures.len, none_or_one (is_some c.in_ok-insert.field-0)))

pub returns-clause-ok : goal.returns-clause-ok
returns-clause-ok c =
    let none : None ≡ get nat_cmp c.self.inside.frames c.args.page = none_found _ (sym c.contains_key.ensures ∙ c.if-contains_key.false) in
    view-mapped c.self.inside (record { frames = c.insert.new.self; dirty = c.push_reserved.new.self }) c.args.self.now c.args.page c.zeros.result c.self.view_is c.in_ok-insert.ensures.updates none
    c.zeros.ensures.bytes (c.push_reserved.ensures.items ∙ ap (λ ps. ps ++ c.args.page ∷ []) c.reserve.ensures.items)

pub returns-clause-one_more : goal.returns-clause-one_more
returns-clause-one_more c = len-with_page c.args.self.now (marked_pages_of (record { frames = c.insert.new.self; dirty = c.push_reserved.new.self })) c.args.page (returns-clause-ok c)
