use Rattle.std.proofs.Common.{◌≡◌, ℕ, ◌<◌, vec_len, ◌+◌, ◌%◌, refl, arith, subst, None, Some, slice_set}
use Rattle.std.specs.Prelude.{slice_index_or}
use Rattle.std.specs.Vec.{with_item}
use Rattle.page_frames.specs.declared.frame.Frame.{Frame}
use Rattle.page_frames.specs.declared.table.Table.{Table}
use Rattle.page_frames.specs.Linked.{Puts}
use Rattle.page_frames.proofs.Changes.{IsAdded, IsTable-added, Puts-added}
use Rattle.page_frames.proofs.table.Table.add.Goals as goal

added : (t : Table) (page : ℕ) (new : Frame) → new.page ≡ page
    → new.next ≡ slice_index_or t.heads (page % 4096) None → t.used < vec_len t.frames
    → IsAdded t page new (record {
      heads = slice_set t.heads (page % 4096) (Some t.used);
      frames = with_item t.frames t.used new;
      used = t.used + 1;
    })
added t page new number next spare = record {
  frames = refl;
  heads = refl;
  used = omega arith;
  number = number;
  next = next;
  spare = omega (arith, t.frames.ok.0);
}

pub returns-clause-table : goal.returns-clause-table
returns-clause-table c =
    let t = c.args.self.now in
    let new = c.fill.new.self in
    IsTable-added t _ c.args.page new
    (added t c.args.page new c.fill.ensures.page c.fill.ensures.next c.requires.spare)
    c.requires.table c.requires.new (rw c.fill.ensures.bytes c.requires.whole) c.requires.below c.requires.few

pub returns-clause-puts : goal.returns-clause-puts
returns-clause-puts c =
    let t = c.args.self.now in
    let new = c.fill.new.self in
    let next = slice_index_or t.heads (c.args.page % 4096) None in
    let is : new ≡ record { bytes = c.args.bytes.now; page = c.args.page; next = next; place = c.args.place } = λ i. record {
      bytes = c.fill.ensures.bytes i;
      page = c.fill.ensures.page i;
      next = c.fill.ensures.next i;
      place = c.fill.ensures.place i;
    } in
    let filled = added t c.args.page new c.fill.ensures.page c.fill.ensures.next c.requires.spare in
    let after : Table = record {
      heads = slice_set t.heads (c.args.page % 4096) (Some t.used);
      frames = with_item t.frames t.used new;
      used = t.used + 1;
    } in
    subst (λ (f : Frame). Puts t c.args.page f after) is (Puts-added t after c.args.page new filled)
