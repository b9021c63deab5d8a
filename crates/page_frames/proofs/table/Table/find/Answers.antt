use Rattle.std.proofs.Common.{◌≡◌, ◌%◌, arith, sym, Some, subst, slice_get}
use Rattle.std.specs.Prelude.{Option, ℕ, slice_index_or}
use Rattle.page_frames.specs.declared.frame.Frame.{Frame}
use Rattle.page_frames.specs.Linked.{IsTable}
use Rattle.page_frames.specs.declared.table.Table.{Table}
use Rattle.page_frames.proofs.Tables.{Stands, stands-first, stands-next, stands-here, next_lower, read_at}
use Rattle.page_frames.proofs.table.Table.find.Goals as goal

at_some : (t : Table) (page i : ℕ) (at : Option ℕ) → at ≡ Some i
    → Stands t.frames.items t.used page at → Stands t.frames.items t.used page (Some i)
at_some t page i at is stands = subst (Stands t.frames.items t.used page) is stands

read : (t : Table) (page i : ℕ) (at : Option ℕ) (f : Frame) → IsTable t → at ≡ Some i
    → Stands t.frames.items t.used page at → f ≡ slice_index_or t.frames.items i f
    → slice_get t.frames.items i ≡ Some f
read t page i at f is here stands at_index =
    let stands_here = at_some t page i at here stands in
    read_at t i f is (omega (arith, stands_here.within)) at_index

pub loop-at-init : goal.loop-at-init
loop-at-init c =
    let first = c.requires.heads (c.args.page % 4096) (omega arith) in
    stands-first c.args.self.now.frames.items c.args.self.now.used c.args.page _ first

pub returns-then-frame-page-clause-index : goal.returns-then-frame-page-clause-index
returns-then-frame-page-clause-index c =
    let t = c.args.self.now in
    let at = read t c.args.page c.in-Some.index c.loop-at.at c.index-frame.result.now c.requires c.in-Some.is c.loop-at.invariant c.index-frame.ensures in
    sym (stands-here t.frames.items t.used c.args.page c.in-Some.index c.index-frame.result.now
    (at_some t c.args.page c.in-Some.index c.loop-at.at c.in-Some.is c.loop-at.invariant) at c.if-frame-page.true)

pub loop-at-smaller : goal.loop-at-smaller
loop-at-smaller c =
    let t = c.args.self.now in
    let at = read t c.args.page c.in-Some.index c.loop-at.at c.index-frame.result.now c.requires c.in-Some.is c.loop-at.invariant c.index-frame.ensures in
    rw c.in-Some.is (next_lower t c.args.page c.in-Some.index c.index-frame.result.now c.requires
    (at_some t c.args.page c.in-Some.index c.loop-at.at c.in-Some.is c.loop-at.invariant) at)

pub loop-at-preserved : goal.loop-at-preserved
loop-at-preserved c =
    let t = c.args.self.now in
    let at = read t c.args.page c.in-Some.index c.loop-at.at c.index-frame.result.now c.requires c.in-Some.is c.loop-at.invariant c.index-frame.ensures in
    stands-next t c.args.page c.in-Some.index c.index-frame.result.now c.requires
    (at_some t c.args.page c.in-Some.index c.loop-at.at c.in-Some.is c.loop-at.invariant) at c.if-frame-page.false
