use Rattle.std.specs.Prelude.{slice_get, Some, None}
use Rattle.std.proofs.Common.{◌≡◌, length, sym, ◌∙◌, arith}
use Rattle.call_recorder.proofs.Walked.{Takes, comes_next, takes, takes_all}
use Rattle.call_recorder.proofs.changes.marked_numbers.Goals as goal
use Rattle.call_recorder.proofs.changes.marked_numbers.Goals.{In_ok-push}

taken : (c : In_ok-push) → Takes c.loop-page.numbers.items c.args.f.now.dirty c.push.new.self.items c.in-Some.page
taken c =
    let kept = c.loop-page.invariant in
    let numbers = c.loop-page.numbers.items in
    let dirty = c.args.f.now.dirty in
    let next : Some c.in-Some.page ≡ slice_get dirty (length numbers) = sym c.in-Some.is ∙ comes_next c.loop-page.at c.next_dirty.result dirty (length numbers) kept.last c.next_dirty.ensures.first c.next_dirty.ensures.next in
    takes numbers dirty c.push.new.self.items c.in-Some.page kept.taken next c.in_ok-push.ensures.items

pub loop-page-smaller : goal.loop-page-smaller
loop-page-smaller c =
    let t = taken c in
    let within = t.within in
    let longer = t.longer in
    omega arith

pub loop-page-preserved : goal.loop-page-preserved
loop-page-preserved c =
    let t = taken c in
    let within = t.within in
    let longer = t.longer in
    record {
      taken = t.taken;
      within = omega arith;
      marked = c.in-Some.ensures.dirty;
      last = (omega arith, t.at);
    }

pub returns : goal.returns
returns c =
    let kept = c.loop-page.invariant in
    let numbers = c.loop-page.numbers.items in
    let dirty = c.args.f.now.dirty in
    let none : None ≡ slice_get dirty (length numbers) = sym c.in_default.is ∙ comes_next c.loop-page.at c.next_dirty.result dirty (length numbers) kept.last c.next_dirty.ensures.first c.next_dirty.ensures.next in
    takes_all numbers dirty kept.taken none
