use Rattle.std.proofs.Common.{◌-◌, ◌∙◌, ap, take, arith, refl, None}
use Rattle.std.specs.Vec.{with_item}
use Rattle.page_frames.specs.declared.frames.Frames.TheInside.{Inside}
use Rattle.page_frames.proofs.Mapped.{IsUnmarked-at, AreFields-unmarked, view-unmarked}
use Rattle.page_frames.proofs.frames.Frames.unmark_last.Goals as goal

pub invariant_of-self : goal.invariant_of-self
invariant_of-self c =
    let old = c.index_mut-frame.result.now in
    let t = c.self.inside.table in
    let after : Inside = record {
      table = record t { frames = with_item t.frames c.in-Some-find.index (record old { place = None }) };
      dirty = c.pop.new.self;
    } in
    AreFields-unmarked c.self.inside after c.in-Some.page c.in-Some-find.index old (record old { place = None }) c.self.invariant
    (IsUnmarked-at c.self.inside after c.in-Some.page c.in-Some-find.index old c.self.invariant c.in-Some-find.ensures.index
    c.index_mut-frame.ensures.value refl c.in-Some.ensures.items (omega (arith, c.pop.ensures.capacity)))

pub returns : goal.returns
returns c =
    let old = c.index_mut-frame.result.now in
    let t = c.self.inside.table in
    let after : Inside = record {
      table = record t { frames = with_item t.frames c.in-Some-find.index (record old { place = None }) };
      dirty = c.pop.new.self;
    } in
    view-unmarked c.self.inside after c.args.self.now c.in-Some.page c.in-Some-find.index old (record old { place = None }) c.self.view_is
    (IsUnmarked-at c.self.inside after c.in-Some.page c.in-Some-find.index old c.self.invariant c.in-Some-find.ensures.index
    c.index_mut-frame.ensures.value refl c.in-Some.ensures.items (omega (arith, c.pop.ensures.capacity)))
    (c.pop.ensures.rest ∙ ap (λ n. take (n - 1) c.self.inside.dirty.items) c.self.inside.dirty.ok.0)
