use Rattle.std.proofs.Common.{arith, sym, ap, ◌∙◌}
use Rattle.sl_model.specs.declared.layout.TheConstants.{MOST_PAGES}
use Rattle.replay.specs.Opening.{map_segments}
use Rattle.std.specs.Prelude.{drop, ◌+◌}
use Rattle.replay.proofs.LoadedSteps.{map_next, map_none, room_for_segment, placed_next}
use Rattle.replay.proofs.loading.map_segments.Goals as goal

pub map_segment-requires-clause-few : goal.map_segment-requires-clause-few
map_segment-requires-clause-few c =
    room_for_segment c.loop-segment.frames.pages c.args.segments.now c.loop-segment.segment-index c.segment-item.result (map_segments c.args.frames.now.pages c.args.segments.now) MOST_PAGES
    (omega arith) c.segment-item.is c.loop-segment.invariant.left c.requires.few

pub map_segment-requires-clause-placed : goal.map_segment-requires-clause-placed
map_segment-requires-clause-placed c =
    (placed_next c.args.segments.now c.loop-segment.segment-index c.segment-item.result (omega arith) c.segment-item.is c.loop-segment.invariant.placed).0

pub loop-segment-preserved : goal.loop-segment-preserved
loop-segment-preserved c =
    let next = map_next c.loop-segment.frames.pages c.args.segments.now c.loop-segment.segment-index c.segment-item.result (omega arith) c.segment-item.is in
    record {
      left = ap (λ pages. map_segments pages (drop (c.loop-segment.segment-index + 1) c.args.segments.now)) c.in_ok-map_segment.ensures ∙ sym next ∙ c.loop-segment.invariant.left;
      placed = (placed_next c.args.segments.now c.loop-segment.segment-index c.segment-item.result (omega arith) c.segment-item.is c.loop-segment.invariant.placed).1;
    }

pub returns : goal.returns
returns c = sym (map_none c.loop-segment.frames.pages c.args.segments.now c.loop-segment.segment-index (omega arith)) ∙ c.loop-segment.invariant.left
