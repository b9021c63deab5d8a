use Rattle.std.proofs.Common.{ap, arith}
use Rattle.replay.specs.Opening.{mapped, fill_segments}
use Rattle.replay.proofs.LoadedSteps.{filling_image, filling_next, filling_done, next_mapped}
use Rattle.replay.proofs.loading.fill_segments.Goals as goal

pub loop-segment-init : goal.loop-segment-init
loop-segment-init c = rw (c.requires.mapped, c.as_slice-segment-items.ensures) (filling_image c.args.image.now c.requires.image)

pub copy_in-requires : goal.copy_in-requires
copy_in-requires c =
    rw c.as_slice.ensures
    (next_mapped c.loop-segment.frames.pages c.as_slice-segment-items.result.now c.loop-segment.segment-index c.segment-item.result (fill_segments (mapped c.args.image.now) c.args.image.now.segments)
    (omega arith) c.segment-item.is c.loop-segment.invariant)

pub loop-segment-preserved : goal.loop-segment-preserved
loop-segment-preserved c =
    rw (ap (λ m. m.pages) c.copy_in.ensures, c.as_slice.ensures)
    (filling_next c.loop-segment.frames.pages c.as_slice-segment-items.result.now c.loop-segment.segment-index c.segment-item.result (fill_segments (mapped c.args.image.now) c.args.image.now.segments)
    (omega arith) c.segment-item.is c.loop-segment.invariant)

pub returns : goal.returns
returns c =
    filling_done c.loop-segment.frames.pages c.as_slice-segment-items.result.now c.loop-segment.segment-index (fill_segments (mapped c.args.image.now) c.args.image.now.segments) (omega arith) c.loop-segment.invariant
