use Rattle.std.specs.Prelude.{◌≡◌, drop}
use Rattle.std.specs.List.{AllByRecursion}
use Rattle.elf_image.specs.Loadable.{IsPlaced}
use Rattle.replay.specs.Opening.{map_segments}
use Rattle.replay.proofs.loading.map_segments.Given as goal

abbrev pub invariant-loop-segment : goal.invariant-loop-segment
invariant-loop-segment l = record {
  left : map_segments l.frames.pages (drop l.segment-index l.segments) ≡ map_segments l.fn.frames.pages l.segments;
  placed : AllByRecursion IsPlaced (drop l.segment-index l.segments);
}
