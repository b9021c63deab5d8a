use Rattle.std.specs.Prelude.{◌≡◌, ◌≤◌, max, drop}
use Rattle.std.specs.List.{AllByRecursion}
use Rattle.sl_model.specs.declared.layout.TheConstants.{MEMORY_END}
use Rattle.elf_image.specs.Loadable.{IsPlaced}
use Rattle.replay.specs.Opening.{highest_end}
use Rattle.replay.proofs.heap.highest_end.Given as goal

abbrev pub invariant-loop-segment : goal.invariant-loop-segment
invariant-loop-segment l = record {
  rest : max l.end (highest_end (drop l.segment-index l.segments)) ≡ highest_end l.segments;
  placed : AllByRecursion IsPlaced (drop l.segment-index l.segments);
  within : l.end ≤ MEMORY_END;
}
