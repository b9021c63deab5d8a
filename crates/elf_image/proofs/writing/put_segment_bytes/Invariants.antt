use Rattle.std.proofs.Common.{◌≡◌, ◌++◌, take}
use Rattle.elf_image.specs.Written.{segment_bytes}
use Rattle.elf_image.proofs.writing.put_segment_bytes.Given as goal

abbrev pub invariant-loop-segment : goal.invariant-loop-segment
invariant-loop-segment l = l.out.items ≡ l.initial.out.items ++ segment_bytes (take l.segment-index l.segments)
