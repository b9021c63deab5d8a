use Rattle.std.proofs.Common.{◌≡◌, ◌+◌, length, drop}
use Rattle.elf_image.specs.Written.{segment_bytes}
use Rattle.elf_image.proofs.layout.bytes_size.Given as goal

abbrev pub invariant-loop-segment : goal.invariant-loop-segment
invariant-loop-segment l = l.size + length (segment_bytes (drop l.segment-index l.segments)) ≡ length (segment_bytes l.segments)
