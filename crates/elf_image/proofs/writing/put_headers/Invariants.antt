use Rattle.std.proofs.Common.{◌≡◌, ◌+◌, ◌++◌, length, drop}
use Rattle.elf_image.specs.Written.{segment_bytes, headers_of}
use Rattle.elf_image.proofs.writing.put_headers.Given as goal

-- the headers that are left start where the bytes of those before end
abbrev pub invariant-loop-segment : goal.invariant-loop-segment
invariant-loop-segment l = record {
  offset : l.offset + length (segment_bytes (drop l.segment-index l.segments)) ≡ l.start + length (segment_bytes l.segments);
  written : l.out.items ++ headers_of l.offset (drop l.segment-index l.segments) ≡ l.initial.out.items ++ headers_of l.start l.segments;
}
