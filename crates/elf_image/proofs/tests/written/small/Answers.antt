use Rattle.elf_image.proofs.SmallImage.{IsWritable-small}
use Rattle.elf_image.proofs.tests.written.small.Goals as goal

pub returns : goal.returns
returns c =
    rw (
      c.in_ok-push.ensures.ok,
      c.in_ok-push-2.ensures.ok,
      c.new-segments.ensures,
      c.new-symbols.ensures,
      c.from_vec.ensures,
      c.from_vec-2.ensures,
      c.in_ok-from_slice.ensures.items,
      c.in_ok-from_slice-2.ensures.items,
    ) IsWritable-small
