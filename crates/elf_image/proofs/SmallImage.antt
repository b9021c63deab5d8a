-- The image of a test can be written.
use Rattle.std.specs.Prelude.{◌^◌}
use Rattle.std.specs.List.{flat_map}
use Rattle.std.proofs.Common.{ℕ, ◌<◌, ◌≤◌, [], ◌∷◌, refl, subst, sym, arith}
use Rattle.elf_image.specs.declared.image.Image.{Image}
use Rattle.elf_image.specs.declared.image.Segment.{Segment}
use Rattle.elf_image.specs.Loadable.{segment_pages, page_set, number_of_pages, IsPlaced, IsLoadable}
use Rattle.elf_image.specs.Written.{IsWritable}
use Rattle.elf_image.proofs.PageSet.{len-from_list-le}
use Rattle.elf_image.proofs.WrittenImage.{all_of}
use Rattle.elf_image.proofs.WrittenLengths.{length-written}

abbrev pub small_segment : Segment
small_segment = record { vaddr = 0x10000; memsz = 4; bytes = 10 ∷ 11 ∷ 12 ∷ [] }

abbrev pub small_image : Image
small_image = record { entry = 0x10001; segments = small_segment ∷ []; symbols = record { name = 103 ∷ 111 ∷ []; value = 0x10002 } ∷ [] }

one_page : number_of_pages (small_segment ∷ []) ≤ 1
unfolding page_set
one_page = len-from_list-le (flat_map segment_pages (small_segment ∷ []))

placed : IsPlaced small_segment
placed = record {
  vaddr = omega arith;
  memsz = omega arith;
  bytes = all_of (λ b. b < 256) (10 ∷ 11 ∷ 12 ∷ []) (omega arith, (omega arith, (omega arith, tt)));
  size = omega arith;
  below_end = λ _. omega arith;
  beside_stack = λ _. refl;
}

loadable : IsLoadable small_image
loadable = record {
  entry = omega arith;
  some = refl;
  placed = (placed, tt);
  apart = λ i j d before within. absurd (omega arith);
  few = omega (arith, one_page);
  named = (record { name = all_of (λ b. b < 256) (103 ∷ 111 ∷ []) (omega arith, (omega arith, tt)); value = omega arith }, tt);
}

pub IsWritable-small : IsWritable small_image
IsWritable-small = record {
  loadable = loadable;
  taking = (omega arith, tt);
  names = (record { some = omega arith; zero_free = refl }, tt);
  number = omega arith;
  size = subst (λ (n : ℕ). n < 2 ^ 32) (sym (length-written small_image)) (omega arith);
}
