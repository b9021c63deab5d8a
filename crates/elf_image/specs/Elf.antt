-- The image that an ELF32 file is, and the first fault of a file that is none.
use Rattle.std.specs.Prelude.{◌≡◌, ℕ, List, ◌++◌, Option, None, Some, Result, Ok, Err}
use Rattle.elf_image.specs.declared.check.Check.{Check}
use Rattle.elf_image.specs.declared.image.Image.{Image}
use Rattle.elf_image.specs.declared.fault.ImageFault.{ImageFault}
use Rattle.elf_image.specs.Checks.{AllPass, first_failing}
use Rattle.elf_image.specs.Header.{e_entry, header_checks}
use Rattle.elf_image.specs.Segments.{segments, segment_checks}
use Rattle.elf_image.specs.Symbols.{symbols, symbol_checks}

-- all checks of a file, in their order
unfoldable pub checks : List ℕ → List Check
checks file = header_checks file ++ segment_checks file ++ symbol_checks file

-- the file passes every check, and the image is what its headers and its symbol table name
pub record IsImage (file : List ℕ) (image : Image) : Type 0 where
  pub checked : AllPass (checks file)
  pub entry : image.entry ≡ e_entry file
  pub segments : image.segments ≡ segments file
  pub symbols : image.symbols ≡ symbols file

-- the fault of the first check that the file fails
abbrev pub first_fault : List ℕ → Option ImageFault
first_fault file = first_failing (checks file)

-- the image that a file is, or its first fault
abbrev pub image_of : List ℕ → Image
image_of file =
    record { entry = e_entry file; segments = segments file; symbols = symbols file }

abbrev pub unless : Option ImageFault → Image → Result Image ImageFault
unless None image = Ok image
unless (Some fault) image = Err fault

abbrev pub reading : List ℕ → Result Image ImageFault
reading file = unless (first_fault file) (image_of file)
