-- The image of a recording, and that a plan keeps it, which has one proof at most.
use Rattle.std.specs.Prelude.{◌≡◌, ◌==◌, ℕ, List, Some, Result, if◌then◌else◌}
use Rattle.std.specs.Result.{result_ok}
use Rattle.std.specs.Coded.{Coded, Coded-set, code_by, coded×, coded_ℕ, coded_list, coded_option}
use Rattle.std.proofs.Common.{refl}
use Rattle.sl_base.specs.declared.symbol.Symbol.{Symbol}
use Rattle.elf_image.specs.declared.image.Segment.{Segment}
use Rattle.elf_image.specs.declared.image.Image.{Image}
use Rattle.elf_image.specs.declared.fault.ImageFault.{ImageFault}
use Rattle.elf_image.specs.Elf.{reading as elf_image}
use Rattle.elf_image.specs.Flat.{flat_image}
use Rattle.rec_format.specs.declared.recording.Recording.{Recording}

-- the image that the bytes of a recording spell: a flat one, or an ELF file
abbrev pub image_in : Recording → Result Image ImageFault
image_in rec = if rec.kind == 0 then flat_image rec.load_addr rec.image else elf_image rec.image

-- an image is that of a recording
abbrev pub IsImageOf : Image → Recording → Type 0
IsImageOf image rec = result_ok (image_in rec) ≡ Some image

-- an image is stored as the tuple of its fields

abbrev Bytes : Type 0
Bytes = List ℕ

abbrev bytes_code : Coded Bytes
bytes_code = coded_list coded_ℕ

abbrev segment_code : Coded Segment
segment_code =
    code_by (Bytes × (ℕ × ℕ)) (coded× bytes_code (coded× coded_ℕ coded_ℕ))
    (λ s. (s.bytes, (s.vaddr, s.memsz)))
    (λ p. record { vaddr = p.1.0; memsz = p.1.1; bytes = p.0 }) (λ _. refl)

abbrev symbol_code : Coded Symbol
symbol_code =
    code_by (Bytes × ℕ) (coded× bytes_code coded_ℕ)
    (λ s. (s.name, s.value)) (λ p. record { name = p.0; value = p.1 }) (λ _. refl)

abbrev image_code : Coded Image
image_code =
    code_by (ℕ × (List Segment × List Symbol))
    (coded× coded_ℕ (coded× (coded_list segment_code) (coded_list symbol_code)))
    (λ i. (i.entry, (i.segments, i.symbols)))
    (λ p. record { entry = p.0; segments = p.1.0; symbols = p.1.1 }) (λ _. refl)

pub IsImageOf-prop : (image : Image) (rec : Recording) → IsProp (IsImageOf image rec)
IsImageOf-prop image rec = Coded-set (coded_option image_code) _ _
