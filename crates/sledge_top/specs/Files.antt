-- Files that commands read, and how a command is refused for them.
use Rattle.std.specs.Prelude.{ℕ, List, length, Option, Some, None, Result, Ok, Err, nat_lt, if◌then◌else◌}
use Rattle.std.specs.FinMap.{get}
use Rattle.outside.specs.Files.{Files}
use Rattle.elf_image.specs.declared.image.Image.{Image}
use Rattle.elf_image.specs.declared.fault.ImageFault.{ImageFault}
use Rattle.elf_image.specs.Elf.{reading as elf_image}
use Rattle.elf_image.specs.Flat.{flat_image}
use Rattle.report.specs.declared.status.Refusal.{Refusal}
use Rattle.report.specs.declared.status.Refusal.TheVariants as refusal

infixl 10 ◌>>=◌
abbrev pub ◌>>=◌ : {A B : Type 0} → Result A Refusal → (A → Result B Refusal) → Result B Refusal
(Ok x) >>= f = f x
(Err why) >>= f = Err why

-- a fault, as the refusal that tells of it
abbrev pub refused_by : {A F : Type 0} → (F → Refusal) → Result A F → Result A Refusal
refused_by why (Ok x) = Ok x
refused_by why (Err fault) = Err (why fault)

-- a file's bytes, where there are at most so many
abbrev pub within : ℕ → List ℕ → Option (List ℕ) → Result (List ℕ) Refusal
within limit name None = Err (refusal.Absent name)
within limit name (Some bytes) =
    if nat_lt limit (length bytes) then Err (refusal.TooLong limit name) else Ok bytes

abbrev pub file_of : Files → List ℕ → ℕ → Result (List ℕ) Refusal
file_of files name limit = within limit name (get files name)

-- the most bytes of an image
abbrev pub IMAGE_LIMIT : ℕ
IMAGE_LIMIT = 67108864

-- the image in a file: an ELF file, or with an address flat bytes
abbrev pub image_from : Option ℕ → List ℕ → Result Image ImageFault
image_from None bytes = elf_image bytes
image_from (Some address) bytes = flat_image address bytes

abbrev pub image_or_refusal : Option ℕ → List ℕ → Result Image Refusal
image_or_refusal flat bytes = refused_by refusal.ImageBroken (image_from flat bytes)
