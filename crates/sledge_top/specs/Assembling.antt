-- What the command that assembles comes to.
use Rattle.std.specs.Prelude.{ℕ, List, [], ◌∷◌, ◌++◌, length, codes, decimal, Some, Result, Ok}
use Rattle.outside.specs.Files.{Files}
use Rattle.elf_image.specs.declared.image.Image.{Image}
use Rattle.report.specs.declared.status.Refusal.{Refusal}
use Rattle.report.specs.declared.status.Refusal.TheVariants as refusal
use Rattle.sledge_top.specs.Done.{Done}
use Rattle.elf_image.specs.Written.{written}
use Rattle.rv_asm.specs.Assembly.{assembly}
use Rattle.sledge_top.specs.Files.{◌>>=◌, refused_by, file_of}

-- the most bytes of a source
abbrev pub SOURCE_LIMIT : ℕ
SOURCE_LIMIT = 1048576

-- what the assembler says of a file of so many bytes
abbrev pub assembled_line : ℕ → List ℕ
assembled_line count = codes "assembled " ++ decimal count ++ codes " bytes" ++ 10 ∷ []

-- the file of an image under a name, and the line that tells how long it is
abbrev pub assembled : List ℕ → List ℕ → Done
assembled name file = record {
  text = assembled_line (length file);
  put = Some (record { name = name; bytes = file });
}

-- the image of a source
abbrev pub image_of_source : List ℕ → Result Image Refusal
image_of_source source = refused_by refusal.AsmRefused (assembly source)

-- `asm SOURCE OUTPUT`
abbrev pub asm : Files → List ℕ → List ℕ → Result Done Refusal
asm files source output = do
  text ← file_of files source SOURCE_LIMIT
  image ← image_of_source text
  Ok (assembled output (written image))
