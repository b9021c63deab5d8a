-- The file header of an ELF32 file, and its checks. The fields and their numbers are those of the
-- System V ABI (ELF Header) and of the RISC-V ELF psABI (File Header).
use Rattle.std.specs.Prelude.{ℕ, ◌+◌, ◌*◌, ◌==◌, ◌||◌, List, [], ◌∷◌, ◌++◌, length, nat_le, slice_index, slice_range, bit_and}
use Rattle.std.specs.Int.{w16, w32, from_le_bytes}
use Rattle.elf_image.specs.declared.check.Check.{Check}
use Rattle.elf_image.specs.declared.fault.ImageCause.TheVariants.{Short, Magic, Class, Machine, WrongType, Compressed, FloatAbi, SegmentRange}
use Rattle.elf_image.specs.Checks.{check}

-- ---- numbers in a file, the lowest byte first

abbrev pub byte_at : List ℕ → ℕ → ℕ
byte_at file offset = slice_index file offset

unfoldable pub half_at : List ℕ → ℕ → ℕ
half_at file offset = from_le_bytes w16 (slice_range file offset (offset + 2))

unfoldable pub word_at : List ℕ → ℕ → ℕ
word_at file offset = from_le_bytes w32 (slice_range file offset (offset + 4))

-- ---- the fields

abbrev pub e_type : List ℕ → ℕ
e_type file = half_at file 16

abbrev pub e_machine : List ℕ → ℕ
e_machine file = half_at file 18

abbrev pub e_version : List ℕ → ℕ
e_version file = word_at file 20

abbrev pub e_entry : List ℕ → ℕ
e_entry file = word_at file 24

abbrev pub e_phoff : List ℕ → ℕ
e_phoff file = word_at file 28

abbrev pub e_shoff : List ℕ → ℕ
e_shoff file = word_at file 32

abbrev pub e_flags : List ℕ → ℕ
e_flags file = word_at file 36

abbrev pub e_phentsize : List ℕ → ℕ
e_phentsize file = half_at file 42

abbrev pub e_phnum : List ℕ → ℕ
e_phnum file = half_at file 44

abbrev pub e_shentsize : List ℕ → ℕ
e_shentsize file = half_at file 46

abbrev pub e_shnum : List ℕ → ℕ
e_shnum file = half_at file 48

-- ---- the checks

-- EF_RISCV_RVC, and EF_RISCV_FLOAT_ABI
abbrev pub COMPRESSED : ℕ
COMPRESSED = 0x1

abbrev pub FLOAT_ABI : ℕ
FLOAT_ABI = 0x6

-- the first 16 bytes: 0x7F, "ELF", a file of class 32 bits, with its lowest bytes first, of version
-- 1
abbrev pub ident_checks : List ℕ → List Check
ident_checks file =
    check (byte_at file 0 == 0x7F) 0 Magic
    ∷ check (byte_at file 1 == 0x45) 1 Magic
    ∷ check (byte_at file 2 == 0x4C) 2 Magic
    ∷ check (byte_at file 3 == 0x46) 3 Magic
    ∷ check (byte_at file 4 == 1) 4 Class
    ∷ check (byte_at file 5 == 1) 5 Class
    ∷ check (byte_at file 6 == 1) 6 Class
    ∷ []

-- an executable (ET_EXEC) for RISC-V (EM_RISCV) without compressed instructions and floats in
-- registers, whose program headers, if there are any, take 32 bytes each and lie in the file
abbrev pub kind_checks : List ℕ → List Check
kind_checks file =
    let none = e_phnum file == 0 in
    check (e_type file == 2) 16 WrongType
    ∷ check (e_machine file == 243) 18 Machine
    ∷ check (e_version file == 1) 20 Class
    ∷ check (bit_and (e_flags file) COMPRESSED == 0) 36 Compressed
    ∷ check (bit_and (e_flags file) FLOAT_ABI == 0) 36 FloatAbi
    ∷ check (none || e_phentsize file == 32) 42 SegmentRange
    ∷ check (none || nat_le (e_phoff file + 32 * e_phnum file) (length file)) 28 Short
    ∷ []

abbrev pub header_checks : List ℕ → List Check
header_checks file =
    check (nat_le 52 (length file)) 0 Short ∷ (ident_checks file ++ kind_checks file)
