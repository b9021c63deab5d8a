-- What is shown of an image: a line for each word, with its instruction.
use Rattle.std.specs.Prelude.{ℕ, zero, suc, ◌+◌, ◌%◌, ◌^◌, ◌&&◌, Bool, nat_lt, List, [], ◌∷◌, ◌++◌, drop, codes, Option, Some, None, if◌then◌else◌, Result, Ok}
use Rattle.sl_base.specs.Text.{word_text}
use Rattle.sl_model.specs.declared.layout.TheConstants.{STACK_START, STACK_END}
use Rattle.sl_model.specs.declared.instr.Instr.{Instr}
use Rattle.sl_model.specs.Pages.{Pages, load_at}
use Rattle.sl_model.specs.Words.{meaning}
use Rattle.rv_text.specs.Text.{instr_text}
use Rattle.outside.specs.Files.{Files}
use Rattle.elf_image.specs.declared.image.Image.{Image}
use Rattle.replay.specs.Opening.{opening}
use Rattle.report.specs.declared.status.Refusal.{Refusal}
use Rattle.sledge_top.specs.Done.{Done, only_text}
use Rattle.sledge_top.specs.Files.{◌>>=◌, file_of, IMAGE_LIMIT, image_or_refusal}

-- a byte of the word at an address lies on the stack
abbrev pub meets_stack : ℕ → Bool
meets_stack address = nat_lt STACK_START (address + 4) && nat_lt address STACK_END

-- the word at an address of a program's memory before its first instruction; the stack is no part
-- of the image
abbrev pub word_at : Pages → ℕ → Option ℕ
word_at pages address = if meets_stack address then None else load_at pages address 4

abbrev pub text_of : Option Instr → List ℕ
text_of None = codes "illegal"
text_of (Some instr) = instr_text instr

-- the eight hexadecimal digits of a word
abbrev pub word_digits : ℕ → List ℕ
word_digits word = drop 2 (word_text word)

-- a word and its instruction, or `-` where a byte of the word is not mapped
abbrev pub shown : Option ℕ → List ℕ
shown None = codes "-"
shown (Some word) = word_digits word ++ codes " " ++ text_of (meaning word)

abbrev pub show_line : Pages → ℕ → List ℕ
show_line pages address =
    word_text address ++ codes " " ++ shown (word_at pages address) ++ 10 ∷ []

-- so many lines; addresses go up by 4 modulo 2 ^ 32
abbrev pub show_lines : Pages → ℕ → ℕ → List ℕ
show_lines pages address zero = []
show_lines pages address (suc lines) =
    show_line pages address ++ show_lines pages ((address + 4) % 2 ^ 32) lines

-- ---- the command

-- so many words of an image from an address on
abbrev pub show_text : Image → ℕ → ℕ → List ℕ
show_text image address lines = show_lines (opening image []).pages address lines

-- `show IMAGE HEX N`
abbrev pub show : Files → List ℕ → ℕ → ℕ → Option ℕ → Result Done Refusal
show files name address lines flat = do
  bytes ← file_of files name IMAGE_LIMIT
  image ← image_or_refusal flat bytes
  Ok (only_text (show_text image address lines))
