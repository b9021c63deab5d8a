-- The image of a source, or its first fault.
use Rattle.std.specs.Prelude.{ℕ, ◌+◌, ◌%◌, ◌^◌, ◌==◌, nat_lt, List, [], ◌∷◌, length, map, codes, unwrap_or, Option, Some, None, Result, Ok, Err, if◌then◌else◌}
use Rattle.std.specs.Str.Lines.{lines}
use Rattle.sl_base.specs.declared.symbol.Symbol.{Symbol}
use Rattle.elf_image.specs.declared.image.Image.{Image}
use Rattle.elf_image.specs.declared.image.Segment.{Segment}
use Rattle.asm_text.specs.declared.fault.AsmCause.{AsmCause}
use Rattle.asm_text.specs.declared.fault.AsmCause.TheVariants as cause
use Rattle.asm_text.specs.declared.fault.AsmFault.{AsmFault}
use Rattle.asm_text.specs.declared.mnemonic.Section.TheVariants.{Text, Data}
use Rattle.rv_asm.specs.declared.place.Label.{Label}
use Rattle.rv_asm.specs.declared.table.Table.{Table}
use Rattle.rv_asm.specs.Places.{text_start, data_start, start, end_of}
use Rattle.rv_asm.specs.Labels.{labels_in, address_of}
use Rattle.rv_asm.specs.Lines.{value, first_fault}
use Rattle.rv_asm.specs.Output.{bytes_in}

-- the most bytes of a source
abbrev pub most_source : ℕ
most_source = 2 ^ 20

-- the labels of lines, and where their data starts
unfoldable pub table_of : List (List ℕ) → Table
table_of lines = record {
  labels = labels_in start 1 lines;
  data_start = data_start (end_of start lines).text_size;
}

unfoldable pub text_of : List (List ℕ) → List ℕ
text_of lines = bytes_in Text (table_of lines) start lines

unfoldable pub data_of : List (List ℕ) → List ℕ
data_of lines = bytes_in Data (table_of lines) start lines

abbrev pub segment : ℕ → List ℕ → Segment
segment address bytes = record { vaddr = address; memsz = length bytes; bytes = bytes }

-- data is no segment where it is empty
abbrev pub data_segments : ℕ → List ℕ → List Segment
data_segments address [] = []
data_segments address (b ∷ bs) = segment address (b ∷ bs) ∷ []

-- a label as a symbol
abbrev pub symbol_of : ℕ → Label → Symbol
symbol_of data_at label =
    record { name = label.name; value = address_of data_at label.spot % 2 ^ 32 }

-- text, then data; the entry is the label `_start`, or else the start of text
abbrev pub image_from : Table → List ℕ → List ℕ → Image
image_from table text data' = record {
  entry = unwrap_or (value table (codes "_start")) text_start % 2 ^ 32;
  segments = segment text_start text ∷ data_segments (table.data_start % 2 ^ 32) data';
  symbols = map (symbol_of table.data_start) table.labels;
}

abbrev pub fault : ℕ → AsmCause → AsmFault
fault line cause = record { line = line; cause = cause }

-- the image of lines without a fault, unless their text is empty
abbrev pub image_of : List (List ℕ) → Result Image AsmFault
image_of lines =
    if length (text_of lines) == 0 then Err (fault 0 cause.Section)
    else Ok (image_from (table_of lines) (text_of lines) (data_of lines))

abbrev pub unless : Option AsmFault → Result Image AsmFault → Result Image AsmFault
unless None image = image
unless (Some first) image = Err first

abbrev pub of_lines : List (List ℕ) → Result Image AsmFault
of_lines lines = unless (first_fault (table_of lines) start 1 lines) (image_of lines)

-- the image of a source, or its first fault
unfoldable pub assembly : List ℕ → Result Image AsmFault
assembly source =
    if nat_lt most_source (length source) then Err (fault 0 cause.TooLarge)
    else of_lines (lines source)
