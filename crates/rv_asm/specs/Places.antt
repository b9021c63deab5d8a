-- Where the lines of a source stand: sections, and how many bytes each line adds.
use Rattle.std.specs.Prelude.{ℕ, ◌+◌, ◌-◌, ◌*◌, ◌/◌, ◌%◌, Bool, false, true, List, [], ◌∷◌, length, Result, Ok, Err, if◌then◌else◌}
use Rattle.asm_text.specs.declared.fault.AsmCause.{AsmCause}
use Rattle.asm_text.specs.declared.mnemonic.Alignment.{Alignment}
use Rattle.asm_text.specs.declared.mnemonic.Alignment.TheVariants.{One, Two, Four, Eight, Sixteen}
use Rattle.asm_text.specs.declared.mnemonic.Section.{Section}
use Rattle.asm_text.specs.declared.mnemonic.Section.TheVariants.{Text, Data}
use Rattle.asm_text.specs.declared.mnemonic.Width.{Width}
use Rattle.asm_text.specs.declared.mnemonic.Width.TheVariants.{Word, Half, Byte}
use Rattle.asm_text.specs.declared.statement.Statement.{Statement}
use Rattle.asm_text.specs.declared.statement.Statement.TheVariants as statement
use Rattle.asm_text.specs.Lines.{statement_text, operand_text}
use Rattle.asm_text.specs.Operands.{pieces}
use Rattle.asm_text.specs.Statements.{statement_of}
use Rattle.rv_asm.specs.declared.place.Place.{Place}

-- text starts here, and data at the first page at or after the end of text
abbrev pub text_start : ℕ
text_start = 0x10000

abbrev pub data_start : ℕ → ℕ
data_start text = (text_start + text + 4095) / 4096 * 4096

-- how many bytes stand before a place in a section, and in its own
abbrev pub offset_in : Section → Place → ℕ
offset_in Text place = place.text_size
offset_in Data place = place.data_size

abbrev pub offset : Place → ℕ
offset place = offset_in place.section place

-- where a section starts, where data starts at an address
abbrev pub section_start : ℕ → Section → ℕ
section_start data_at Text = text_start
section_start data_at Data = data_at

-- ---- sizes

abbrev pub is_instruction : Statement → Bool
is_instruction (statement.One instr) = true
is_instruction (statement.Two first second) = true
is_instruction (statement.Jump rd target) = true
is_instruction (statement.Branch op rs1 rs2 target) = true
is_instruction (statement.Address rd) = true
is_instruction other = false

-- a directive that stands in data alone
abbrev pub is_data : Statement → Bool
is_data (statement.Values Half) = true
is_data (statement.Values Byte) = true
is_data (statement.Space size) = true
is_data (statement.Align alignment) = true
is_data other = false

abbrev pub is_misplaced : Section → Statement → Bool
is_misplaced Text said = is_data said
is_misplaced Data said = is_instruction said

abbrev pub width_bytes : Width → ℕ
width_bytes Word = 4
width_bytes Half = 2
width_bytes Byte = 1

abbrev pub alignment_bytes : Alignment → ℕ
alignment_bytes One = 1
alignment_bytes Two = 2
alignment_bytes Four = 4
alignment_bytes Eight = 8
alignment_bytes Sixteen = 16

-- how many bytes lead from an offset to a multiple
abbrev pub padding_size : Alignment → ℕ → ℕ
padding_size alignment at =
    (alignment_bytes alignment - at % alignment_bytes alignment) % alignment_bytes alignment

-- how many bytes a statement with these operands makes at an offset
abbrev pub size_at : ℕ → List ℕ → Statement → ℕ
size_at at text statement.Nothing = 0
size_at at text (statement.One instr) = 4
size_at at text (statement.Two first second) = 8
size_at at text (statement.Jump rd target) = 4
size_at at text (statement.Branch op rs1 rs2 target) = 4
size_at at text (statement.Address rd) = 8
size_at at text (statement.Enter section) = 0
size_at at text (statement.Values width) = width_bytes width * length (pieces text)
size_at at text (statement.Space size) = size
size_at at text (statement.Align alignment) = padding_size alignment at

-- a misplaced statement adds none
unfoldable pub size_in : Place → List ℕ → Statement → ℕ
size_in place text said =
    if is_misplaced place.section said then 0 else size_at (offset place) text said

-- ---- places

abbrev pub moved_in : Section → Place → ℕ → Place
moved_in Text place size = record place { text_size = place.text_size + size }
moved_in Data place size = record place { data_size = place.data_size + size }

abbrev pub entered : Statement → Place → Place
entered (statement.Enter section) place = record place { section = section }
entered other place = place

unfoldable pub after_statement : Place → List ℕ → Statement → Place
after_statement place text said =
    entered said (moved_in place.section place (size_in place text said))

-- a line that says nothing that can be read adds no bytes
unfoldable pub after_reading : Place → List ℕ → Result Statement AsmCause → Place
after_reading place text (Ok said) = after_statement place text said
after_reading place text (Err cause) = place

unfoldable pub place_after : Place → List ℕ → Place
place_after place line =
    after_reading place (operand_text (statement_text line)) (statement_of (statement_text line))

-- the first line stands in text
abbrev pub start : Place
start = record { section = Text; text_size = 0; data_size = 0 }

-- the place behind lines
abbrev pub end_of : Place → List (List ℕ) → Place
end_of place [] = place
end_of place (line ∷ lines) = end_of (place_after place line) lines
