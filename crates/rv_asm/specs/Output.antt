-- The bytes of lines: a function of the line, of its place and of all labels.
use Rattle.std.specs.Prelude.{ℕ, ◌+◌, ◌/◌, ◌%◌, ◌^◌, Bool, false, true, List, [], ◌∷◌, ◌++◌, replicate, unwrap_or, Option, Some, None, Result, Ok, Err}
use Rattle.std.specs.Int.{w16, w32, to_le_bytes}
use Rattle.std.specs.List.{flat_map}
use Rattle.sl_model.specs.declared.instr.Instr.{Instr}
use Rattle.sl_model.specs.declared.instr.Instr.TheVariants as instr
use Rattle.sl_model.specs.declared.instr.ImmediateOp.TheVariants.{Addi}
use Rattle.asm_text.specs.declared.fault.AsmCause.{AsmCause}
use Rattle.asm_text.specs.declared.number.Number.{Number}
use Rattle.asm_text.specs.declared.operand.Target.{Target}
use Rattle.asm_text.specs.declared.mnemonic.Section.{Section}
use Rattle.asm_text.specs.declared.mnemonic.Section.TheVariants.{Text, Data}
use Rattle.asm_text.specs.declared.mnemonic.Width.{Width}
use Rattle.asm_text.specs.declared.mnemonic.Width.TheVariants.{Word, Half, Byte}
use Rattle.asm_text.specs.declared.statement.Statement.{Statement}
use Rattle.asm_text.specs.declared.statement.Statement.TheVariants as statement
use Rattle.asm_text.specs.Lines.{statement_text, operand_text}
use Rattle.asm_text.specs.Numbers.{number_of, word_of}
use Rattle.asm_text.specs.Operands.{pieces, last_of}
use Rattle.asm_text.specs.Statements.{statement_of, upper_part, lower_part}
use Rattle.rv_asm.specs.declared.place.Place.{Place}
use Rattle.rv_asm.specs.declared.table.Table.{Table}
use Rattle.rv_asm.specs.Encoding.{word_for}
use Rattle.rv_asm.specs.Places.{offset, padding_size, place_after}
use Rattle.rv_asm.specs.Lines.{value, jump_offset}

-- the bytes of an instruction, the lowest first
abbrev pub code : Instr → List ℕ
code i = to_le_bytes w32 (word_for i)

-- the word of an offset that is there
abbrev pub offset_word : Option Number → ℕ
offset_word None = 0
offset_word (Some n) = word_of n

-- the word of a label's value
abbrev pub label_word : Table → List ℕ → ℕ
label_word table name = unwrap_or (value table name) 0 % 2 ^ 32

-- the word of a number, or of a label's value
abbrev pub value_word_of : Table → Option Number → List ℕ → ℕ
value_word_of table (Some n) piece = word_of n
value_word_of table None piece = label_word table piece

abbrev pub low_bytes : Width → ℕ → List ℕ
low_bytes Word word = to_le_bytes w32 word
low_bytes Half word = to_le_bytes w16 (word % 2 ^ 16)
low_bytes Byte word = word % 2 ^ 8 ∷ []

abbrev pub value_bytes : Table → Width → List ℕ → List ℕ
value_bytes table width piece = low_bytes width (value_word_of table (number_of piece) piece)

-- the two instructions that put a word into a register
abbrev pub address_code : ℕ → ℕ → List ℕ
address_code rd word =
    code (instr.Lui rd (upper_part word)) ++ code (instr.OpImm Addi rd rd (lower_part word))

unfoldable pub statement_bytes : Table → Place → List ℕ → Statement → List ℕ
statement_bytes table place text statement.Nothing = []
statement_bytes table place text (statement.One i) = code i
statement_bytes table place text (statement.Two i j) = code i ++ code j
statement_bytes table place text (statement.Jump rd target) =
    code (instr.Jal rd (offset_word (jump_offset table place text target) / 2 % 2 ^ 20))
statement_bytes table place text (statement.Branch op rs1 rs2 target) =
    code (instr.Branch op rs1 rs2 (offset_word (jump_offset table place text target) / 2 % 2 ^ 12))
statement_bytes table place text (statement.Address rd) =
    address_code rd (label_word table (last_of (pieces text)))
statement_bytes table place text (statement.Enter section) = []
statement_bytes table place text (statement.Values width) =
    flat_map (value_bytes table width) (pieces text)
statement_bytes table place text (statement.Space size) = replicate size 0
statement_bytes table place text (statement.Align alignment) =
    replicate (padding_size alignment (offset place)) 0

unfoldable pub reading_bytes : Table → Place → List ℕ → Result Statement AsmCause → List ℕ
reading_bytes table place text (Ok said) = statement_bytes table place text said
reading_bytes table place text (Err cause) = []

unfoldable pub line_bytes : Table → Place → List ℕ → List ℕ
line_bytes table place line =
    reading_bytes table place
    (operand_text (statement_text line)) (statement_of (statement_text line))

-- the bytes of one section that are among those of another
abbrev pub of_section : Section → Section → List ℕ → List ℕ
of_section Text Text bytes = bytes
of_section Data Data bytes = bytes
of_section Text Data bytes = []
of_section Data Text bytes = []

-- the bytes that lines give a section, where the first stands at a place
abbrev pub bytes_in : Section → Table → Place → List (List ℕ) → List ℕ
bytes_in section table place [] = []
bytes_in section table place (line ∷ lines) =
    of_section section place.section (line_bytes table place line)
    ++ bytes_in section table (place_after place line) lines
