-- The causes of a line that depend on labels, on its place and on what stands before it, and its
-- least cause.
use Rattle.std.specs.Prelude.{ℕ, ◌+◌, ◌-◌, ◌%◌, ◌^◌, ◌==◌, ◌&&◌, ◌||◌, not, nat_lt, nat_le, is_none, Bool, false, true, List, [], ◌∷◌, Option, Some, None, Result, Ok, Err, if◌then◌else◌}
use Rattle.std.specs.List.{list_any}
use Rattle.std.specs.Option.{option_map, option_or}
use Rattle.asm_text.specs.declared.fault.AsmCause.{AsmCause}
use Rattle.asm_text.specs.declared.fault.AsmCause.TheVariants as cause
use Rattle.asm_text.specs.declared.fault.AsmFault.{AsmFault}
use Rattle.asm_text.specs.declared.number.Number.{Number}
use Rattle.asm_text.specs.declared.operand.Target.{Target}
use Rattle.asm_text.specs.declared.operand.Target.TheVariants.{Offset, Label}
use Rattle.asm_text.specs.declared.mnemonic.Width.TheVariants.{Word}
use Rattle.asm_text.specs.declared.statement.Statement.{Statement}
use Rattle.asm_text.specs.declared.statement.Statement.TheVariants as statement
use Rattle.asm_text.specs.Lines.{statement_text, operand_text}
use Rattle.asm_text.specs.Numbers.{number, number_of, is_offset}
use Rattle.asm_text.specs.Operands.{pieces, last_of}
use Rattle.asm_text.specs.Statements.{branch_reach, jump_reach, statement_of}
use Rattle.rv_asm.specs.declared.place.Place.{Place}
use Rattle.rv_asm.specs.declared.table.Table.{Table}
use Rattle.rv_asm.specs.Places.{is_misplaced, after_statement, place_after}
use Rattle.rv_asm.specs.Labels.{spot_of, address_of, value_named, doubled_line}

-- a section has at most so many bytes
abbrev pub most_text : ℕ
most_text = 2 ^ 20

abbrev pub most_data : ℕ
most_data = 2 ^ 24

-- the value of a name
abbrev pub value : Table → List ℕ → Option ℕ
value table name = value_named table.data_start table.labels name

-- the address of a place
abbrev pub here : Table → Place → ℕ
here table place = address_of table.data_start (spot_of place)

-- how far it is from one address to another
abbrev pub distance : ℕ → ℕ → Number
distance from to = if nat_le from to then number false (to - from) else number true (from - to)

-- how far it is to the label that the last operand names, unless it isn't there
abbrev pub label_offset : Table → Place → List ℕ → Option Number
label_offset table place text =
    option_map (distance (here table place)) (value table (last_of (pieces text)))

-- how far a jump goes, unless it goes to a label that isn't there
abbrev pub jump_offset : Table → Place → List ℕ → Target → Option Number
jump_offset table place text (Offset n) = Some n
jump_offset table place text Label = label_offset table place text

abbrev pub offset_cause : ℕ → Option Number → Option AsmCause
offset_cause reach None = Some cause.UnknownLabel
offset_cause reach (Some n) = if is_offset reach n then None else Some cause.Range

-- a number that is an offset fits where it stands, or the line says nothing that can be read
abbrev pub target_cause : ℕ → Table → Place → List ℕ → Target → Option AsmCause
target_cause reach table place text (Offset n) = None
target_cause reach table place text Label = offset_cause reach (label_offset table place text)

abbrev pub unknown : Bool → Option AsmCause
unknown is = if is then Some cause.UnknownLabel else None

-- an operand is a name that no label has
abbrev pub is_unknown : Table → List ℕ → Bool
is_unknown table piece = is_none (number_of piece) && is_none (value table piece)

-- a label that isn't there, or to which an offset doesn't fit
unfoldable pub label_cause : Table → Place → List ℕ → Statement → Option AsmCause
label_cause table place text (statement.Jump rd target) =
    target_cause jump_reach table place text target
label_cause table place text (statement.Branch op rs1 rs2 target) =
    target_cause branch_reach table place text target
label_cause table place text (statement.Address rd) =
    unknown (is_none (value table (last_of (pieces text))))
label_cause table place text (statement.Values Word) =
    unknown (list_any (is_unknown table) (pieces text))
label_cause table place text other = None

-- a label of the line has an earlier label's name; only the first such line is told
abbrev pub doubled_cause_at : Option ℕ → ℕ → Option AsmCause
doubled_cause_at None line = None
doubled_cause_at (Some first) line = if first == line then Some cause.DoubledLabel else None

abbrev pub doubled_cause : Table → ℕ → Option AsmCause
doubled_cause table line = doubled_cause_at (doubled_line table.labels) line

abbrev pub section_cause : Place → Statement → Option AsmCause
section_cause place said = if is_misplaced place.section said then Some cause.Section else None

abbrev pub is_too_large : Place → Bool
is_too_large place = nat_lt most_text place.text_size || nat_lt most_data place.data_size

abbrev pub size_cause : Place → Option AsmCause
size_cause place = if is_too_large place then Some cause.TooLarge else None

-- the least cause of what can be read
unfoldable pub statement_cause : Table → Place → ℕ → List ℕ → Statement → Option AsmCause
statement_cause table place line text said =
    option_or (label_cause table place text said)
    (option_or (doubled_cause table line)
    (option_or (section_cause place said) (size_cause (after_statement place text said))))

-- the least cause of a line
unfoldable pub reading_cause :
    Table → Place → ℕ → List ℕ → Result Statement AsmCause → Option AsmCause
reading_cause table place line text (Ok said) = statement_cause table place line text said
reading_cause table place line text (Err cause) = Some cause

unfoldable pub line_cause : Table → Place → ℕ → List ℕ → Option AsmCause
line_cause table place line bytes =
    reading_cause table place line
    (operand_text (statement_text bytes)) (statement_of (statement_text bytes))

abbrev pub told : ℕ → Option AsmCause → Option AsmFault → Option AsmFault
told line (Some cause) later = Some (record { line = line; cause = cause })
told line None later = later

-- the first fault of lines, of which the first has a number and stands at a place
abbrev pub first_fault : Table → Place → ℕ → List (List ℕ) → Option AsmFault
first_fault table place line [] = None
first_fault table place line (bytes ∷ more) =
    told line (line_cause table place line bytes)
    (first_fault table (place_after place bytes) (line + 1) more)
