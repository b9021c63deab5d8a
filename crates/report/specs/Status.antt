-- How commands end: the number of each ending, and its line on the second output.
use Rattle.std.specs.Prelude.{ℕ, List, [], ◌∷◌, ◌++◌, codes}
use Rattle.std.specs.List.{flat_map}
use Rattle.std.specs.Fmt.{decimal}
use Rattle.sl_base.specs.Text.{word_text}
use Rattle.call_log.specs.declared.breaks.BreakKind.{BreakKind}
use Rattle.call_log.specs.declared.breaks.BreakKind.TheVariants as kind
use Rattle.rec_format.specs.declared.fault.RecCause.{RecCause}
use Rattle.rec_format.specs.declared.fault.RecCause.TheVariants as rec_cause
use Rattle.elf_image.specs.declared.fault.ImageCause.{ImageCause}
use Rattle.elf_image.specs.declared.fault.ImageCause.TheVariants as image_cause
use Rattle.tracer_text.specs.declared.fault.ScriptCause.{ScriptCause}
use Rattle.tracer_text.specs.declared.fault.ScriptCause.TheVariants as script_cause
use Rattle.asm_text.specs.declared.fault.AsmCause.{AsmCause}
use Rattle.asm_text.specs.declared.fault.AsmCause.TheVariants as asm_cause
use Rattle.report.specs.Report.{end_kind, end_value}
use Rattle.report.specs.declared.status.Refusal.{Refusal}
use Rattle.report.specs.declared.status.Refusal.TheVariants as refusal
use Rattle.report.specs.declared.status.Status.{Status}
use Rattle.report.specs.declared.status.Status.TheVariants as status

-- the number that the program ends with after a refusal
abbrev pub refusal_code : Refusal → ℕ
refusal_code refusal.Usage = 1
refusal_code (refusal.Absent name) = 2
refusal_code (refusal.TooLong limit name) = 3
refusal_code (refusal.RecordingBroken fault) = 4
refusal_code (refusal.ImageBroken fault) = 5
refusal_code (refusal.ScriptRefused fault) = 6
refusal_code (refusal.AnalysisRefused position) = 7
refusal_code (refusal.ReplayBroken first) = 8
refusal_code (refusal.CheckpointDiffers first) = 9
refusal_code (refusal.AsmRefused fault) = 13
refusal_code (refusal.TooLarge length) = 14

-- and after each ending
abbrev pub code_of : Status → ℕ
code_of status.Ok = 0
code_of (status.Refused why) = refusal_code why
code_of status.StoreFault = 10
code_of status.SinkFault = 11
code_of status.Memory = 12

-- ---- lines

-- a line of the second output: the program's name, the pieces of a text and a line feed
abbrev pub line_of : List (List ℕ) → List ℕ
line_of pieces = codes "sledge: " ++ (flat_map (λ (piece : List ℕ). piece) pieces ++ 10 ∷ [])

-- the name of a rule of recordings that bytes break
abbrev pub rec_cause_name : RecCause → List ℕ
rec_cause_name rec_cause.Short = codes "Short"
rec_cause_name rec_cause.Magic = codes "Magic"
rec_cause_name rec_cause.Version = codes "Version"
rec_cause_name rec_cause.Order = codes "Order"
rec_cause_name rec_cause.Range = codes "Range"
rec_cause_name rec_cause.PageRepeated = codes "Page repeated"
rec_cause_name rec_cause.UnneededPage = codes "Unneeded page"
rec_cause_name rec_cause.Trailing = codes "Trailing"
rec_cause_name rec_cause.TooLarge = codes "Too large"

-- the name of a rule of images that bytes break
abbrev pub image_cause_name : ImageCause → List ℕ
image_cause_name image_cause.Short = codes "Short"
image_cause_name image_cause.Magic = codes "Magic"
image_cause_name image_cause.Class = codes "Class"
image_cause_name image_cause.Machine = codes "Machine"
image_cause_name image_cause.WrongType = codes "Type"
image_cause_name image_cause.Compressed = codes "Compressed"
image_cause_name image_cause.FloatAbi = codes "FloatAbi"
image_cause_name image_cause.Interp = codes "Interp"
image_cause_name image_cause.SegmentRange = codes "Segment range"
image_cause_name image_cause.Overlap = codes "Overlap"
image_cause_name image_cause.SymbolTable = codes "Symbol table"

-- the name of a rule of scripts that a text breaks
abbrev pub script_cause_name : ScriptCause → List ℕ
script_cause_name script_cause.Byte = codes "Byte"
script_cause_name script_cause.Paren = codes "Paren"
script_cause_name script_cause.Form = codes "Form"
script_cause_name script_cause.NameUnknown = codes "Name unknown"
script_cause_name script_cause.NameDoubled = codes "Name doubled"
script_cause_name script_cause.Arity = codes "Arity"
script_cause_name script_cause.Number = codes "Number"
script_cause_name script_cause.SymbolUnknown = codes "Symbol unknown"
script_cause_name script_cause.TooLarge = codes "Too large"
script_cause_name script_cause.TooDeep = codes "Too deep"

-- the name of a rule of sources that a line breaks
abbrev pub asm_cause_name : AsmCause → List ℕ
asm_cause_name asm_cause.Mnemonic = codes "Mnemonic"
asm_cause_name asm_cause.Operand = codes "Operand"
asm_cause_name asm_cause.Range = codes "Range"
asm_cause_name asm_cause.UnknownLabel = codes "Unknown label"
asm_cause_name asm_cause.DoubledLabel = codes "Doubled label"
asm_cause_name asm_cause.Section = codes "Section"
asm_cause_name asm_cause.TooLarge = codes "Too large"

-- the line of a replay that broke at a count
abbrev pub broken_line : ℕ → List (List ℕ) → List ℕ
broken_line count pieces =
    line_of (codes "replay broken at count " ∷ decimal count ∷ codes ": " ∷ pieces)

-- the line of a first break, by its kind
abbrev pub break_line : ℕ → BreakKind → List ℕ
break_line count (kind.NoCall index) =
    broken_line count (codes "call " ∷ decimal index ∷ codes " is not recorded" ∷ [])
break_line count (kind.CallDiffers index field recorded due) =
    broken_line count
    (codes "call "
    ∷ decimal index
    ∷ codes " field "
    ∷ decimal field
    ∷ codes ": recorded "
    ∷ word_text recorded
    ∷ codes ", due "
    ∷ word_text due
    ∷ [])
break_line count (kind.EarlyEnd end) = broken_line count (codes "ends before " ∷ decimal end ∷ [])
break_line count (kind.EndDiffers recorded replayed) =
    broken_line count
    (codes "end is "
    ∷ end_kind replayed
    ∷ codes " "
    ∷ word_text (end_value replayed)
    ∷ codes ", recorded "
    ∷ end_kind recorded
    ∷ codes " "
    ∷ word_text (end_value recorded)
    ∷ [])
break_line count (kind.CallsLeft index) =
    broken_line count (codes "call " ∷ decimal index ∷ codes " is left" ∷ [])
break_line count (kind.CheckpointDiffers index part address recorded replayed) =
    line_of
    (codes "checkpoint "
    ∷ decimal index
    ∷ codes " differs at count "
    ∷ decimal count
    ∷ codes ", part "
    ∷ decimal part
    ∷ codes ", at "
    ∷ word_text address
    ∷ codes ": recorded "
    ∷ word_text recorded
    ∷ codes ", replayed "
    ∷ word_text replayed
    ∷ [])

-- the line of a refusal; a file's name stands in it as it was given
abbrev pub refusal_line : Refusal → List ℕ
refusal_line refusal.Usage = line_of (codes "usage" ∷ [])
refusal_line (refusal.Absent name) = line_of (codes "absent: " ∷ name ∷ [])
refusal_line (refusal.TooLong limit name) =
    line_of (codes "longer than " ∷ decimal limit ∷ codes " bytes: " ∷ name ∷ [])
refusal_line (refusal.RecordingBroken fault) =
    line_of
    (codes "recording broken at "
    ∷ decimal fault.place
    ∷ codes ": "
    ∷ rec_cause_name fault.cause
    ∷ [])
refusal_line (refusal.ImageBroken fault) =
    line_of
    (codes "image broken at "
    ∷ decimal fault.place
    ∷ codes ": "
    ∷ image_cause_name fault.cause
    ∷ [])
refusal_line (refusal.ScriptRefused fault) =
    line_of
    (codes "script refused at "
    ∷ decimal fault.place
    ∷ codes ": "
    ∷ script_cause_name fault.cause
    ∷ [])
refusal_line (refusal.AnalysisRefused position) =
    line_of (codes "analysis " ∷ decimal position ∷ codes " is none" ∷ [])
refusal_line (refusal.ReplayBroken first) = break_line first.count first.kind
refusal_line (refusal.CheckpointDiffers first) = break_line first.count first.kind
refusal_line (refusal.AsmRefused fault) =
    line_of
    (codes "assembler refused at line "
    ∷ decimal fault.line
    ∷ codes ": "
    ∷ asm_cause_name fault.cause
    ∷ [])
refusal_line (refusal.TooLarge length) =
    line_of (codes "recording of " ∷ decimal length ∷ codes " bytes is too large" ∷ [])

-- what stands on the second output, which is nothing after Ok
abbrev pub fault_line : Status → List ℕ
fault_line status.Ok = []
fault_line (status.Refused why) = refusal_line why
fault_line status.StoreFault = line_of (codes "store fault" ∷ [])
fault_line status.SinkFault = line_of (codes "sink fault" ∷ [])
fault_line status.Memory = line_of (codes "memory" ∷ [])
