-- The report: lines of seven fields, with commas between them.
use Rattle.std.specs.Prelude.{ℕ, ◌+◌, ◌==◌, List, [], ◌∷◌, ◌++◌, length, map, codes, decimal, Option, Some, None, if◌then◌else◌}
use Rattle.std.specs.List.{flat_map, join_with_byte}
use Rattle.sl_base.specs.Text.{word_text}
use Rattle.call_log.specs.declared.entry.End.{End}
use Rattle.call_log.specs.declared.entry.End.TheVariants as end
use Rattle.rec_format.specs.declared.recording.Recording.{Recording}
use Rattle.analysers.specs.declared.kind.Kind.{Kind}
use Rattle.analysers.specs.declared.row.Row.{Row}
use Rattle.analysers.specs.declared.row.Row.TheVariants as row
use Rattle.report.specs.declared.run_end.RunEnd.{RunEnd}
use Rattle.tracer_lang.specs.declared.record.Record.{Record}
use Rattle.tracer_lang.specs.declared.record.TracerEnd.{TracerEnd}
use Rattle.tracer_lang.specs.declared.record.TracerEnd.TheVariants.{Done, OverBudget, TooDeep, LoadFault, StoreFault, TooManyStores, TooManyWords, Barred, User}

-- a line of these fields
unfoldable pub line : List (List ℕ) → List ℕ
line fields = join_with_byte 44 fields ++ 10 ∷ []

abbrev pub outcome_name : TracerEnd → List ℕ
outcome_name Done = codes "Done"
outcome_name OverBudget = codes "OverBudget"
outcome_name TooDeep = codes "TooDeep"
outcome_name (LoadFault address) = codes "LoadFault"
outcome_name (StoreFault address) = codes "StoreFault"
outcome_name TooManyStores = codes "TooManyStores"
outcome_name TooManyWords = codes "TooManyWords"
outcome_name (Barred number) = codes "Barred"
outcome_name (User value) = codes "User"

abbrev pub outcome_value : TracerEnd → Option ℕ
outcome_value Done = None
outcome_value OverBudget = None
outcome_value TooDeep = None
outcome_value (LoadFault address) = Some address
outcome_value (StoreFault address) = Some address
outcome_value TooManyStores = None
outcome_value TooManyWords = None
outcome_value (Barred number) = Some number
outcome_value (User value) = Some value

-- a value behind a space, where there is one
abbrev pub value_text : Option ℕ → List ℕ
value_text None = []
value_text (Some value) = 32 ∷ word_text value

-- an outcome's name, and its value where it has one
abbrev pub outcome_text : TracerEnd → List ℕ
outcome_text outcome = outcome_name outcome ++ value_text (outcome_value outcome)

-- words with one space between two
abbrev pub words_text : List ℕ → List ℕ
words_text words = join_with_byte 32 (map word_text words)

-- a record's line for an analysis, by the analysis's position from 1 and its word
abbrev pub record_line : ℕ → List ℕ → Record → List ℕ
record_line position kind r =
    line
    (decimal position
    ∷ kind
    ∷ decimal r.count
    ∷ decimal r.point
    ∷ word_text r.pc
    ∷ outcome_text r.outcome
    ∷ words_text r.words
    ∷ [])

-- a line that has a word or a number, and a count where there is one
abbrev pub value_line : ℕ → List ℕ → List ℕ → List ℕ → List ℕ
value_line position kind count value =
    line (decimal position ∷ kind ∷ count ∷ [] ∷ [] ∷ [] ∷ value ∷ [])

-- a row's line for an analysis, by the analysis's position from 1 and its word
abbrev pub row_line : ℕ → List ℕ → Row → List ℕ
row_line position kind (row.Of r) = record_line position kind r
row_line position kind (row.Number n) = value_line position kind [] (decimal n)
row_line position kind (row.Word word) = value_line position kind [] (word_text word)
row_line position kind (row.Bin value count) =
    value_line position kind (decimal count) (word_text value)

-- the lines of one analysis
abbrev pub analysis_lines : ℕ → List ℕ → List Row → List ℕ
analysis_lines position kind rows = flat_map (row_line position kind) rows

-- the lines of analyses with these rows, the first of them having this position
abbrev pub analyses_lines : ℕ → List Kind → List (List Row) → List ℕ
analyses_lines position [] all = []
analyses_lines position (kind ∷ kinds) [] = []
analyses_lines position (kind ∷ kinds) (rows ∷ all) =
    analysis_lines position kind.word rows ++ analyses_lines (position + 1) kinds all

-- the analysis `all`: a line for each record
abbrev pub all_lines : ℕ → List Record → List ℕ
all_lines position rs = flat_map (record_line position (codes "all")) rs

-- an end's kind and value
abbrev pub end_kind : End → List ℕ
end_kind (end.Exited code) = codes "exited"
end_kind (end.Trapped number) = codes "trapped"
end_kind end.Stopped = codes "stopped"

abbrev pub end_value : End → ℕ
end_value (end.Exited code) = code
end_value (end.Trapped number) = number
end_value end.Stopped = 0

-- the line of the end, with the count and pc of the last state
abbrev pub end_line : End → ℕ → ℕ → List ℕ
end_line e count pc =
    line
    (codes "end"
    ∷ end_kind e
    ∷ decimal count
    ∷ []
    ∷ word_text pc
    ∷ []
    ∷ word_text (end_value e)
    ∷ [])

abbrev pub register_text : ℕ → ℕ → List ℕ
register_text number value = codes "x" ++ decimal number ++ codes "=" ++ word_text value

-- the registers that are not 0, the first of them having this number
abbrev pub register_texts : ℕ → List ℕ → List (List ℕ)
register_texts number [] = []
register_texts number (value ∷ values) =
    if value == 0 then register_texts (number + 1) values
    else register_text number value ∷ register_texts (number + 1) values

-- the line of the registers
abbrev pub regs_line : List ℕ → List ℕ
regs_line x =
    line
    (codes "regs"
    ∷ codes "x"
    ∷ []
    ∷ []
    ∷ []
    ∷ []
    ∷ join_with_byte 32 (register_texts 0 x)
    ∷ [])

-- what a check of a recording says: its recorded calls, its checkpoints before the end, and its end
abbrev pub checked_line : Recording → List ℕ
checked_line rec =
    codes "checked "
    ++ decimal (length rec.calls)
    ++ codes " calls, "
    ++ decimal (length rec.checkpoints)
    ++ codes " checkpoints, end "
    ++ decimal rec.last.count
    ++ 10 ∷ []

-- what is said of a recording that is put: the count of its end, and how it ended
abbrev pub recorded_line : Recording → List ℕ
recorded_line rec =
    codes "recorded "
    ++ decimal rec.last.count
    ++ codes " "
    ++ end_kind rec.end
    ++ codes " "
    ++ word_text (end_value rec.end)
    ++ 10 ∷ []

-- the report: the lines of the analyses, and how the run ended
abbrev pub report : List ℕ → RunEnd → List ℕ
report analyses last = analyses ++ end_line last.end last.count last.pc ++ regs_line last.x
