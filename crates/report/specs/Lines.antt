-- The report as a table: lines of seven fields, which stand in them without quotes.
use Rattle.std.specs.Prelude.{◌≡◌, ℕ, ◌^◌, ◌<◌, ⊤, List, length, All}
use Rattle.std.specs.List.{flat_map}
use Rattle.analysers.specs.declared.kind.Kind.{Kind}
use Rattle.analysers.specs.declared.row.Row.{Row}
use Rattle.analysers.specs.declared.row.Row.TheVariants as row
use Rattle.analysers.specs.Plain.{IsPlain}
use Rattle.report.specs.declared.run_end.RunEnd.{RunEnd}
use Rattle.report.specs.Report.{line, analyses_lines, report}

-- Seven fields, with a comma between two and a line feed behind the last. No field holds a comma, a
-- quote, CR or LF, so these are the six commas of the line.
pub record HasSevenFields (text : List ℕ) : Type 0 where
  pub fields : List (List ℕ)
  pub seven : length fields ≡ 7
  pub plain : All IsPlain fields
  pub joined : text ≡ line fields

-- such lines, one after the other
pub record IsTable (text : List ℕ) : Type 0 where
  pub lines : List (List ℕ)
  pub each : All HasSevenFields lines
  pub joined : text ≡ flat_map (λ one. one) lines

-- the numbers of a row have 64 bits
abbrev pub IsRow : Row → Type 0
IsRow (row.Of r) = (r.count < 2 ^ 64) × (r.point < 2 ^ 64)
IsRow (row.Number n) = n < 2 ^ 64
IsRow (row.Word word) = ⊤
IsRow (row.Bin value count) = count < 2 ^ 64

-- a report is a table, whatever the analyses and their rows are
abbrev pub ReportsAreTables : Type 0
ReportsAreTables =
    (kinds : List Kind) (rows : List (List Row)) (last : RunEnd)
    → length kinds < 2 ^ 64 → All (λ (each : List Row). All IsRow each) rows
    → last.count < 2 ^ 64 → length last.x ≡ 32
    → IsTable (report (analyses_lines 1 kinds rows) last)
