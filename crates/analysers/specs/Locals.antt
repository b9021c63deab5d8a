-- The analyses that look at one record at a time.
use Rattle.std.specs.Prelude.{ℕ, ◌==◌, Bool, true, false, Option, Some, None}
use Rattle.tracer_lang.specs.declared.record.Record.{Record}
use Rattle.tracer_lang.specs.declared.record.TracerEnd.{TracerEnd}
use Rattle.tracer_lang.specs.declared.record.TracerEnd.TheVariants as end
use Rattle.analysers.specs.declared.local.LocalKind.{LocalKind}
use Rattle.analysers.specs.declared.local.LocalKind.TheVariants.{All, Done, Point, Word}
use Rattle.analysers.specs.Words.{word_at}

-- the tracer ended as it should
abbrev pub is_done : TracerEnd → Bool
is_done end.Done = true
is_done _ = false

-- there is a word, and it is this one
abbrev pub is_word : ℕ → Option ℕ → Bool
is_word value None = false
is_word value (Some word) = word == value

-- the record passes
abbrev pub passes : LocalKind → Record → Bool
passes All r = true
passes Done r = is_done r.outcome
passes (Point point) r = r.point == point
passes (Word place value) r = is_word value (word_at place r)
