-- A table of comma-separated values that is being written: what it holds, and when it stands
-- between two lines.
use Rattle.std.specs.Prelude.{◌≡◌, ℕ, false, List, ◌++◌, Vec}
use Rattle.csv.specs.Writing.{default_writer, writer_setup, writer_under, writer_pending, fields_written, has_written}
use Rattle.csv.specs.declared.writer.Writer.{Writer}

-- the lines so far
abbrev pub text_in : {Z : Type 0} → Writer (Vec ℕ Z) → List ℕ
text_in table = (writer_under table).items ++ writer_pending table

-- commas between fields, quotes where they are needed, and no field of the next line
pub record IsReady {Z : Type 0} (table : Writer (Vec ℕ Z)) : Type 0 where
  pub setup : writer_setup table ≡ default_writer
  pub fields : fields_written table ≡ 0
  pub wrote : has_written table ≡ false
