-- What a command does, where it is not refused.
use Rattle.std.specs.Prelude.{ℕ, List, [], Option, Some, None, Result, Ok, Err}
use Rattle.std.specs.FinMap.{insert}
use Rattle.outside.specs.Files.{Files}
use Rattle.report.specs.declared.status.Refusal.{Refusal}

-- a file that is put
pub record Put : Type 0 where
  pub name : List ℕ
  pub bytes : List ℕ

-- the text of the first output, and the file that is put, if one is
pub record Done : Type 0 where
  pub text : List ℕ
  pub put : Option Put

abbrev pub only_text : List ℕ → Done
only_text text = record { text = text; put = None }

-- ---- of a command that is done or refused

-- its text, which is empty after a refusal
abbrev pub text_of : Result Done Refusal → List ℕ
text_of (Ok done) = done.text
text_of (Err why) = []

-- the file that it puts; none after a refusal
abbrev pub put_of : Result Done Refusal → Option Put
put_of (Ok done) = done.put
put_of (Err why) = None

-- the files with one that was put
abbrev pub with_put : Files → Option Put → Files
with_put files None = files
with_put files (Some put) = insert files put.name put.bytes
