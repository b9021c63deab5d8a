-- Where a reader stands.
use Rattle.std.specs.Prelude.{ℕ, List}

-- a place in the file, and the bytes from there on
pub record Rest : Type 0 where
  pub place : ℕ
  pub bytes : List ℕ

-- the start of a file
abbrev pub start : List ℕ → Rest
start bytes = record { place = 0; bytes = bytes }
