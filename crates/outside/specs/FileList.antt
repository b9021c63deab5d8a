-- Files kept as a list.
use Rattle.std.specs.Prelude.{◌≡◌, ◌≢◌, ℕ, ◌<◌, List, Vec, String, map, length, string_bytes, slice_index_or}
use Rattle.std.specs.FinMap.{from_entries}
use Rattle.std.specs.declared.alloc.Global.{Global}
use Rattle.outside.specs.Files.{Files}

-- a name and the bytes of the file
abbrev pub NamedFile : Type 0
NamedFile = String Global × Vec ℕ Global

-- the files of a list, where the first one of a name counts
abbrev pub files_of : List NamedFile → Files
files_of files = from_entries (map (λ file. (string_bytes file.0, file.1.items)) files)

-- none of the first n files has this name
abbrev pub NoneNamed : List NamedFile → List ℕ → ℕ → Type 0
NoneNamed files name n =
    (k : ℕ) (d : NamedFile) → k < n → string_bytes (slice_index_or files k d).0 ≢ name

-- the file at this index is the first one of this name
pub record IsFirstNamed (files : List NamedFile) (name : List ℕ) (i : ℕ) : Type 0 where
  pub within : i < length files
  pub before : NoneNamed files name i
  pub here : (d : NamedFile) → string_bytes (slice_index_or files i d).0 ≡ name
