-- Files by their names.
use Rattle.std.specs.Prelude.{◌≡◌, ◌≢◌, ℕ, ◌<◌, List, length, Option, Some, None, IfSome, IsSomeAnd, ⊤}
use Rattle.std.specs.Ordering.{nat_cmp}
use Rattle.std.specs.Cmp.Lexicographic.{slice_cmp}
use Rattle.std.specs.FinMap.{FinMap, get, insert}

-- from the bytes of a name to the bytes of the file
abbrev pub Files : Type 0
Files = FinMap (slice_cmp nat_cmp) (List ℕ)

-- where the files are told, this name has these bytes
abbrev pub HasFile : Option Files → List ℕ → List ℕ → Type 0
HasFile told name bytes = IfSome told (λ files. get files name ≡ Some bytes)

-- where the files are told, none has this name
abbrev pub HasNoFile : Option Files → List ℕ → Type 0
HasNoFile told name = IfSome told (λ files. get files name ≡ None)

-- where the files are told, this name has more than so many bytes
abbrev pub HasLongerFile : Option Files → List ℕ → ℕ → Type 0
HasLongerFile told name limit =
    IfSome told (λ files. IsSomeAnd (get files name) (λ bytes. limit < length bytes))

-- where the files were told they still are, and this name has these bytes now, and each other name
-- what it had
abbrev pub PutsFile : Option Files → Option Files → List ℕ → List ℕ → Type 0
PutsFile None new name bytes = ⊤
PutsFile (Some files) new name bytes = new ≡ Some (insert files name bytes)

-- each name but this one has what it had
abbrev pub SameButAt : List ℕ → Files → Files → Type 0
SameButAt name old new = (other : List ℕ) → other ≢ name → get new other ≡ get old other

-- where the files were told they still are, and each name but this one has what it had
abbrev pub KeepsOtherFiles : Option Files → Option Files → List ℕ → Type 0
KeepsOtherFiles None new name = ⊤
KeepsOtherFiles (Some files) new name = IsSomeAnd new (SameButAt name files)
