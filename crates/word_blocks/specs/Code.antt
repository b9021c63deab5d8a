-- Code as a list of instructions, and where it stands in memory.
use Rattle.std.specs.Prelude.{◌≡◌, ℕ, ◌+◌, ◌*◌, ◌%◌, ◌^◌, ◌<◌, ⊤, List, [], ◌∷◌, length, Some, slice_get}
use Rattle.sl_model.specs.declared.instr.Instr.{Instr}
use Rattle.sl_model.specs.Pages.{Pages, load_at}
use Rattle.sl_model.specs.Words.{Means, meaning}

-- the word at an address is that of an instruction
abbrev pub StandsAt : Pages → ℕ → Instr → Type 0
StandsAt pages address instr =
    (word : ℕ) × (load_at pages address 4 ≡ Some word) × (meaning word ≡ Some instr)

-- Code stands in memory: each word from an address on means the instruction of its place.
pub record CodeStands (start : ℕ) (code : List Instr) (pages : Pages) : Type 0 where
  pub aligned : start % 4 ≡ 0
  pub within : start + 4 * length code < 2 ^ 32
  pub words : (place : ℕ) (instr : Instr) → slice_get code place ≡ Some instr
      → StandsAt pages (start + 4 * place) instr

-- a block is a part of the code, from a place on
abbrev pub HasBlock : List Instr → ℕ → List Instr → Type 0
HasBlock code place [] = ⊤
HasBlock code place (instr ∷ rest) =
    (slice_get code place ≡ Some instr) × HasBlock code (place + 1) rest

-- words spell instructions, one each
abbrev pub Spells : List ℕ → List Instr → Type 0
Spells [] [] = ⊤
Spells (word ∷ words) (instr ∷ rest) = Means word instr × Spells words rest
Spells [] (instr ∷ rest) = ⊥
Spells (word ∷ words) [] = ⊥
