-- What a store does to memory.
use Rattle.std.specs.Prelude.{◌≡◌, ℕ, ◌+◌, ◌%◌, ◌^◌, ◌<◌, ◌≤◌, ◌⊎◌, Some, is_some}
use Rattle.std.specs.FinMap.{get}
use Rattle.sl_model.specs.Pages.{Pages, byte_at, load_at}

-- a place before some bytes or behind them
abbrev pub IsElsewhere : ℕ → ℕ → ℕ → Type 0
IsElsewhere address width other = (other < address) ⊎ (address + width ≤ other)

-- A load of the same bytes gives the value, modulo the numbers that so many bytes hold. Every byte
-- elsewhere stays, and no page is mapped or unmapped.
pub record IsStored (address width value : ℕ) (before after : Pages) : Type 0 where
  pub loaded : load_at after address width ≡ Some (value % 256 ^ width)
  pub elsewhere : (other : ℕ) → IsElsewhere address width other
      → byte_at after other ≡ byte_at before other
  pub mapped : (page : ℕ) → is_some (get after page) ≡ is_some (get before page)
