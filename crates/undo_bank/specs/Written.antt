-- What holds of the fields of an area.
use Rattle.std.specs.Prelude.{◌≡◌, ℕ, ◌≤◌, length, slice_index_or}
use Rattle.undo_bank.specs.declared.area.Area.TheInside.{Inside}

-- no byte from the index `written` on was written
pub record IsWrittenTo (a : Inside) : Type 0 where
  pub within : a.written ≤ length a.bytes.items
  pub zero : (index : ℕ) → a.written ≤ index → slice_index_or a.bytes.items index 0 ≡ 0
