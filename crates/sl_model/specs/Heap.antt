-- The break of the heap.
use Rattle.std.specs.Prelude.{ℕ, ◌&&◌, Bool, nat_le, if◌then◌else◌}
use Rattle.sl_model.specs.State.{State}

-- a break that a program may set
abbrev pub is_break : State → ℕ → Bool
is_break s address =
    nat_le s.layout.brk_start address && nat_le address s.layout.heap_limit

-- What a program that asks for a break is answered: the new break, which is the old one where it
-- may not be set.
abbrev pub brk_answer : State → ℕ → ℕ
brk_answer s address = if is_break s address then address else s.brk
