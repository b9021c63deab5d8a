-- Offsets of jumps within code, and what a jump does.
use Rattle.std.specs.Prelude.{ℕ, ◌+◌, ◌-◌, ◌*◌, ◌%◌, ◌^◌}

-- The imm[20:1] of a JAL from one place of the code to another, at most 2 ^ 18 words away: half the
-- number of bytes, in two's complement.
abbrev pub jump_between : ℕ → ℕ → ℕ
jump_between from to = (2 ^ 20 + 2 * to - 2 * from) % 2 ^ 20

-- the imm[12:1] of a branch that leads so many words further, fewer than 1,024
abbrev pub words_further : ℕ → ℕ
words_further count = 2 * count
