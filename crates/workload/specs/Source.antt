-- The program that is generated, by a seed and a number of turns.
use Rattle.std.specs.Prelude.{ℕ, List, ◌++◌, codes, decimal}

-- The text up to the seed, from there to the number of turns, and behind it. Each turn draws the
-- next number of a linear congruential generator, and adds it to one of the 1,024 words of a table;
-- `mark` stands before the store.
abbrev pub before_seed : List ℕ
before_seed = codes "_start:\n li s0, "

abbrev pub before_size : List ℕ
before_size = codes "\n li s1, "

abbrev pub behind_size : List ℕ
behind_size =
    codes "\n la s2, table\nloop:\n li t0, 1664525\n mul s0, s0, t0\n li t0, 1013904223\n"
    ++ codes " add s0, s0, t0\n srli t1, s0, 22\n slli t1, t1, 2\n add t1, t1, s2\n lw t2, 0(t1)\n"
    ++ codes " add t2, t2, s0\nmark:\n sw t2, 0(t1)\n addi s1, s1, -1\n bne s1, zero, loop\n"
    ++ codes " andi a0, s0, 255\n li a7, 93\n ecall\n.data\ntable: .space 4096\n"

-- the source
abbrev pub source_text : ℕ → ℕ → List ℕ
source_text seed size =
    before_seed ++ decimal seed ++ before_size ++ decimal size ++ behind_size

-- the tracer that runs on it: it emits each sum before it is stored
abbrev pub SCRIPT : List ℕ
SCRIPT = codes "(at (enter mark) (emit (reg 7)))"
