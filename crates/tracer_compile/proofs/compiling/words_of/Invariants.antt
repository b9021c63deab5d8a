use Rattle.std.proofs.Common.{take}
use Rattle.word_blocks.specs.Code.{Spells}
use Rattle.tracer_compile.proofs.compiling.words_of.Given as goal

abbrev pub invariant-loop-instr : goal.invariant-loop-instr
invariant-loop-instr l = Spells l.words.items (take l.instr-index l.code)
