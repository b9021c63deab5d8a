use Rattle.tracer_compile.proofs.Spelling.{spells_next}
use Rattle.tracer_compile.proofs.compiling.words_of.Goals as goal

pub loop-instr-preserved : goal.loop-instr-preserved
loop-instr-preserved c =
    spells_next c.args.code.now c.loop-instr.instr-index c.instr-item.result
    c.loop-instr.words.items c.push.new.self.items c.encode.result c.loop-instr-test.true
    c.instr-item.is c.loop-instr.invariant c.encode.ensures.word c.in_ok-push.ensures.items
