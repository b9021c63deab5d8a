use Rattle.tracer_lang.specs.Script.{tree_of}
use Rattle.sledge_top.proofs.OverSymbols.{script_over}
use Rattle.sledge_top.proofs.trace.script_of.Goals as goal

pub returns-in-Ok-clause-over : goal.returns-in-Ok-clause-over
returns-in-Ok-clause-over c = script_over c.args.text.now c.as_slice.result.now c.args.image.now.symbols (tree_of c.in-Ok.script) c.in-Ok.ensures c.as_slice.ensures
