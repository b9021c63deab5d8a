-- The theorem, at the code that was made.
use Rattle.tracer_lang.specs.Script.{tree_of}
use Rattle.tracer_compile.proofs.Theorem.{made_stands_for}
use Rattle.tracer_compile.proofs.compiling.compile.Goals as goal

pub returns : goal.returns
returns c =
    let told = c.spelled.ensures in
    made_stands_for (tree_of c.args.script.now) c.spelled.result c.args.script.now.limits told.words told.places told.most
