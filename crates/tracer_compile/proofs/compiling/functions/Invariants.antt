use Rattle.tracer_lang.specs.Script.{tree_of}
use Rattle.tracer_compile.specs.Script.{address_of, function_codes}
use Rattle.tracer_compile.proofs.Parts.{CodesLeft}
use Rattle.tracer_compile.proofs.compiling.functions.Given as goal

abbrev pub invariant-loop-f : goal.invariant-loop-f
invariant-loop-f l =
    CodesLeft (function_codes (tree_of l.script) l.addresses) l.initial.code.items address_of
    l.code.items l.found.items l.f-index
