use Rattle.tracer_lang.specs.Script.{tree_of}
use Rattle.tracer_compile.specs.Script.{tracepoint_codes}
use Rattle.tracer_compile.proofs.Parts.{CodesLeft}
use Rattle.tracer_compile.proofs.compiling.tracepoints.Given as goal

abbrev pub invariant-loop-t : goal.invariant-loop-t
invariant-loop-t l =
    CodesLeft (tracepoint_codes (tree_of l.script) l.addresses) l.initial.code.items (λ n. n)
    l.code.items l.places.items l.t-index
