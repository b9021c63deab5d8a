use Rattle.std.proofs.Common.{◌≡◌, ◌++◌, length, replicate, ap, ◌∙◌, arith}
use Rattle.tracer_lang.specs.Script.{tree_of}
use Rattle.tracer_compile.specs.Blocks.{end_without}
use Rattle.tracer_compile.specs.Script.{end_code}
use Rattle.tracer_compile.proofs.Fitting.{parts_fit, length-end_code}
use Rattle.tracer_compile.proofs.ScriptParts.{zeros_resized, addresses_found}
use Rattle.tracer_compile.proofs.compiling.addresses.Goals as goal

pub functions-requires-clause-room : goal.functions-requires-clause-room
unfolding end_code
functions-requires-clause-room c =
    let begun : c.end_without.new.code.items ≡ end_code =
    c.in_ok-end_without.ensures ∙ ap (λ l. l ++ end_without 0) c.new-code.ensures.items in
    omega (
      arith,
      ap length begun,
      length-end_code,
      parts_fit (tree_of c.args.script.now) c.deref.result.now c.args.script.now.limits,
    )

pub returns : goal.returns
unfolding end_code
returns c =
    let begun : c.end_without.new.code.items ≡ end_code =
    c.in_ok-end_without.ensures ∙ ap (λ l. l ++ end_without 0) c.new-code.ensures.items in
    let zeros : c.deref.result.now ≡ replicate (length c.args.script.now.functions) 0 =
    c.deref.ensures.value
    ∙ zeros_resized c.new-unknown.result.items _ c.len.result _ c.new-unknown.ensures.items
    c.new-unknown.ensures.len c.in_ok-resize.ensures.items
    ∙ ap (λ n. replicate n 0) c.len.ensures in
    rw (addresses_found c.args.script.now c.end_without.new.code.items c.deref.result.now begun
    zeros) c.functions.ensures.found
