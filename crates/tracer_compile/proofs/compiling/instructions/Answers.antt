use Rattle.std.proofs.Common.{◌≡◌, ◌++◌, length, ap, sym, ◌∙◌, arith}
use Rattle.tracer_lang.specs.Script.{tree_of}
use Rattle.tracer_compile.specs.Blocks.{end_without}
use Rattle.tracer_compile.specs.Script.{end_code, functions_part}
use Rattle.tracer_compile.proofs.Fitting.{parts_fit, length-end_code, length-functions_part}
use Rattle.tracer_compile.proofs.ScriptParts.{length-addresses_of, functions_stand, script_stands, places_stand}
use Rattle.tracer_compile.proofs.compiling.instructions.Goals as goal

pub functions-requires-clause-addressed : goal.functions-requires-clause-addressed
functions-requires-clause-addressed c =
    ap length (c.deref.ensures.value ∙ c.in_ok-addresses.ensures)
    ∙ length-addresses_of c.args.script.now

pub functions-requires-clause-room : goal.functions-requires-clause-room
unfolding end_code
functions-requires-clause-room c =
    let begun : c.end_without.new.code.items ≡ end_code =
    c.in_ok-end_without.ensures ∙ ap (λ l. l ++ end_without 0) c.new-code.ensures.items in
    omega (
      arith,
      ap length begun,
      length-end_code,
      parts_fit (tree_of c.args.script.now) c.deref.result.now c.args.script.now.limits,
    )

pub tracepoints-requires-clause-addressed : goal.tracepoints-requires-clause-addressed
tracepoints-requires-clause-addressed c =
    ap length (c.deref-2.ensures.value ∙ c.in_ok-addresses.ensures)
    ∙ length-addresses_of c.args.script.now

pub tracepoints-requires-clause-room : goal.tracepoints-requires-clause-room
unfolding end_code
tracepoints-requires-clause-room c =
    let begun : c.end_without.new.code.items ≡ end_code =
    c.in_ok-end_without.ensures ∙ ap (λ l. l ++ end_without 0) c.new-code.ensures.items in
    let one : c.deref.result.now ≡ c.deref-2.result.now =
    c.deref.ensures.value ∙ sym c.deref-2.ensures.value in
    let part : c.functions.new.code.items
    ≡ functions_part (tree_of c.args.script.now) c.deref-2.result.now =
    functions_stand c.args.script.now c.deref.result.now c.end_without.new.code.items
    c.functions.new.code.items begun c.in_ok-functions.ensures.code
    ∙ ap (functions_part (tree_of c.args.script.now)) one in
    omega (
      arith,
      ap length part,
      length-functions_part (tree_of c.args.script.now) c.deref-2.result.now,
      parts_fit (tree_of c.args.script.now) c.deref-2.result.now c.args.script.now.limits,
    )

pub returns-clause-code : goal.returns-clause-code
unfolding end_code
returns-clause-code c =
    let begun : c.end_without.new.code.items ≡ end_code =
    c.in_ok-end_without.ensures ∙ ap (λ l. l ++ end_without 0) c.new-code.ensures.items in
    let one : c.deref.result.now ≡ c.deref-2.result.now =
    c.deref.ensures.value ∙ sym c.deref-2.ensures.value in
    let part : c.functions.new.code.items
    ≡ functions_part (tree_of c.args.script.now) c.deref-2.result.now =
    functions_stand c.args.script.now c.deref.result.now c.end_without.new.code.items
    c.functions.new.code.items begun c.in_ok-functions.ensures.code
    ∙ ap (functions_part (tree_of c.args.script.now)) one in
    script_stands c.args.script.now c.deref-2.result.now c.functions.new.code.items
    c.tracepoints.new.code.items (c.deref-2.ensures.value ∙ c.in_ok-addresses.ensures) part
    c.in_ok-places.ensures.code

pub returns-clause-places : goal.returns-clause-places
unfolding end_code
returns-clause-places c =
    let begun : c.end_without.new.code.items ≡ end_code =
    c.in_ok-end_without.ensures ∙ ap (λ l. l ++ end_without 0) c.new-code.ensures.items in
    let one : c.deref.result.now ≡ c.deref-2.result.now =
    c.deref.ensures.value ∙ sym c.deref-2.ensures.value in
    let part : c.functions.new.code.items
    ≡ functions_part (tree_of c.args.script.now) c.deref-2.result.now =
    functions_stand c.args.script.now c.deref.result.now c.end_without.new.code.items
    c.functions.new.code.items begun c.in_ok-functions.ensures.code
    ∙ ap (functions_part (tree_of c.args.script.now)) one in
    places_stand c.args.script.now c.deref-2.result.now c.functions.new.code.items
    c.in_ok-places.places.items (c.deref-2.ensures.value ∙ c.in_ok-addresses.ensures) part
    c.in_ok-places.ensures.places
