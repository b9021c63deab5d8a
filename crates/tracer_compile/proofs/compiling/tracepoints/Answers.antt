use Rattle.std.proofs.Common.{◌≤◌, ◌<◌, [], ◌∷◌, ◌++◌, length, ap, ◌∙◌, arith}
use Rattle.std.proofs.lemmas.List.{map-id}
use Rattle.tracer_lang.specs.Script.{tree_of}
use Rattle.tracer_compile.specs.Script.{tracepoint_codes}
use Rattle.tracer_compile.proofs.Parts.{codes_go_on, codes_grown, codes_told, codes_within}
use Rattle.tracer_compile.proofs.ScriptParts.{length-tracepoint_codes, tracepoint_codes-at, tracepoint_numbers, tracepoint_grown}
use Rattle.tracer_compile.proofs.compiling.tracepoints.Goals as goal

pub overflow_cast-len : goal.overflow_cast-len
overflow_cast-len c =
    omega (
      arith,
      codes_within _ _ _ _ _ _ c.loop-t.invariant,
      c.requires.room,
      c.len.ensures,
      c.loop-t.code.ok.0,
    )

pub body-requires : goal.body-requires
body-requires c =
    tracepoint_numbers c.args.script.now c.as_slice-functions.result.now
    c.as_slice-t-items.result.now c.loop-t.t-index c.t-item.result c.args.script.now.limits
    c.as_slice-functions.ensures c.as_slice-t-items.ensures c.loop-t-test.true c.t-item.is

pub loop-t-preserved : goal.loop-t-preserved
loop-t-preserved c =
    let within : c.loop-t.t-index
    < length (tracepoint_codes (tree_of c.args.script.now) c.args.addresses.now) =
    omega (
      arith,
      length-tracepoint_codes c.args.script.now c.args.addresses.now,
      ap length c.as_slice-t-items.ensures,
      c.loop-t-test.true,
    ) in
    codes_go_on _ _ _ _ _ _ _ _ _ c.loop-t.invariant within
    (tracepoint_codes-at c.args.script.now c.args.addresses.now c.as_slice-t-items.result.now
    c.loop-t.t-index c.t-item.result c.as_slice-t-items.ensures c.loop-t-test.true c.t-item.is)
    (tracepoint_grown c.as_slice-functions.result.now c.args.script.now c.args.addresses.now
    c.t-item.result c.loop-t.code.items c.opening.new.code.items c.body.new.code.items
    c.as_slice-functions.ensures c.in_ok-opening.ensures c.in_ok-body.ensures)
    (c.in_ok-push.ensures.items
    ∙ ap (λ n. c.loop-t.places.items ++ n ∷ []) (c.len.ensures ∙ c.loop-t.code.ok.0))

pub returns-clause-code : goal.returns-clause-code
returns-clause-code c =
    let over : length (tracepoint_codes (tree_of c.args.script.now) c.args.addresses.now)
    ≤ c.loop-t.t-index =
    omega (
      arith,
      length-tracepoint_codes c.args.script.now c.args.addresses.now,
      ap length c.as_slice-t-items.ensures,
      c.loop-t-test.false,
    ) in
    codes_grown _ _ _ _ _ _ c.loop-t.invariant over

pub returns-clause-places : goal.returns-clause-places
returns-clause-places c =
    let over : length (tracepoint_codes (tree_of c.args.script.now) c.args.addresses.now)
    ≤ c.loop-t.t-index =
    omega (
      arith,
      length-tracepoint_codes c.args.script.now c.args.addresses.now,
      ap length c.as_slice-t-items.ensures,
      c.loop-t-test.false,
    ) in
    codes_told _ _ _ _ _ _ c.loop-t.invariant over ∙ map-id _
