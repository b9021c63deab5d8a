use Rattle.std.proofs.Common.{◌≤◌, ◌<◌, [], ◌∷◌, ◌++◌, length, ap, ◌∙◌, arith}
use Rattle.tracer_lang.specs.Script.{tree_of}
use Rattle.tracer_compile.specs.Script.{address_of, function_codes}
use Rattle.tracer_compile.proofs.Parts.{codes_go_on, codes_grown, codes_told, codes_within}
use Rattle.tracer_compile.proofs.ScriptParts.{length-function_codes, function_codes-at, function_numbers, function_grown}
use Rattle.tracer_compile.proofs.compiling.functions.Goals as goal

pub overflow_cast-len : goal.overflow_cast-len
overflow_cast-len c =
    omega (
      arith,
      codes_within _ _ _ _ _ _ c.loop-f.invariant,
      c.requires.room,
      c.len.ensures,
      c.loop-f.code.ok.0,
    )

pub overflow_mul-len : goal.overflow_mul-len
overflow_mul-len c =
    omega (
      arith,
      codes_within _ _ _ _ _ _ c.loop-f.invariant,
      c.requires.room,
      c.len.ensures,
      c.loop-f.code.ok.0,
    )

pub overflow_add-len : goal.overflow_add-len
overflow_add-len c =
    omega (
      arith,
      codes_within _ _ _ _ _ _ c.loop-f.invariant,
      c.requires.room,
      c.len.ensures,
      c.loop-f.code.ok.0,
    )

pub body-requires : goal.body-requires
body-requires c =
    function_numbers c.args.script.now c.as_slice-functions.result.now c.loop-f.f-index
    c.f-item.result c.args.script.now.limits c.as_slice-functions.ensures c.loop-f-test.true
    c.f-item.is

pub loop-f-preserved : goal.loop-f-preserved
loop-f-preserved c =
    let within : c.loop-f.f-index
    < length (function_codes (tree_of c.args.script.now) c.args.addresses.now) =
    omega (
      arith,
      length-function_codes c.args.script.now c.args.addresses.now,
      ap length c.as_slice-functions.ensures,
      c.loop-f-test.true,
    ) in
    codes_go_on _ _ _ _ _ _ _ _ _ c.loop-f.invariant within
    (function_codes-at c.args.script.now c.args.addresses.now c.as_slice-functions.result.now
    c.loop-f.f-index c.f-item.result c.as_slice-functions.ensures c.loop-f-test.true c.f-item.is)
    (function_grown c.as_slice-functions.result.now c.args.addresses.now c.f-item.result
    c.loop-f.code.items c.body.new.code.items c.in_ok-body.ensures)
    (c.in_ok-push.ensures.items
    ∙ ap (λ n. c.loop-f.found.items ++ address_of n ∷ []) (c.len.ensures ∙ c.loop-f.code.ok.0))

pub returns-clause-code : goal.returns-clause-code
returns-clause-code c =
    let over : length (function_codes (tree_of c.args.script.now) c.args.addresses.now)
    ≤ c.loop-f.f-index =
    omega (
      arith,
      length-function_codes c.args.script.now c.args.addresses.now,
      ap length c.as_slice-functions.ensures,
      c.loop-f-test.false,
    ) in
    codes_grown _ _ _ _ _ _ c.loop-f.invariant over

pub returns-clause-found : goal.returns-clause-found
returns-clause-found c =
    let over : length (function_codes (tree_of c.args.script.now) c.args.addresses.now)
    ≤ c.loop-f.f-index =
    omega (
      arith,
      length-function_codes c.args.script.now c.args.addresses.now,
      ap length c.as_slice-functions.ensures,
      c.loop-f-test.false,
    ) in
    codes_told _ _ _ _ _ _ c.loop-f.invariant over
