use Rattle.std.proofs.Common.{◌≡◌, ◌+◌, ◌*◌, ◌<◌, ◌^◌, length, ap, ◌∙◌, arith}
use Rattle.tracer_lang.specs.Script.{tree_of}
use Rattle.tracer_compile.specs.Script.{script_code}
use Rattle.tracer_compile.proofs.Fitting.{script_fits}
use Rattle.tracer_compile.proofs.ScriptParts.{most_fits}
use Rattle.tracer_compile.proofs.Spelling.{length-Spells}
use Rattle.tracer_compile.proofs.compiling.spelled.Goals as goal

pub overflow_mul-most : goal.overflow_mul-most
overflow_mul-most c =
    let long : length c.in_ok-words.words.items ≡ length (script_code (tree_of c.args.script.now)) =
    length-Spells c.in_ok-words.words.items c.deref.result.now c.in_ok-words.ensures
    ∙ ap length (c.deref.ensures.value ∙ c.in_ok-code.ensures.code) in
    let fits : c.len.result * (c.from.result + 1) < 2 ^ 62 =
    most_fits c.len.result c.from.result
    (omega (
      arith,
      long,
      c.len.ensures,
      c.in_ok-words.words.ok.0,
      script_fits (tree_of c.args.script.now) c.args.script.now.limits,
    ))
    (omega (arith, c.from.ensures, c.args.script.now.limits.most_budget)) in
    omega (arith, fits)

pub invariant_of-result : goal.invariant_of-result
invariant_of-result c =
    let long : length c.in_ok-words.words.items ≡ length (script_code (tree_of c.args.script.now)) =
    length-Spells c.in_ok-words.words.items c.deref.result.now c.in_ok-words.ensures
    ∙ ap length (c.deref.ensures.value ∙ c.in_ok-code.ensures.code) in
    record {
      room = omega (
        arith,
        long,
        ap length c.from_vec.ensures,
        script_fits (tree_of c.args.script.now) c.args.script.now.limits,
      );
      bound = most_fits c.len.result c.from.result
          (omega (
            arith,
            long,
            c.len.ensures,
            c.in_ok-words.words.ok.0,
            script_fits (tree_of c.args.script.now) c.args.script.now.limits,
          ))
          (omega (arith, c.from.ensures, c.args.script.now.limits.most_budget));
    }

pub returns-clause-most : goal.returns-clause-most
returns-clause-most c =
    let long : length c.in_ok-words.words.items ≡ length (script_code (tree_of c.args.script.now)) =
    length-Spells c.in_ok-words.words.items c.deref.result.now c.in_ok-words.ensures
    ∙ ap length (c.deref.ensures.value ∙ c.in_ok-code.ensures.code) in
    ap (λ n. n * (c.from.result + 1)) (c.len.ensures ∙ c.in_ok-words.words.ok.0 ∙ long)
    ∙ ap (λ n. length (script_code (tree_of c.args.script.now)) * (n + 1)) c.from.ensures
