use Rattle.std.proofs.Common.{rules, arith, refl, sym, ◌∙◌, ◌≡◌, ◌≤◌, ◌<◌, ◌-◌, ℕ, length, vec_len}
use Rattle.tracer_lang.specs.Tree.{FunctionTree, expression_of, statements_of, function_of}
use Rattle.std.proofs.lemmas.List.{length-map}
use Rattle.tracer_lang.specs.declared.script.Script.{Script}
use Rattle.tracer_lang.specs.Limits.{parameter_counts}
use Rattle.tracer_lang.specs.Script.{tree_of}
use Rattle.tracer_lang.specs.Meaning.{Goes, expression_meaning, statements_meaning, turns}
use Rattle.tracer_mean.specs.Evaluated.{now_of, at_machine, enter_at}
use Rattle.tracer_mean.proofs.Turning.{turns_end, turns_more, turns_halt_in}
use Rattle.tracer_mean.proofs.Entering.{entered, left_goes, left_returned, left_ended}
use Rattle.tracer_mean.proofs.Functions.{IsFunction, is_function}
use Rattle.tracer_mean.proofs.tracer.Tracer.+tree.Goals as goal
use Rattle.tracer_mean.proofs.tracer.Tracer.+tree.Goals.{enter-in-Ok, enter-in-Err-Returned}

pub turns-loop-p-preserved : goal.turns-loop-p-preserved
turns-loop-p-preserved t c =
    let first : c.expression.new.p.units ≤ c.loop-p.p.units =
    c.in_ok-expression.ensures.kept.units in
    let then_ : c.statements.new.p.units ≤ c.expression.new.p.units - 1 =
    c.in_ok-statements.ensures.kept.units in
    let long : length c.statements.new.p.locals.items ≡ length c.loop-p.p.locals.items =
    c.in_ok-statements.ensures.kept.locals ∙ c.in_ok-expression.ensures.kept.locals in
    record {
      left = c.loop-p.invariant.left - 1;
      enough = omega (arith, first, then_, c.loop-p.invariant.enough);
      same = turns_more _ _ _ c.loop-p.invariant.left c.in_ok-expression.field-0
          (now_of c.loop-p.p) (now_of c.expression.new.p) _ (now_of c.statements.new.p)
          c.loop-p.invariant.same c.loop-p.invariant.enough c.in_ok-expression.ensures.value first
          c.if-branch-ne0.true c.if-p-eq0.false c.in_ok-statements.ensures.done refl;
      fits_condition = rw long c.loop-p.invariant.fits_condition;
      fits_body = rw long c.loop-p.invariant.fits_body;
      kept = record {
        locals = long ∙ c.loop-p.invariant.kept.locals;
        units = omega (arith, first, then_, c.loop-p.invariant.kept.units);
      };
    }

pub turns-returns-in_err-statements-clause-halt : goal.turns-returns-in_err-statements-clause-halt
turns-returns-in_err-statements-clause-halt t c =
    let h = turns_halt_in
    (expression_meaning (at_machine c.args.self.now.machine.now)
    (enter_at c.args.self.now c.args.left) (expression_of c.args.condition.now))
    (statements_meaning (at_machine c.args.self.now.machine.now)
    (enter_at c.args.self.now c.args.left) (statements_of c.args.body.now))
    (turns (expression_meaning (at_machine c.args.self.now.machine.now)
    (enter_at c.args.self.now c.args.left) (expression_of c.args.condition.now))
    (statements_meaning (at_machine c.args.self.now.machine.now)
    (enter_at c.args.self.now c.args.left) (statements_of c.args.body.now))
    c.args.p.now.units (now_of c.args.p.now))
    c.loop-p.invariant.left c.in_ok-expression.field-0 c.in_err-statements.field-0.0
    (now_of c.loop-p.p) (now_of c.expression.new.p)
    (record (now_of c.expression.new.p) { units = c.expression.new.p.units - 1 })
    (now_of c.statements.new.p)
    c.loop-p.invariant.same c.loop-p.invariant.enough c.in_ok-expression.ensures.value
    c.in_ok-expression.ensures.kept.units c.if-branch-ne0.true c.if-p-eq0.false
    c.in_err-statements.ensures.halt refl in
    search (rules, h)

pub turns-returns-clause-done : goal.turns-returns-clause-done
turns-returns-clause-done t c =
    turns_end _ _ _ c.loop-p.invariant.left c.in_ok-expression.field-0 (now_of c.loop-p.p)
    (now_of c.expression.new.p) c.loop-p.invariant.same c.in_ok-expression.ensures.value
    c.if-branch-ne0.false

inside : (x : Script) (i : ℕ) → i < length (parameter_counts (tree_of x)) → i < length x.functions
inside x i within =
    omega (
      arith,
      length-map (tree_of x).functions (λ (f : FunctionTree). f.parameters),
      length-map x.functions function_of,
    )

pub enter-statements-requires : goal.enter-statements-requires
enter-statements-requires t c =
    let f : IsFunction c.args.self.now.script.now c.args.function c.index-as_slice-function.result =
    is_function c.args.self.now.script.now c.args.function c.index-as_slice-function.result
    c.args.self.now.script.now.limits
    (inside c.args.self.now.script.now c.args.function c.requires.known)
    (c.index-as_slice-function.is ∙ rw (c.as_slice.ensures) refl) in
    let long : length c.replace-caller.new.dest.items ≡ c.index-as_slice-function.result.locals =
    rw (c.replace-caller.ensures.after) (sym c.resize.new.self.ok.0 ∙ c.in_ok-resize.ensures.len) in
    (omega (arith, f.nodes, c.decreases, c.if-left-eq0.false), rw long f.fits.body.numbers)

pub enter-returns-in-Err-Ended-clause-halt : goal.enter-returns-in-Err-Ended-clause-halt
enter-returns-in-Err-Ended-clause-halt t c =
    let f : IsFunction c.args.self.now.script.now c.args.function c.index-as_slice-function.result =
    is_function c.args.self.now.script.now c.args.function c.index-as_slice-function.result
    c.args.self.now.script.now.limits
    (inside c.args.self.now.script.now c.args.function c.requires.known)
    (c.index-as_slice-function.is ∙ rw (c.as_slice.ensures) refl) in
    let e = entered (at_machine c.args.self.now.machine.now)
    (tree_of c.args.self.now.script.now).functions c.args.left c.args.function
    c.args.values.items c.replace-caller.new.dest.items (vec_len c.args.values)
    (now_of c.args.p.now) (function_of c.index-as_slice-function.result)
    c.if-left-eq0.false c.if-p-eq0.false f.named c.args.values.ok.0
    (omega (arith, c.args.values.ok.0, c.requires.count, f.counted, f.fits.parameters))
    (rw (c.replace-caller.ensures.after) c.in_ok-resize.ensures.items) in
    e ∙ left_ended _ _ c.in-Err-Ended.end (now_of c.statements.new.p)
    (rw (c.in-Err-Ended.field-0-is) at (c.in-Err-Ended.ensures.halt))

pub enter-returns-clause-value : goal.enter-returns-clause-value
enter-returns-clause-value t c =
    let f : IsFunction c.args.self.now.script.now c.args.function c.index-as_slice-function.result =
    is_function c.args.self.now.script.now c.args.function c.index-as_slice-function.result
    c.args.self.now.script.now.limits
    (inside c.args.self.now.script.now c.args.function c.requires.known)
    (c.index-as_slice-function.is ∙ rw (c.as_slice.ensures) refl) in
    let e = entered (at_machine c.args.self.now.machine.now)
    (tree_of c.args.self.now.script.now).functions c.args.left c.args.function
    c.args.values.items c.replace-caller.new.dest.items (vec_len c.args.values)
    (now_of c.args.p.now) (function_of c.index-as_slice-function.result)
    c.if-left-eq0.false c.if-p-eq0.false f.named c.args.values.ok.0
    (omega (arith, c.args.values.ok.0, c.requires.count, f.counted, f.fits.parameters))
    (rw (c.replace-caller.ensures.after) c.in_ok-resize.ensures.items) in
    elim c.match-statements.branch [
      | enter-in-Ok w ↦
          let last : Goes 0
          (record (now_of c.statements.new.p) { locals = c.args.p.now.locals.items })
          ≡ Goes c.match-statements.value
          (record (now_of c.statements.new.p) { locals = c.replace-caller.result.items }) =
          rw (w.value-is, c.replace-caller.ensures.value) refl in
          e ∙ left_goes _ _ 0 (now_of c.statements.new.p) w.in-Ok.ensures.done ∙ last
      | enter-in-Err-Returned w ↦
          let last : Goes w.in-Err-Returned.value
          (record (now_of c.statements.new.p) { locals = c.args.p.now.locals.items })
          ≡ Goes c.match-statements.value
          (record (now_of c.statements.new.p) { locals = c.replace-caller.result.items }) =
          rw (w.value-is, c.replace-caller.ensures.value) refl in
          e ∙ left_returned _ _ w.in-Err-Returned.value (now_of c.statements.new.p)
          (rw (w.in-Err-Returned.field-0-is) at (w.in-Err-Returned.ensures.halt)) ∙ last
    ]
