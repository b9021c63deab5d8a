use Rattle.std.proofs.Common.{arith, refl, sym, ◌∙◌, ◌≡◌, [], length, vec_len}
use Rattle.rv_machine.specs.Machine.{state_of}
use Rattle.tracer_lang.specs.Tree.{tracepoint_of}
use Rattle.tracer_lang.specs.Script.{tree_of}
use Rattle.tracer_lang.specs.Meaning.{Goes, Returned as returned, Ended as ended, opening_locals}
use Rattle.tracer_mean.specs.Evaluated.{now_of}
use Rattle.tracer_mean.proofs.Entering.{filled}
use Rattle.tracer_mean.proofs.Functions.{IsTracepoint, is_tracepoint}
use Rattle.tracer_mean.proofs.Recorded.{recorded}
use Rattle.tracer_mean.proofs.running.run_on_copy.Goals as goal
use Rattle.tracer_mean.proofs.running.run_on_copy.Goals.{in-Err-Ended, in-Ok, in-Err-Returned}

pub statements-requires : goal.statements-requires
statements-requires c =
    let t : IsTracepoint c.args.script.now c.args.point c.index-as_slice-point.result =
    is_tracepoint c.args.script.now c.args.point c.index-as_slice-point.result
    c.args.script.now.limits c.requires
    (c.index-as_slice-point.is ∙ rw (c.as_slice.ensures) refl) in
    let long : length c.resize.new.self.items ≡ c.index-as_slice-point.result.locals =
    sym c.resize.new.self.ok.0 ∙ c.in_ok-resize.ensures.len in
    rw long t.fits.body.numbers

pub returns : goal.returns
returns c =
    let t : IsTracepoint c.args.script.now c.args.point c.index-as_slice-point.result =
    is_tracepoint c.args.script.now c.args.point c.index-as_slice-point.result
    c.args.script.now.limits c.requires
    (c.index-as_slice-point.is ∙ rw (c.as_slice.ensures) refl) in
    let items : c.resize.new.self.items ≡ opening_locals c.index-as_slice-point.result.locals [] =
    rw (c.new-locals.ensures.items) at (filled c.new-locals.result.items c.resize.new.self.items
    c.index-as_slice-point.result.locals (vec_len c.new-locals.result) c.new-locals.result.ok.0
    (omega (arith, c.new-locals.ensures.len)) c.in_ok-resize.ensures.items) in
    elim c.match-statements.branch [
      | in-Err-Ended w ↦
          let r = recorded (tree_of c.args.script.now) c.args.point
          (state_of c.args.m c.args.f.pages) (tracepoint_of c.index-as_slice-point.result)
          c.resize.new.self.items c.new.result
          (ended w.in-Err-Ended.end (now_of c.statements.new.p))
          t.named items c.new.ensures
          (rw (w.in-Err-Ended.field-0-is) at (w.in-Err-Ended.ensures.halt)) in
          rw (w.outcome-is) r
      | in-Ok w ↦
          let r = recorded (tree_of c.args.script.now) c.args.point
          (state_of c.args.m c.args.f.pages) (tracepoint_of c.index-as_slice-point.result)
          c.resize.new.self.items c.new.result (Goes 0 (now_of c.statements.new.p))
          t.named items c.new.ensures w.in-Ok.ensures.done in
          rw (w.outcome-is) r
      | in-Err-Returned w ↦
          let r = recorded (tree_of c.args.script.now) c.args.point
          (state_of c.args.m c.args.f.pages) (tracepoint_of c.index-as_slice-point.result)
          c.resize.new.self.items c.new.result
          (returned w.in-Err-Returned._value (now_of c.statements.new.p)) t.named items
          c.new.ensures
          (rw (w.in-Err-Returned.field-0-is) at (w.in-Err-Returned.ensures.halt)) in
          rw (w.outcome-is) r
    ]
