use Rattle.std.proofs.Common.{sym, ◌∙◌}
use Rattle.tracer_mean.specs.Evaluated.{now_of}
use Rattle.tracer_mean.proofs.Storing.{unmapped, too_many, done}
use Rattle.tracer_mean.proofs.progress.Progress.store.Goals as goal

pub returns-then-not-is_mapped-clause-halt : goal.returns-then-not-is_mapped-clause-halt
returns-then-not-is_mapped-clause-halt c =
    let width = c.from.ensures ∙ c.store_width-width.ensures in
    let e = rw width at (c.is_mapped.ensures) in
    unmapped c.args.op c.args.address c.args.value (now_of c.args.self.now)
    (sym e ∙ c.if-not-is_mapped.true)

pub returns-then-self-ge-MOST_STORES-clause-halt :
    goal.returns-then-self-ge-MOST_STORES-clause-halt
returns-then-self-ge-MOST_STORES-clause-halt c =
    let width = c.from.ensures ∙ c.store_width-width.ensures in
    let e = rw width at (c.is_mapped.ensures) in
    too_many c.args.op c.args.address c.args.value (now_of c.args.self.now)
    (sym e ∙ c.if-not-is_mapped.false) c.if-self-ge-MOST_STORES.true

pub returns-clause-done : goal.returns-clause-done
returns-clause-done c =
    let width = c.from.ensures ∙ c.store_width-width.ensures in
    let e = rw width at (c.is_mapped.ensures) in
    let bytes = rw (c.store_width-width.ensures) at (c.store.ensures.bytes) in
    done c.args.op c.args.address c.args.value (now_of c.args.self.now) _
    (sym e ∙ c.if-not-is_mapped.false) c.if-self-ge-MOST_STORES.false bytes
