use Rattle.std.proofs.Common.{sym, ◌∙◌}
use Rattle.rv_machine.specs.Machine.{state_of}
use Rattle.replay.proofs.AtEnd.{ends_otherwise, ends_so}
use Rattle.replay.proofs.ending.end_break.Goals as goal

pub returns-then-not-same_end : goal.returns-then-not-same_end
returns-then-not-same_end g c =
    let s = state_of c.args.m.now (g.B.Bus.pages c.args.bus.now) in
    ends_otherwise c.args.rec.now s c.replayed_end-replayed.result c.replayed_end-replayed.ensures (sym c.same_end.ensures ∙ cc)

pub returns : goal.returns
returns g c =
    let s = state_of c.args.m.now (g.B.Bus.pages c.args.bus.now) in
    c.calls_left.ensures (g.B.Bus.pages c.args.bus.now) ∙ ends_so c.args.rec.now s c.replayed_end-replayed.result c.replayed_end-replayed.ensures (sym c.same_end.ensures ∙ cc)
