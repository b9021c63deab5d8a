use Rattle.std.proofs.Common.{arith, refl, ◌<◌, ◌≤◌, ◌+◌}
use Rattle.tracepoints.proofs.Firing.{begins_below, begins_above}
use Rattle.tracepoints.proofs.points.overlaps.Goals as goal

pub returns-then-address-at : goal.returns-then-address-at
returns-then-address-at c =
    let below : c.args.address < c.args.at + c.args.width =
    omega (
      arith,
      c.from-address.ensures,
      c.from-at.ensures,
      c.from.ensures,
      c.if-address-at.true,
    ) in
    rw (c.from-at.ensures, c.from-address.ensures, c.from-then-address-at.ensures)
    (begins_below c.args.address c.args.len c.args.at c.args.width c.requires.len c.requires.width
    below _ refl)

pub returns-else-address-at : goal.returns-else-address-at
returns-else-address-at c =
    let apart : c.args.at + c.args.width ≤ c.args.address =
    omega (
      arith,
      c.from-address.ensures,
      c.from-at.ensures,
      c.from.ensures,
      c.if-address-at.false,
    ) in
    rw (c.from-address.ensures, c.from-at.ensures, c.from.ensures)
    (begins_above c.args.address c.args.len c.args.at c.args.width apart _ refl)
