use Rattle.std.proofs.Common.{◌+◌, ◌-◌, take, drop, arith, length-drop}
use Rattle.std.proofs.lemmas.List.{length-take-le, take_at}
use Rattle.std.proofs.lemmas.Slice.{between_is}
use Rattle.sledge.proofs.line_sink.move_up.Goals as goal

pub returns-clause-bytes : goal.returns-clause-bytes
returns-clause-bytes c =
    let room = c.args.room.now in
    let left = c.args.used - c.args.gone in
    let within = length-take-le left (drop c.args.gone room) (omega (arith, length-drop c.args.gone room)) in
    rw (c.copy_within.ensures.after, ← between_is room c.args.gone c.args.used)
    (take_at (take left (drop c.args.gone room)) (drop (0 + left) room) left within)
