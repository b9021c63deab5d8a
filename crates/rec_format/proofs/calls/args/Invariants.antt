use Rattle.std.proofs.Common.{◌≡◌, ◌-◌, ◌≤◌}
use Rattle.rec_format.specs.declared.limits.TheConstants.{MOST_ARG_BYTES}
use Rattle.rec_format.specs.Rules.{args_size}
use Rattle.rec_format.specs.Reading.{arg_at, args_at, items_at}
use Rattle.rec_format.proofs.calls.args.Given as goal

abbrev pub invariant-loop : goal.invariant-loop
invariant-loop l = (l.used ≡ args_size l.args) × (l.used ≤ MOST_ARG_BYTES) × (items_at (λ before. arg_at (args_size before)) (l.number - l.counter) l.args l.cursor ≡ args_at l.fn.cursor)
