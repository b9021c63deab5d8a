use Rattle.std.proofs.Common.{◌≡◌, ◌++◌, ◌-◌}
use Rattle.sledge_top.specs.Show.{show_lines}
use Rattle.sledge_top.proofs.show.push_lines.Given as goal

-- the lines so far and those that are left are all
abbrev pub invariant-loop : goal.invariant-loop
invariant-loop l =
    l.out.items ++ show_lines l.memory.pages l.address (l.lines - l.counter)
    ≡ l.fn.out.items ++ show_lines l.memory.pages l.fn.address l.lines
