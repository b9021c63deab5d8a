use Rattle.std.proofs.Common.{◌≡◌, ℕ, suc, ◌+◌, ◌-◌, ◌%◌, ◌^◌, List, ◌++◌, ap, sym, ◌∙◌, append_assoc, arith}
use Rattle.sledge_top.specs.Show.{show_line, show_lines}
use Rattle.sledge_top.proofs.show.push_lines.Goals as goal

pub loop-preserved : goal.loop-preserved
loop-preserved c =
    let pages = c.args.memory.now.pages in
    let out = c.loop.out.items in
    let address = c.loop.address in
    let left = c.args.lines - (c.loop.counter + 1) in
    let rest = show_lines pages ((address + 4) % 2 ^ 32) left in
    let one : c.args.lines - c.loop.counter ≡ suc (c.args.lines - (c.loop.counter + 1)) = omega arith in
    ap (λ (t : List ℕ). t ++ rest) c.in_ok-push_line.ensures ∙ append_assoc out (show_line pages address) rest
    ∙ ap (λ (n : ℕ). out ++ show_lines pages address n) (sym one) ∙ c.loop.invariant
