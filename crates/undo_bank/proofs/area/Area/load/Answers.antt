use Rattle.std.proofs.Common.{◌≡◌, ◌+◌, ◌-◌, ◌<◌, ◌≤◌, take, drop, length, Some, sym, ap, ◌∙◌, arith}
use Rattle.sl_model.specs.Pages.{from_bytes}
use Rattle.undo_bank.proofs.DenseLaws.{load_in-within, load_in-past}
use Rattle.undo_bank.proofs.area.Area.load.Goals as goal

pub returns-then-end-len-clause-value : goal.returns-then-end-len-clause-value
returns-then-end-len-clause-value c =
    let over : length c.args.self.now < c.args.offset + c.args.width = omega (arith, c.self.inside.bytes.ok.0, ap length c.self.view_is) in
    sym (load_in-past c.args.self.now c.args.offset c.args.width over)

pub returns-clause-value : goal.returns-clause-value
returns-clause-value c =
    let inside : c.args.offset + c.args.width ≤ length c.args.self.now = omega (arith, c.self.inside.bytes.ok.0, ap length c.self.view_is) in
    let count : c.args.offset + c.from.result - c.args.offset ≡ c.args.width = omega arith in
    let bytes = c.deref.ensures.value ∙ c.self.view_is in
    ap Some (c.number.ensures.value ∙ ap (λ n. from_bytes (take n (drop c.args.offset c.deref.result.now))) count
    ∙ ap (λ l. from_bytes (take c.args.width (drop c.args.offset l))) bytes)
    ∙ sym (load_in-within c.args.self.now c.args.offset c.args.width inside)
