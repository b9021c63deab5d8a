use Rattle.std.proofs.Common.{◌≡◌, ◌<◌, ◌≤◌, ◌∙◌, ap, arith, rules, length, Some}
use Rattle.rv_machine.proofs.OnePage.{loaded, not_loaded}
use Rattle.rv_machine.proofs.tests.one_page.OnePageBus.load.Goals as goal

pub returns-in_err-offset-clause-value : goal.returns-in_err-offset-clause-value
returns-in_err-offset-clause-value c =
    let some : 0 < c.args.width = grind arith in
    let few : c.args.width ≤ 4 = grind arith in
    c.from_residual.ensures ∙ not_loaded c.args.self.now.bytes c.args.addr c.args.width some few c.in_err-offset.ensures.outside

pub returns-clause-value : goal.returns-clause-value
returns-clause-value c =
    let some : 0 < c.args.width = grind arith in
    let whole : length c.args.self.now.bytes ≡ 4096 = search rules in
    ap Some c.number_at.ensures.value ∙ loaded c.args.self.now.bytes c.args.addr c.in_ok-offset.offset c.args.width whole c.in_ok-offset.ensures.inside.0 c.in_ok-offset.ensures.inside.1 some
