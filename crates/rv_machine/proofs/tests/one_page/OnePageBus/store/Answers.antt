use Rattle.std.proofs.Common.{◌≡◌, ◌<◌, ◌≤◌, ap, arith, rules, sym, length}
use Rattle.std.specs.Prelude.{is_some, unwrap_or}
use Rattle.rv_machine.proofs.OnePage.{one_page, stored, not_stored}
use Rattle.rv_machine.proofs.tests.one_page.OnePageBus.store.Goals as goal

pub returns-in_default-clause-mapped : goal.returns-in_default-clause-mapped
returns-in_default-clause-mapped c =
    let some : 0 < c.args.width = grind arith in
    let few : c.args.width ≤ 4 = grind arith in
    sym (ap is_some (not_stored c.args.self.now.bytes c.args.addr c.args.width c.args.value some few c.in_default.ensures.outside))

pub returns-in_default-clause-bytes : goal.returns-in_default-clause-bytes
returns-in_default-clause-bytes c =
    let some : 0 < c.args.width = grind arith in
    let few : c.args.width ≤ 4 = grind arith in
    sym (ap (λ o. unwrap_or o (one_page c.args.self.now.bytes)) (not_stored c.args.self.now.bytes c.args.addr c.args.width c.args.value some few c.in_default.ensures.outside))

pub returns-clause-mapped : goal.returns-clause-mapped
returns-clause-mapped c =
    let whole : length c.args.self.now.bytes ≡ 4096 = search rules in
    sym (ap is_some (stored c.args.self.now.bytes c.put_number.new.bytes c.args.addr c.in-Some.offset c.args.width c.args.value whole c.in-Some.ensures.inside.0 c.in-Some.ensures.inside.1 c.put_number.ensures))

pub returns-clause-bytes : goal.returns-clause-bytes
returns-clause-bytes c =
    let whole : length c.args.self.now.bytes ≡ 4096 = search rules in
    sym (ap (λ o. unwrap_or o (one_page c.args.self.now.bytes)) (stored c.args.self.now.bytes c.put_number.new.bytes c.args.addr c.in-Some.offset c.args.width c.args.value whole c.in-Some.ensures.inside.0 c.in-Some.ensures.inside.1 c.put_number.ensures))
