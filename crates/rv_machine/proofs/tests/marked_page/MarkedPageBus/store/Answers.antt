use Rattle.rv_machine.proofs.OnePage.{marked}
use Rattle.rv_machine.proofs.tests.marked_page.MarkedPageBus.store.Goals as goal

pub returns-then-is_mapped-clause-marks : goal.returns-then-is_mapped-clause-marks
returns-then-is_mapped-clause-marks c = marked c.args.self.now.page.now.bytes c.store-is_mapped.new.self.bytes c.args.self.now.is_marked.now
