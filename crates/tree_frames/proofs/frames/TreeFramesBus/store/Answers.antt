use Rattle.std.proofs.Common.{◌∙◌}
use Rattle.sl_model.specs.Pages.{low_bytes}
use Rattle.page_frames.proofs.Stored.{is_some-store_at, pages-stored, marks-stored}
use Rattle.tree_frames.proofs.frames.TreeFramesBus.store.Goals as goal

pub returns-clause-mapped : goal.returns-clause-mapped
returns-clause-mapped c = c.put.ensures.mapped ∙ is_some-store_at c.args.self.now.pages c.args.addr c.args.width c.args.value

pub returns-clause-bytes : goal.returns-clause-bytes
returns-clause-bytes c = pages-stored c.args.self.now c.put.new.self c.args.addr c.args.width c.args.value c.put.result c.put.ensures.mapped c.put.ensures.contents

pub returns-clause-marks : goal.returns-clause-marks
returns-clause-marks c = marks-stored c.args.self.now c.put.new.self c.args.addr (low_bytes c.args.width c.args.value) c.put.result c.put.ensures.contents
