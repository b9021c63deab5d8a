use Rattle.std.proofs.Common.{sym}
use Rattle.sl_model.specs.declared.layout.TheConstants.{MOST_PAGES}
use Rattle.page_frames.proofs.Ranges.{room_for_new}
use Rattle.tree_frames.proofs.frames.TreeFrames.map_missing.Goals as goal

pub map_page-requires-clause-few : goal.map_page-requires-clause-few
map_page-requires-clause-few c = room_for_new c.args.self.now.pages c.args.page MOST_PAGES (sym c.in-None.ensures.bytes) c.requires.few
