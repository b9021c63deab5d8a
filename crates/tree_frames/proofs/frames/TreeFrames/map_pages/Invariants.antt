use Rattle.std.specs.Prelude.{◌≡◌, ◌+◌, ◌-◌}
use Rattle.sl_model.specs.Mapping.{map_pages}
use Rattle.page_frames.specs.MarkedPages.{with_pages}
use Rattle.tree_frames.proofs.frames.TreeFrames.map_pages.Given as goal

abbrev pub invariant-loop-page : goal.invariant-loop-page
invariant-loop-page l = record {
  left : with_pages l.self l.page (l.first + l.count - l.page) ≡ with_pages l.fn.self l.first l.count;
  pages : map_pages l.self.pages l.page (l.first + l.count - l.page) ≡ map_pages l.fn.self.pages l.first l.count;
}
