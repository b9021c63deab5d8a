use Rattle.std.proofs.Common.{◌+◌, ap, ◌∙◌, sym, arith}
use Rattle.sl_model.specs.Mapping.{map_pages}
use Rattle.sl_model.specs.declared.layout.TheConstants.{MOST_PAGES}
use Rattle.sl_model.proofs.Mapping.{map_pages_step, map_pages_done}
use Rattle.page_frames.proofs.Ranges.{pages-with_page, with_pages_step, with_pages_done, room_for_next}
use Rattle.tree_frames.proofs.frames.TreeFrames.map_pages.Goals as goal

pub map_missing-requires-clause-few : goal.map_missing-requires-clause-few
map_missing-requires-clause-few c =
    room_for_next c.loop-page.self.pages (map_pages c.args.self.now.pages c.args.first c.args.count) c.loop-page.page (c.args.first + c.args.count) MOST_PAGES (omega arith) c.loop-page.invariant.pages c.requires.few

pub loop-page-preserved : goal.loop-page-preserved
loop-page-preserved c =
    let old = c.loop-page.self in
    let page = c.loop-page.page in
    let mapped = ap (λ m. m.pages) c.in_ok-map_missing.ensures ∙ pages-with_page old page in
    record {
      left = with_pages_step old c.map_missing.new.self page (c.args.first + c.args.count) (omega arith) c.in_ok-map_missing.ensures ∙ c.loop-page.invariant.left;
      pages = map_pages_step old.pages c.map_missing.new.self.pages page (c.args.first + c.args.count) (omega arith) mapped ∙ c.loop-page.invariant.pages;
    }

pub returns-clause-ok : goal.returns-clause-ok
returns-clause-ok c = sym (with_pages_done c.loop-page.self c.loop-page.page (c.args.first + c.args.count) (omega arith)) ∙ c.loop-page.invariant.left

pub returns-clause-pages : goal.returns-clause-pages
returns-clause-pages c = sym (map_pages_done c.loop-page.self.pages c.loop-page.page (c.args.first + c.args.count) (omega arith)) ∙ c.loop-page.invariant.pages
