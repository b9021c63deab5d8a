use Rattle.std.proofs.Common.{◌∙◌, ap, arith}
use Rattle.std.specs.FinMap.{len, empty}
use Rattle.sl_model.specs.Mapping.{map_pages}
use Rattle.sl_model.specs.declared.layout.TheConstants.{FIRST_STACK_PAGE, STACK_PAGES}
use Rattle.replay.specs.Opening.{map_segments}
use Rattle.replay.proofs.OpeningPages.{len-segments, len-mapped}
use Rattle.replay.proofs.loading.map_memory.Goals as goal

pub map_segments-requires-clause-few : goal.map_segments-requires-clause-few
map_segments-requires-clause-few c =
    let same = ap (λ pages. len (map_segments pages c.as_slice.result.now)) c.in_ok-frames.ensures.pages ∙ ap (λ segments. len (map_segments empty segments)) c.as_slice.ensures in
    omega (arith, same, len-segments c.args.image.now c.requires)

pub map_pages-requires-clause-few : goal.map_pages-requires-clause-few
map_pages-requires-clause-few c =
    let same = c.in_ok-map_segments.ensures ∙ ap (λ pages. map_segments pages c.as_slice.result.now) c.in_ok-frames.ensures.pages ∙ ap (map_segments empty) c.as_slice.ensures in
    omega (arith, ap (λ pages. len (map_pages pages FIRST_STACK_PAGE STACK_PAGES)) same, len-mapped c.args.image.now c.requires)
