use Rattle.std.proofs.Common.{◌≡◌, take}
use Rattle.std.specs.List.{flat_map}
use Rattle.call_recorder.specs.Listing.{changed_page}
use Rattle.call_recorder.specs.Kept.{recorded_in}
use Rattle.call_recorder.proofs.changes.changed_pages.Given as goal

abbrev pub invariant-loop-number : goal.invariant-loop-number
invariant-loop-number l =
    l.pages ≡ flat_map (changed_page (recorded_in l.memory) l.f.pages) (take l.number-index l.number-items)
