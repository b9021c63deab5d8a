use Rattle.std.proofs.Common.{◌≡◌, sym, ◌∙◌, true, eqb, arith}
use Rattle.std.specs.List.{list_any}
use Rattle.rec_format.specs.Recorded.{end_place, listed_to}
use Rattle.checkpoints.proofs.Listings.{stands_for, same_item, IsListedPage-at}
use Rattle.checkpoints.proofs.Puts.{put-later}
use Rattle.checkpoints.proofs.kept.Checkpoints.put_listing.Goals as goal

pub put_page-requires : goal.put_page-requires
put_page-requires c =
    let self = c.args.self.now in
    IsListedPage-at self.rec (end_place self.rec) c.args.index c.listing.result.now self.is_value c.listing.ensures

pub returns-else-not-is_dirty : goal.returns-else-not-is_dirty
returns-else-not-is_dirty c = λ before later page at are.
    let self = c.args.self.now in
    let old = c.args.frames.now in
    let v = c.index.result.now in
    let stands = stands_for self.rec self.versions c.args.index v self.listings (omega (arith, c.requires, self.versions.items.ok.0)) c.index.ensures in
    let same = same_item (listed_to self.rec (end_place self.rec)) c.args.index stands.listed page stands.at at in
    let dirty : list_any (eqb v.page) old.dirty ≡ true = sym c.is_dirty.ensures ∙ c.if-not-is_dirty.false in
    put-later before page later old are (rw (← same, stands.is.page) dirty)
