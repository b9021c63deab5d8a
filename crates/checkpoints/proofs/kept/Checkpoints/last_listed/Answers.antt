use Rattle.std.proofs.Common.{ap, sym, ◌∙◌}
use Rattle.rec_format.specs.Recorded.{end_place, listed_to}
use Rattle.checkpoints.specs.Versions.{version_of}
use Rattle.checkpoints.proofs.Listings.{last-found, found_bytes, found_none}
use Rattle.checkpoints.proofs.kept.Checkpoints.last_listed.Goals as goal

pub returns-in-Some : goal.returns-in-Some
returns-in-Some c = λ bytes.
    let self = c.args.self.now in
    let all = listed_to self.rec (end_place self.rec) in
    let found = c.find.ensures.index ∙ ap (λ n. version_of self.versions.items.items n c.args.page) c.count_to.ensures.count in
    last-found self.rec self.versions c.args.k c.args.page bytes c.find.result self.listings c.requires found
    ∙ found_bytes all c.in-Some.index c.listing.result.now c.find.result bytes c.in-Some.is c.listing.ensures
    ∙ sym c.as_slice.ensures

pub returns-in-None : goal.returns-in-None
returns-in-None c = λ bytes.
    let self = c.args.self.now in
    let all = listed_to self.rec (end_place self.rec) in
    let found = c.find.ensures.index ∙ ap (λ n. version_of self.versions.items.items n c.args.page) c.count_to.ensures.count in
    last-found self.rec self.versions c.args.k c.args.page bytes c.find.result self.listings c.requires found
    ∙ found_none all c.find.result bytes c.in-None.is
