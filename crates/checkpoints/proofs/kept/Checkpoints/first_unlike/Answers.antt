use Rattle.checkpoints.proofs.Marked.{first-changed}
use Rattle.checkpoints.proofs.kept.Checkpoints.first_unlike.Goals as goal

pub returns : goal.returns
returns c =
    let self = c.args.self.now in
    first-changed self.opening.pages self.rec c.args.k c.args.f.now c.unlike_listed.result c.requires.some c.requires.within c.requires.holds
    c.unlike_listed.ensures.told (λ q dirty. c.unlike_listed.ensures.keeps q (c.unlike_dirty-dirty.ensures.dirty q dirty)) c.unlike_listed.ensures.listed
