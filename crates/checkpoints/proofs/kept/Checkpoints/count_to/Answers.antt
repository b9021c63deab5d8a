use Rattle.std.proofs.Common.{arith}
use Rattle.rec_format.specs.Recorded.{end_place}
use Rattle.checkpoints.proofs.Listings.{counted, length-versions, length-listed_le}
use Rattle.checkpoints.proofs.kept.Checkpoints.count_to.Goals as goal

pub returns-clause-within : goal.returns-clause-within
returns-clause-within c =
    let self = c.args.self.now in
    omega (
      arith,
      counted self.rec self.versions c.args.k c.index.result.now self.listings c.requires c.index.ensures,
      length-versions self.rec self.versions self.listings,
      length-listed_le self.rec c.args.k (end_place self.rec) c.requires (omega arith),
      self.versions.items.ok.0,
    )
