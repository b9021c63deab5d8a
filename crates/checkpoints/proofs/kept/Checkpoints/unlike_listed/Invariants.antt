use Rattle.std.proofs.Common.{◌≡◌, ℕ, true, take}
use Rattle.rec_format.specs.Recorded.{is_listed}
use Rattle.checkpoints.specs.Memory.{IsUnlike, IsCompared}
use Rattle.checkpoints.proofs.kept.Checkpoints.unlike_listed.Given as goal

abbrev pub invariant-loop-listing : goal.invariant-loop-listing
invariant-loop-listing l = record {
  told : IsUnlike l.self.opening.pages l.self.rec l.k l.f.pages l.least;
  keeps : (q : ℕ) → IsCompared l.self.opening.pages l.self.rec l.k l.f.pages l.fn.known q
      → IsCompared l.self.opening.pages l.self.rec l.k l.f.pages l.least q;
  listed : (q : ℕ) → is_listed (take l.listing-index l.listing-items) q ≡ true
      → IsCompared l.self.opening.pages l.self.rec l.k l.f.pages l.least q;
}
