use Rattle.rec_format.specs.Recorded.{listed_to}
use Rattle.checkpoints.specs.Versions.{IsChain, AreListings, AreCounts}
use Rattle.checkpoints.proofs.versions.Versions.of.Given as goal

abbrev pub invariant-loop-k : goal.invariant-loop-k
invariant-loop-k l = record {
  chain : IsChain l.versions.heads l.versions.items.items;
  listed : AreListings l.rec l.versions.items.items (listed_to l.rec l.k);
  counts : AreCounts l.rec l.k l.versions.counts.items;
}
