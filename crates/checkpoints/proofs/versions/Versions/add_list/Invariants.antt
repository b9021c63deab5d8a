use Rattle.std.proofs.Common.{◌≡◌, ◌+◌, ◌<◌, ◌++◌, List, length, take}
use Rattle.rec_format.specs.declared.recording.Recording.{Recording}
use Rattle.rec_format.specs.declared.recording.ListedPage.{ListedPage}
use Rattle.rec_format.specs.Recorded.{checkpoint_at}
use Rattle.checkpoints.specs.Versions.{IsChain, AreListings}
use Rattle.checkpoints.proofs.versions.Versions.add_list.Given as goal

-- the pages so far have their listings
abbrev pub invariant-loop-place : goal.invariant-loop-place
invariant-loop-place l = record {
  chain : IsChain l.self.heads l.self.items.items;
  counts : l.self.counts ≡ l.fn.self.counts;
  long : length l.self.items.items ≡ length l.fn.self.items.items + l.place;
  listed : (rec : Recording) (before : List ListedPage) → 0 < l.at → l.listed ≡ (checkpoint_at rec l.at).pages
      → AreListings rec l.fn.self.items.items before
      → AreListings rec l.self.items.items (before ++ take l.place l.listed);
}
