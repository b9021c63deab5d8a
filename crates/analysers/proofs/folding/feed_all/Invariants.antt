use Rattle.std.proofs.Common.{◌≡◌, ◌++◌, drop}
use Rattle.std.specs.List.{fold}
use Rattle.analysers.specs.Streams.{told_along}
use Rattle.analysers.proofs.folding.feed_all.Given as goal

-- what is left leads from here to where all leads from the start
abbrev pub invariant-loop-r : goal.invariant-loop-r
invariant-loop-r g l =
    let after = g.S.Stream.after l.stream in
    let told = g.S.Stream.told l.stream in
    record {
      state : fold after l.s (drop l.r-index l.records) ≡ fold after l.fn.s l.records;
      rows : l.out.items ++ told_along after told l.s (drop l.r-index l.records)
          ≡ l.fn.out.items ++ told_along after told l.fn.s l.records;
    }
