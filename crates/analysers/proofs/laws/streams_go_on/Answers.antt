use Rattle.std.proofs.lemmas.List.Sums.{fold-append}
use Rattle.analysers.proofs.Pieces.{told_along-append}
use Rattle.analysers.proofs.laws.streams_go_on.Goals as goal

pub returns-clause-rows : goal.returns-clause-rows
returns-clause-rows g c stream s front back = told_along-append (g.S.Stream.after stream)
    (g.S.Stream.told stream) s front back

pub returns-clause-state : goal.returns-clause-state
returns-clause-state g c stream s front back = fold-append (g.S.Stream.after stream) s front back
