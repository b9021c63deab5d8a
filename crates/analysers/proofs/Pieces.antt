-- A stream that is fed in pieces.
use Rattle.std.proofs.Common.{◌≡◌, List, [], ◌∷◌, ◌++◌, refl, sym, ap, ◌∙◌, append_assoc}
use Rattle.std.specs.List.{fold}
use Rattle.std.proofs.lemmas.List.Sums.{fold-append}
use Rattle.tracer_lang.specs.declared.record.Record.{Record}
use Rattle.analysers.specs.declared.row.Row.{Row}
use Rattle.analysers.specs.Streams.{told_along}
use Rattle.analysers.specs.Pieces.{in_one}

pub told_along-append : {S : Type 0} (after : S → Record → S) (told : S → Record
    → List Row) (s : S) (front back : List Record)
    → told_along after told s (front ++ back) ≡ told_along after told s front ++ told_along after
    told (fold after s front) back
told_along-append after told s [] back = refl
told_along-append after told s (r ∷ front) back =
    ap (λ (rows : List Row). told s r ++ rows) (told_along-append after told (after s r) front back)
    ∙ sym (append_assoc (told s r) (told_along after told (after s r) front)
    (told_along after told (fold after (after s r) front) back))

-- ---- the first of the pieces is fed

pub state_more : {S : Type 0} (after : S → Record → S) (s fed end : S) (piece : List Record)
    (pieces all : List (List Record)) → all ≡ piece ∷ pieces → fed ≡ fold after s piece
    → fold after s (in_one all) ≡ end → fold after fed (in_one pieces) ≡ end
state_more after s fed end piece pieces all split is whole =
    ap (λ u. fold after u (in_one pieces)) is
    ∙ sym (fold-append after s piece (in_one pieces))
    ∙ ap (λ (ps : List (List Record)). fold after s (in_one ps)) (sym split)
    ∙ whole

pub rows_more : {S : Type 0} (after : S → Record → S) (told : S → Record → List Row) (s fed : S)
    (piece : List Record) (pieces all : List (List Record)) (out more whole : List Row)
    → all ≡ piece ∷ pieces → fed ≡ fold after s piece → more ≡ out ++ told_along after told s piece
    → out ++ told_along after told s (in_one all) ≡ whole
    → more ++ told_along after told fed (in_one pieces) ≡ whole
rows_more after told s fed piece pieces all out more whole split is pushed total =
    let rest = in_one pieces in
    ap (λ (rows : List Row). rows ++ told_along after told fed rest) pushed
    ∙ ap (λ u. (out ++ told_along after told s piece) ++ told_along after told u rest) is
    ∙ append_assoc out (told_along after told s piece)
    (told_along after told (fold after s piece) rest)
    ∙ ap (λ (rows : List Row). out ++ rows) (sym (told_along-append after told s piece rest))
    ∙ ap (λ (ps : List (List Record)). out ++ told_along after told s (in_one ps)) (sym split)
    ∙ total
