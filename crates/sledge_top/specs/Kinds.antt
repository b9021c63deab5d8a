-- The analyses that words of the command line name.
use Rattle.std.specs.Prelude.{◌≡◌, ℕ, ◌+◌, List, [], ◌∷◌, Option, Some, None, Result, Ok, Err}
use Rattle.std.proofs.Common.{refl}
use Rattle.analysers.specs.declared.kind.Kind.{Kind}
use Rattle.analysers.specs.declared.kind.KindOf.{KindOf}
use Rattle.analysers.specs.Kinds.{kind_of}
use Rattle.report.specs.declared.status.Refusal.{Refusal}
use Rattle.report.specs.declared.status.Refusal.TheVariants as refusal

-- a word and what it says, where it says something
abbrev pub kind_with : (word : List ℕ) (what : Option KindOf) → kind_of word ≡ what → Option Kind
kind_with word None reads = None
kind_with word (Some what) reads = Some (record { word = word; what = what; reads = reads })

-- the kind that a word names
abbrev pub kind_named : List ℕ → Option Kind
kind_named word = kind_with word (kind_of word) refl

-- a kind before others; the position of a word that names none
abbrev pub before : ℕ → Option Kind → Result (List Kind) Refusal → Result (List Kind) Refusal
before position None kinds = Err (refusal.AnalysisRefused position)
before position (Some kind) (Ok kinds) = Ok (kind ∷ kinds)
before position (Some kind) (Err why) = Err why

-- The kinds that words name, the first word having this position; or the position of the first word
-- that names none.
abbrev pub kinds_from : ℕ → List (List ℕ) → Result (List Kind) Refusal
kinds_from position [] = Ok []
kinds_from position (word ∷ words) =
    before position (kind_named word) (kinds_from (position + 1) words)

-- the same of all words of a command, from position 1
abbrev pub kinds_of : List (List ℕ) → Result (List Kind) Refusal
kinds_of words = kinds_from 1 words
