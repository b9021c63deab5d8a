-- The words that name analyses.
use Rattle.std.specs.Prelude.{ℕ, ◌==◌, nat_eq, List, length, drop, codes, Option, Some, None, option_map, option_and_then, if◌then◌else◌}
use Rattle.std.specs.List.{starts_with, before_first, after_first}
use Rattle.std.specs.Option.{option_or}
use Rattle.std.specs.Str.{bytes_eq}
use Rattle.analysers.specs.declared.kind.KindOf.{KindOf}
use Rattle.analysers.specs.declared.kind.KindOf.TheVariants.{All, Done, Point, Word, Changes, Rising, Open, Count, Sum, Least, Greatest, Hist, First, Last}
use Rattle.analysers.specs.Numbers.{hex_value, number}

-- what stands behind a prefix, where the word begins with it
abbrev pub behind : List ℕ → List ℕ → Option (List ℕ)
behind prefix word =
    if starts_with nat_eq word prefix then Some (drop (length prefix) word) else None

-- a place of a word: one to three digits, up to 255
abbrev pub place_of : List ℕ → Option ℕ
place_of text = number 3 255 text

-- a tracepoint: one or two digits, up to 63
abbrev pub point_of : List ℕ → Option ℕ
point_of text = number 2 63 text

-- what stands before the first colon, and what stands behind it
abbrev pub before_colon : List ℕ → List ℕ
before_colon text = before_first (λ c. c == 58) text

abbrev pub behind_colon : List ℕ → List ℕ
behind_colon text = after_first (λ c. c == 58) text

-- a kind that is a name alone
abbrev pub named : List ℕ → Option KindOf
named word =
    if bytes_eq word (codes "all") then Some All
    else if bytes_eq word (codes "done") then Some Done
    else if bytes_eq word (codes "count") then Some Count
    else if bytes_eq word (codes "first") then Some First
    else if bytes_eq word (codes "last") then Some Last
    else None

-- a kind with a place, behind its name
abbrev pub placed : List ℕ → List ℕ → Option ℕ
placed name word = option_and_then place_of (behind name word)

-- point=T
abbrev pub point_kind : List ℕ → Option KindOf
point_kind word = option_map Point (option_and_then point_of (behind (codes "point=") word))

-- I:V
abbrev pub valued : List ℕ → Option KindOf
valued text =
    option_and_then (λ place. option_map (Word place) (hex_value (behind_colon text)))
    (place_of (before_colon text))

-- word=I:V
abbrev pub word_kind : List ℕ → Option KindOf
word_kind word = option_and_then valued (behind (codes "word=") word)

-- T:U
abbrev pub opened : List ℕ → Option KindOf
opened text =
    option_and_then (λ opens. option_map (Open opens) (point_of (behind_colon text)))
    (point_of (before_colon text))

-- open=T:U
abbrev pub open_kind : List ℕ → Option KindOf
open_kind word = option_and_then opened (behind (codes "open=") word)

-- a kind with a place
abbrev pub place_kind : List ℕ → Option KindOf
place_kind word =
    option_or (option_map Changes (placed (codes "changes=") word))
    (option_or (option_map Rising (placed (codes "rising=") word))
    (option_or (option_map Sum (placed (codes "sum=") word))
    (option_or (option_map Least (placed (codes "least=") word))
    (option_or (option_map Greatest (placed (codes "greatest=") word))
    (option_map Hist (placed (codes "hist=") word))))))

-- the kind that a word names, where it names one
abbrev pub kind_of : List ℕ → Option KindOf
kind_of word =
    option_or (named word)
    (option_or (point_kind word)
    (option_or (word_kind word) (option_or (open_kind word) (place_kind word))))
