-- The analyses whose parts can be joined.
use Rattle.std.specs.Prelude.{◌≡◌, ℕ, ◌%◌, ◌^◌, ◌<◌, ⊤, List, [], ◌∷◌, fold, Option, Some, None, unwrap_or}
use Rattle.std.specs.Option.{option_or}
use Rattle.tracer_lang.specs.declared.record.Record.{Record}
use Rattle.analysers.specs.declared.part.Bin.{Bin}
use Rattle.analysers.specs.declared.part.Part.{Part}
use Rattle.analysers.specs.declared.part.Part.TheVariants as part
use Rattle.analysers.specs.declared.trees.TreeKind.{TreeKind}
use Rattle.analysers.specs.declared.trees.TreeKind.TheVariants.{Count, Sum, Least, Greatest, Hist, First, Last}
use Rattle.analysers.specs.Bins.{IsRising, AreCounts, added, join_bins}
use Rattle.analysers.specs.Words.{word_at, lesser, greater}

-- a part of no records
abbrev pub no_part : TreeKind → Part
no_part Count = part.Count 0
no_part (Sum place) = part.Sum 0
no_part (Least place) = part.Least None
no_part (Greatest place) = part.Greatest None
no_part (Hist place) = part.Hist []
no_part First = part.First None
no_part Last = part.Last None

-- the bin of a word, where there is one
abbrev pub bin_of : Option ℕ → List Bin
bin_of None = []
bin_of (Some word) = (record { value = word; count = 1 }) ∷ []

-- the part of one record
abbrev pub part_of : TreeKind → Record → Part
part_of Count r = part.Count 1
part_of (Sum place) r = part.Sum (unwrap_or (word_at place r) 0 % 2 ^ 64)
part_of (Least place) r = part.Least (word_at place r)
part_of (Greatest place) r = part.Greatest (word_at place r)
part_of (Hist place) r = part.Hist (bin_of (word_at place r))
part_of First r = part.First (Some r)
part_of Last r = part.Last (Some r)

-- the part of both; parts of two kinds are never joined
abbrev pub join_parts : Part → Part → Part
join_parts (part.Count m) (part.Count n) = part.Count (added m n)
join_parts (part.Sum m) (part.Sum n) = part.Sum (added m n)
join_parts (part.Least a) (part.Least b) = part.Least (lesser a b)
join_parts (part.Greatest a) (part.Greatest b) = part.Greatest (greater a b)
join_parts (part.Hist a) (part.Hist b) = part.Hist (join_bins a b)
join_parts (part.First a) (part.First b) = part.First (option_or a b)
join_parts (part.Last a) (part.Last b) = part.Last (option_or b a)
join_parts left right = left

-- the part is one of this kind: numbers are of 64 bits, and the words of a histogram rise
abbrev pub Fits : TreeKind → Part → Type 0
Fits Count p = (n : ℕ) × (p ≡ part.Count n) × (n < 2 ^ 64)
Fits (Sum place) p = (n : ℕ) × (p ≡ part.Sum n) × (n < 2 ^ 64)
Fits (Least place) p = (word : Option ℕ) × (p ≡ part.Least word)
Fits (Greatest place) p = (word : Option ℕ) × (p ≡ part.Greatest word)
Fits (Hist place) p = (bins : List Bin) × (p ≡ part.Hist bins) × IsRising bins × AreCounts bins
Fits First p = (r : Option Record) × (p ≡ part.First r)
Fits Last p = (r : Option Record) × (p ≡ part.Last r)

-- what a join needs: the words of a histogram rise
abbrev pub IsSound : Part → Type 0
IsSound (part.Count n) = ⊤
IsSound (part.Sum n) = ⊤
IsSound (part.Least word) = ⊤
IsSound (part.Greatest word) = ⊤
IsSound (part.Hist bins) = IsRising bins
IsSound (part.First r) = ⊤
IsSound (part.Last r) = ⊤

-- the left fold of the values of each, from that of none
abbrev pub folded : {X V : Type 0} → V → (X → V) → (V → V → V) → List X → V
folded empty single joined xs = fold (λ v x. joined v (single x)) empty xs
