-- What an analysis gives of records.
use Rattle.std.specs.Prelude.{List, [], ◌∷◌, map, filter, None, option_to_list}
use Rattle.tracer_lang.specs.declared.record.Record.{Record}
use Rattle.analysers.specs.declared.kind.KindOf.{KindOf}
use Rattle.analysers.specs.declared.kind.KindOf.TheVariants as kind
use Rattle.analysers.specs.declared.local.LocalKind.TheVariants as local
use Rattle.analysers.specs.declared.trees.TreeKind.{TreeKind}
use Rattle.analysers.specs.declared.trees.TreeKind.TheVariants as tree
use Rattle.analysers.specs.declared.class.Class.{Class}
use Rattle.analysers.specs.declared.class.Class.TheVariants as class
use Rattle.analysers.specs.declared.part.Bin.{Bin}
use Rattle.analysers.specs.declared.part.Part.{Part}
use Rattle.analysers.specs.declared.part.Part.TheVariants as part
use Rattle.analysers.specs.declared.row.Row.{Row}
use Rattle.analysers.specs.declared.row.Row.TheVariants as row
use Rattle.analysers.specs.Locals.{passes}
use Rattle.analysers.specs.Streams.{stream_rows, changed, last_word, risen, greatest_word, unopened, open_after}
use Rattle.analysers.specs.Parts.{no_part, part_of, join_parts, folded}

-- how each kind is worked out
abbrev pub class_of : KindOf → Class
class_of kind.All = class.Local local.All
class_of kind.Done = class.Local local.Done
class_of (kind.Point point) = class.Local (local.Point point)
class_of (kind.Word place value) = class.Local (local.Word place value)
class_of (kind.Changes place) = class.Changes (record { place = place })
class_of (kind.Rising place) = class.Rising (record { place = place })
class_of (kind.Open opens closes) = class.Open (record { opens = opens; closes = closes })
class_of kind.Count = class.Tree tree.Count
class_of (kind.Sum place) = class.Tree (tree.Sum place)
class_of (kind.Least place) = class.Tree (tree.Least place)
class_of (kind.Greatest place) = class.Tree (tree.Greatest place)
class_of (kind.Hist place) = class.Tree (tree.Hist place)
class_of kind.First = class.Tree tree.First
class_of kind.Last = class.Tree tree.Last

-- the part that all the records make: one fold
abbrev pub part_of_all : TreeKind → List Record → Part
part_of_all tree rs = folded (no_part tree) (part_of tree) join_parts rs

-- the rows of a part
abbrev pub part_rows : Part → List Row
part_rows (part.Count n) = row.Number n ∷ []
part_rows (part.Sum n) = row.Number n ∷ []
part_rows (part.Least word) = map row.Word (option_to_list word)
part_rows (part.Greatest word) = map row.Word (option_to_list word)
part_rows (part.Hist bins) = map (λ (bin : Bin). row.Bin bin.value bin.count) bins
part_rows (part.First r) = map row.Of (option_to_list r)
part_rows (part.Last r) = map row.Of (option_to_list r)

-- the rows by the way in which they are worked out
abbrev pub rows_by : Class → List Record → List Row
rows_by (class.Local local) rs = map row.Of (filter (passes local) rs)
rows_by (class.Changes changes) rs =
    stream_rows None (last_word changes.place) (changed changes.place) (λ _. []) rs
rows_by (class.Rising rising) rs =
    stream_rows None (greatest_word rising.place) (risen rising.place) (λ _. []) rs
rows_by (class.Open pairs) rs =
    stream_rows [] (open_after pairs.opens pairs.closes) (unopened pairs.opens pairs.closes)
    (map row.Of) rs
rows_by (class.Tree tree) rs = part_rows (part_of_all tree rs)

-- the rows of an analysis over all records
unfoldable pub analyse : KindOf → List Record → List Row
analyse what rs = rows_by (class_of what) rs
