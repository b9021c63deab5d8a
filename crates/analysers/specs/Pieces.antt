-- What analyses give of records that stand in pieces, one after the other.
use Rattle.std.specs.Prelude.{Bool, ⊤, List, ◌++◌, map, Option, Some, None, option_map, option_to_list, is_none}
use Rattle.std.specs.List.{flat_map, zip}
use Rattle.tracer_lang.specs.declared.record.Record.{Record}
use Rattle.analysers.specs.declared.kind.Kind.{Kind}
use Rattle.analysers.specs.declared.kind.KindOf.{KindOf}
use Rattle.analysers.specs.declared.class.Class.{Class}
use Rattle.analysers.specs.declared.class.Class.TheVariants as class
use Rattle.analysers.specs.declared.trees.TreeKind.{TreeKind}
use Rattle.analysers.specs.declared.part.Part.{Part}
use Rattle.analysers.specs.declared.row.Row.{Row}
use Rattle.analysers.specs.declared.merged.Merged.{Merged}
use Rattle.analysers.specs.Analyses.{class_of, part_of_all, analyse}
use Rattle.analysers.specs.Parts.{join_parts}

-- the tree, where it is worked out in parts
abbrev pub tree_in : Class → Option TreeKind
tree_in (class.Local local) = None
tree_in (class.Changes changes) = None
tree_in (class.Rising rising) = None
tree_in (class.Open pairs) = None
tree_in (class.Tree tree) = Some tree

abbrev pub tree_of : KindOf → Option TreeKind
tree_of what = tree_in (class_of what)

-- the part that records make for a kind, where it is worked out in parts
abbrev pub own_part : List Record → Kind → List Part
own_part rs kind =
    option_to_list (option_map (λ tree. part_of_all tree rs) (tree_of kind.what))

-- the parts that records make: one for each tree kind, in the order of the kinds
unfoldable pub parts_of : List Kind → List Record → List Part
parts_of kinds rs = flat_map (own_part rs) kinds

-- the parts of two lists of records together, from those of each
abbrev pub join_each : List Part → List Part → List Part
join_each lefts rights = map (λ pair. join_parts pair.0 pair.1) (zip lefts rights)

-- the kind is worked out from the records themselves
abbrev pub reads_records : Kind → Bool
reads_records kind = is_none (tree_of kind.what)

-- the pieces one after the other
abbrev pub in_one : List (List Record) → List Record
in_one pieces = flat_map (λ piece. piece) pieces

-- the rows of each analysis over all records
unfoldable pub rows_of : List Kind → List Record → List (List Row)
rows_of kinds rs = map (λ (kind : Kind). analyse kind.what rs) kinds

abbrev pub merged_of : List Kind → List Record → Merged
merged_of kinds rs = record { rows = rows_of kinds rs }
