-- Labels: a label's value is the start of its section and the sizes of the lines before it in that
-- section.
use Rattle.std.specs.Prelude.{◌≡◌, ℕ, ◌+◌, ◌^◌, ◌<◌, Bool, List, [], ◌∷◌, ◌++◌, map, find, Option, Some, None, bytes_eq, if◌then◌else◌}
use Rattle.std.specs.List.{list_any, AllByRecursion}
use Rattle.std.specs.Option.{option_map, option_or}
use Rattle.std.specs.Borrow.{Bor}
use Rattle.std.specs.Ordering.{nat_cmp}
use Rattle.std.specs.Cmp.Lexicographic.{slice_cmp}
use Rattle.std.specs.BTreeMap.{BTreeMap, get_by}
use Rattle.asm_text.specs.Lines.{labels_of}
use Rattle.rv_asm.specs.declared.place.Place.{Place}
use Rattle.rv_asm.specs.declared.place.Spot.{Spot}
use Rattle.rv_asm.specs.declared.place.Label.{Label}
use Rattle.rv_asm.specs.Places.{offset, section_start, place_after}

abbrev pub spot_of : Place → Spot
spot_of place = record { section = place.section; offset = offset place }

abbrev pub label_at : Place → ℕ → List ℕ → Label
label_at place number name = record { name = name; spot = spot_of place; line = number }

-- the labels of lines, of which the first has a number and stands at a place
abbrev pub labels_in : Place → ℕ → List (List ℕ) → List Label
labels_in place number [] = []
labels_in place number (line ∷ lines) =
    map (label_at place number) (labels_of line)
    ++ labels_in (place_after place line) (number + 1) lines

abbrev pub is_named : List ℕ → Label → Bool
is_named name label = bytes_eq label.name name

-- where the first label with a name stands
abbrev pub spot_named : List ℕ → List Label → Option Spot
spot_named name labels = option_map (λ label. label.spot) (find (is_named name) labels)

-- the address of a spot, where data starts at an address
abbrev pub address_of : ℕ → Spot → ℕ
address_of data_at spot = section_start data_at spot.section + spot.offset

-- the value of a name, which is that of its first label
abbrev pub value_named : ℕ → List Label → List ℕ → Option ℕ
value_named data_at labels name = option_map (address_of data_at) (spot_named name labels)

-- ---- doubled labels

-- the line of a label, if an earlier one has its name
abbrev pub doubling : List Label → Label → Option ℕ
doubling earlier label = if list_any (is_named label.name) earlier then Some label.line else None

-- the line of the first label whose name an earlier one has
abbrev pub doubled_among : List Label → List Label → Option ℕ
doubled_among earlier [] = None
doubled_among earlier (label ∷ labels) =
    option_or (doubling earlier label) (doubled_among (earlier ++ label ∷ []) labels)

abbrev pub doubled_line : List Label → Option ℕ
doubled_line labels = doubled_among [] labels

-- ---- what the code keeps

-- the map has the spot of the first label at each name
abbrev pub IsIndex : BTreeMap (Bor (List ℕ)) Spot → List Label → Type 0
IsIndex spots labels =
    (name : List ℕ) → get_by (λ key. slice_cmp nat_cmp name key.now) spots ≡ spot_named name labels

-- no offset comes near to 2^64
abbrev pub IsNear : Label → Type 0
IsNear label = label.spot.offset < 2 ^ 62

pub record AreKept
    (spots : BTreeMap (Bor (List ℕ)) Spot) (doubled : Option ℕ) (labels : List Label) : Type 0 where
  pub index : IsIndex spots labels
  pub first : doubled ≡ doubled_line labels
  pub near : AllByRecursion IsNear labels
