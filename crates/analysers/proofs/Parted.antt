-- The parts of pieces, and what the steps through the kinds keep.
use Rattle.std.proofs.Common.{◌≡◌, ℕ, ◌<◌, Bool, true, false, ◌||◌, List, [], ◌∷◌, ◌++◌, map, take, drop, get_or, refl, sym, ap, subst, ◌∙◌}
use Rattle.std.specs.Prelude.{Option, Some, None, option_map, option_to_list}
use Rattle.std.specs.List.{All, flat_map, zip}
use Rattle.std.proofs.lemmas.List.{take-append-drop, append-nil, map_push}
use Rattle.std.proofs.lemmas.Option.{same_Some}
use Rattle.std.proofs.lemmas.List.Concat.{flat_map-append}
use Rattle.std.proofs.lemmas.List.Elements.{All-nil, All-cons}
use Rattle.tracer_lang.specs.declared.record.Record.{Record}
use Rattle.analysers.specs.declared.kind.Kind.{Kind}
use Rattle.analysers.specs.declared.part.Part.{Part}
use Rattle.analysers.specs.declared.part.Part.TheVariants as part
use Rattle.analysers.specs.declared.trees.TreeKind.{TreeKind}
use Rattle.analysers.specs.declared.trees.TreeKind.TheVariants.{Count, Sum, Least, Greatest, Hist, First, Last}
use Rattle.analysers.specs.declared.kind.KindOf.{KindOf}
use Rattle.analysers.specs.declared.class.Class.{Class}
use Rattle.analysers.specs.declared.class.Class.TheVariants as class
use Rattle.analysers.specs.declared.row.Row.{Row}
use Rattle.analysers.specs.Analyses.{class_of, part_of_all, part_rows, rows_by, analyse}
use Rattle.analysers.specs.Parts.{Fits, IsSound, no_part, part_of, join_parts}
use Rattle.analysers.specs.Pieces.{tree_in, tree_of, own_part, parts_of, join_each, rows_of, in_one}
use Rattle.analysers.specs.TreeLaws.{part_of-fits}
use Rattle.analysers.proofs.Folds.{folded-append, folded-fits}
use Rattle.analysers.proofs.Meant.{laws_of}

-- ---- one kind

each_fits : (kind : TreeKind) (rs : List Record) → All (λ (r : Record). Fits kind (part_of kind r)) rs
each_fits kind rs k d less = part_of-fits kind (get_or rs k d)

part-append : (kind : TreeKind) (front back : List Record)
    → part_of_all kind (front ++ back) ≡ join_parts (part_of_all kind front) (part_of_all kind back)
part-append kind front back =
    folded-append (Fits kind) (no_part kind) (part_of kind) join_parts (laws_of kind) front back
    (each_fits kind front) (each_fits kind back)

pub fits-sound : (kind : TreeKind) (p : Part) → Fits kind p → IsSound p
fits-sound Count p (n, is, fits) = subst IsSound (sym is) tt
fits-sound (Sum place) p (n, is, fits) = subst IsSound (sym is) tt
fits-sound (Least place) p (word, is) = subst IsSound (sym is) tt
fits-sound (Greatest place) p (word, is) = subst IsSound (sym is) tt
fits-sound (Hist place) p (bins, is, rising, counts) = subst IsSound (sym is) rising
fits-sound First p (r, is) = subst IsSound (sym is) tt
fits-sound Last p (r, is) = subst IsSound (sym is) tt

part-sound : (kind : TreeKind) (rs : List Record) → IsSound (part_of_all kind rs)
part-sound kind rs =
    fits-sound kind (part_of_all kind rs)
    (folded-fits (Fits kind) (no_part kind) (part_of kind) join_parts (laws_of kind) rs
    (each_fits kind rs))

-- ---- the parts of all kinds

abbrev own : List Record → Option TreeKind → List Part
own rs tree = option_to_list (option_map (λ (t : TreeKind). part_of_all t rs) tree)

one_more : (tree : Option TreeKind) (front back : List Record) (all lefts rights : List Part)
    → all ≡ join_each lefts rights
    → own (front ++ back) tree ++ all ≡ join_each (own front tree ++ lefts) (own back tree ++ rights)
one_more None front back all lefts rights is = is
one_more (Some tree) front back all lefts rights is =
    ap (λ (p : Part). p ∷ all) (part-append tree front back)
    ∙ ap (λ (ps : List Part). join_parts (part_of_all tree front) (part_of_all tree back) ∷ ps) is

pub parts-append : (kinds : List Kind) (front back : List Record)
    → parts_of kinds (front ++ back) ≡ join_each (parts_of kinds front) (parts_of kinds back)
unfolding parts_of
parts-append [] front back = refl
parts-append (kind ∷ kinds) front back =
    one_more (tree_of kind.what) front back (parts_of kinds (front ++ back)) (parts_of kinds front)
    (parts_of kinds back) (parts-append kinds front back)

sound_more : (tree : Option TreeKind) (rs : List Record) (ps : List Part) → All IsSound ps
    → All IsSound (own rs tree ++ ps)
sound_more None rs ps sound = sound
sound_more (Some tree) rs ps sound =
    All-cons IsSound (part_of_all tree rs) ps (part-sound tree rs) sound

pub parts-sound : (kinds : List Kind) (rs : List Record) → All IsSound (parts_of kinds rs)
unfolding parts_of
parts-sound [] rs = All-nil IsSound
parts-sound (kind ∷ kinds) rs =
    sound_more (tree_of kind.what) rs (parts_of kinds rs) (parts-sound kinds rs)

-- ---- pieces

pub in_one-append : (front back : List (List Record)) → in_one (front ++ back) ≡ in_one front ++ in_one back
in_one-append front back = flat_map-append (λ (piece : List Record). piece) front back

-- where the pieces are cut in two, the parts of all are those of the two, joined
pub parts-cut : (kinds : List Kind) (pieces : List (List Record)) (n : ℕ)
    → join_each (parts_of kinds (in_one (take n pieces))) (parts_of kinds (in_one (drop n pieces)))
    ≡ parts_of kinds (in_one pieces)
parts-cut kinds pieces n =
    let front = take n pieces in
    let back = drop n pieces in
    sym (parts-append kinds (in_one front) (in_one back))
    ∙ ap (parts_of kinds) (sym (in_one-append front back))
    ∙ ap (λ (ps : List (List Record)). parts_of kinds (in_one ps)) (take-append-drop n pieces)

pub only_piece : (kinds : List Kind) (pieces : List (List Record)) (parts : List Part)
    → parts ∷ [] ≡ map (parts_of kinds) pieces → parts ≡ parts_of kinds (in_one pieces)
only_piece kinds [] parts is = absurd (cc)
only_piece kinds (piece ∷ []) parts is =
    let own : parts ≡ parts_of kinds piece = cc in
    own ∙ ap (parts_of kinds) (sym (append-nil piece))
only_piece kinds (piece ∷ other ∷ pieces) parts is = absurd (cc)

-- ---- the first of the kinds that are left

pub parts-cons : (kind : Kind) (kinds : List Kind) (rs : List Record)
    → parts_of (kind ∷ kinds) rs ≡ own_part rs kind ++ parts_of kinds rs
unfolding parts_of
parts-cons kind kinds rs = refl

pub own_is : (kind : Kind) (tree : TreeKind) (rs : List Record) → tree_of kind.what ≡ Some tree
    → own_part rs kind ≡ part_of_all tree rs ∷ []
own_is kind tree rs is = ap (own rs) is

rows_in : (class : Class) (tree : TreeKind) (rs : List Record) → tree_in class ≡ Some tree
    → rows_by class rs ≡ part_rows (part_of_all tree rs)
rows_in (class.Local local) tree rs is = absurd (cc)
rows_in (class.Changes changes) tree rs is = absurd (cc)
rows_in (class.Rising rising) tree rs is = absurd (cc)
rows_in (class.Open pairs) tree rs is = absurd (cc)
rows_in (class.Tree own) tree rs is =
    ap (λ (t : TreeKind). part_rows (part_of_all t rs)) (same_Some own tree is)

pub tree_rows : (what : KindOf) (tree : TreeKind) (rs : List Record) → tree_of what ≡ Some tree
    → analyse what rs ≡ part_rows (part_of_all tree rs)
unfolding analyse
tree_rows what tree rs is = rows_in (class_of what) tree rs is

pub rows-nil : (rs : List Record) → rows_of [] rs ≡ []
unfolding rows_of
rows-nil rs = refl

pub rows-push : (kinds : List Kind) (kind : Kind) (rs : List Record)
    → rows_of (kinds ++ kind ∷ []) rs ≡ rows_of kinds rs ++ analyse kind.what rs ∷ []
unfolding rows_of
rows-push kinds kind rs = map_push (λ (k : Kind). analyse k.what rs) kinds kind

pub or_true : (b : Bool) → b || true ≡ true
or_true false = refl
or_true true = refl
