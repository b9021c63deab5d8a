-- Labels as they are added.
use Rattle.std.proofs.Common.{◌≡◌, ℕ, ◌+◌, ◌<◌, ◌^◌, Bool, ◌||◌, cond, true, false, List, [], ◌∷◌, ◌++◌, refl, sym, ap, ◌∙◌, subst, arith, append_assoc}
use Rattle.std.specs.Prelude.{Option, Some, None, find, is_some, IfSome, ⊤}
use Rattle.std.specs.Str.{bytes_eq}
use Rattle.std.specs.Borrow.{Bor}
use Rattle.std.specs.List.{list_any, AllByRecursion}
use Rattle.std.specs.Option.{option_map, option_or}
use Rattle.std.specs.Ordering.{nat_cmp}
use Rattle.std.specs.Cmp.Lexicographic.{slice_cmp}
use Rattle.std.specs.BTreeMap.{BTreeMap, get_by, UpdatesBy}
use Rattle.std.specs.Map.{update}
use Rattle.std.proofs.lemmas.List.{append-nil}
use Rattle.std.proofs.lemmas.Map.Text.{btree_map_updates_str}
use Rattle.std.proofs.lemmas.Bool.{cond-true, cond-false}
use Rattle.std.proofs.lemmas.Slice.Eq.{bytes_eq-Decides}
use Rattle.rv_asm.specs.declared.place.Label.{Label}
use Rattle.rv_asm.specs.declared.place.Spot.{Spot}
use Rattle.rv_asm.specs.Labels.{is_named, spot_named, doubling, doubled_among, doubled_line, IsIndex, IsNear, AreKept}

-- one label more
abbrev one_more : Bool → Label → Option Spot → Option Spot
one_more is label found = option_or found (cond is (Some label.spot) None)

here : (is : Bool) (label : Label) → option_map (λ (l : Label). l.spot) (cond is (Some label) None) ≡ cond is (Some label.spot) None
here true label = refl
here false label = refl

there : (is last : Bool) (first label : Label) (all rest : Option Label) → option_map (λ (l : Label). l.spot) all ≡ one_more last label (option_map (λ (l : Label). l.spot) rest)
    → option_map (λ (l : Label). l.spot) (cond is (Some first) all) ≡ one_more last label (option_map (λ (l : Label). l.spot) (cond is (Some first) rest))
there true last first label all rest same = refl
there false last first label all rest same = same

pub spot_named-push : (name : List ℕ) (labels : List Label) (label : Label)
    → spot_named name (labels ++ label ∷ []) ≡ one_more (is_named name label) label (spot_named name labels)
spot_named-push name [] label = here (is_named name label) label
spot_named-push name (first ∷ more) label = there (is_named name first) (is_named name label) first label (find (is_named name) (more ++ label ∷ [])) (find (is_named name) more) (spot_named-push name more label)

one : (is : Bool) (first : Label) (any : Bool) (rest : Option Label) → any ≡ is_some (option_map (λ (l : Label). l.spot) rest)
    → (is || any) ≡ is_some (option_map (λ (l : Label). l.spot) (cond is (Some first) rest))
one true first any rest same = refl
one false first any rest same = same

-- whether a name is among them
any-is_some : (name : List ℕ) (labels : List Label) → list_any (is_named name) labels ≡ is_some (spot_named name labels)
any-is_some name [] = refl
any-is_some name (first ∷ more) = one (is_named name first) first (list_any (is_named name) more) (find (is_named name) more) (any-is_some name more)

or_none : (o : Option ℕ) → option_or o None ≡ option_or None o
or_none (Some n) = refl
or_none None = refl

or_none' : (o : Option ℕ) → option_or o None ≡ o
or_none' (Some n) = refl
or_none' None = refl

or_or : (a b c : Option ℕ) → option_or a (option_or b c) ≡ option_or (option_or a b) c
or_or (Some n) b c = refl
or_or None b c = refl

is_none_of : (o : Option Spot) → is_some o ≡ false → o ≡ None
is_none_of (Some spot) is = absurd (let h : true ≡ false = is in cc)
is_none_of None is = refl

doubled_among-push : (earlier labels : List Label) (label : Label)
    → doubled_among earlier (labels ++ label ∷ []) ≡ option_or (doubled_among earlier labels) (doubling (earlier ++ labels) label)
doubled_among-push earlier [] label =
    ap (λ (ls : List Label). option_or (doubling ls label) None) (sym (append-nil earlier)) ∙ or_none (doubling (earlier ++ []) label)
doubled_among-push earlier (first ∷ more) label =
    ap (option_or (doubling earlier first)) (doubled_among-push (earlier ++ first ∷ []) more label
    ∙ ap (λ (ls : List Label). option_or (doubled_among (earlier ++ first ∷ []) more) (doubling ls label)) (append_assoc earlier (first ∷ []) more))
    ∙ or_or (doubling earlier first) (doubled_among (earlier ++ first ∷ []) more) (doubling (earlier ++ first ∷ more) label)

near-push : (labels : List Label) (label : Label) → AllByRecursion IsNear labels → IsNear label → AllByRecursion IsNear (labels ++ label ∷ [])
near-push [] label near is = (is, tt)
near-push (first ∷ more) label near is = (near.0, near-push more label near.1 is)

found_same : (is : Bool) (label : Label) (found : Option Spot) → (is ≡ true → is_some found ≡ true) → one_more is label found ≡ found
found_same true label (Some spot) some = refl
found_same true label None some = absurd (let h : false ≡ true = some refl in cc)
found_same false label (Some spot) some = refl
found_same false label None some = refl

-- a label whose name an earlier one has
pub known : (spots : BTreeMap (Bor (List ℕ)) Spot) (doubled : Option ℕ) (labels : List Label) (label : Label) (later : Option ℕ) → AreKept spots doubled labels → IsNear label
    → is_some (get_by (λ key. slice_cmp nat_cmp label.name key.now) spots) ≡ true → later ≡ option_or doubled (Some label.line)
    → AreKept spots later (labels ++ label ∷ [])
known spots doubled labels label later kept near some later_is =
    let named : is_some (spot_named label.name labels) ≡ true = ap is_some (sym (kept.index label.name)) ∙ some in
    record {
      index = λ name. kept.index name ∙ sym (spot_named-push name labels label
          ∙ found_same (is_named name label) label (spot_named name labels) (λ is. ap (λ n. is_some (spot_named n labels)) (sym ((bytes_eq-Decides label.name name).0 is)) ∙ named));
      first = later_is ∙ sym (doubled_among-push [] labels label
          ∙ ap (option_or (doubled_line labels)) (cond-true (list_any (is_named label.name) labels) _ None (any-is_some label.name labels ∙ named))
          ∙ ap (λ d. option_or d (Some label.line)) (sym kept.first));
      near = near-push labels label kept.near near;
    }

updated : (is : Bool) (label : Label) (found : Option Spot) → (is ≡ true → found ≡ None) → cond is (Some label.spot) found ≡ one_more is label found
updated true label found none = sym (ap (λ (f : Option Spot). option_or f (Some label.spot)) (none refl))
updated false label (Some spot) none = refl
updated false label None none = refl

-- a label with a new name
pub fresh : (spots later : BTreeMap (Bor (List ℕ)) Spot) (doubled : Option ℕ) (labels : List Label) (label : Label) → AreKept spots doubled labels → IsNear label
    → is_some (get_by (λ key. slice_cmp nat_cmp label.name key.now) spots) ≡ false
    → UpdatesBy (λ x y. slice_cmp nat_cmp x.now y.now) (λ key. slice_cmp nat_cmp label.name key.now) spots later (Some label.spot)
    → AreKept later doubled (labels ++ label ∷ [])
fresh spots later doubled labels label kept near none updates =
    let unnamed : is_some (spot_named label.name labels) ≡ false = ap is_some (sym (kept.index label.name)) ∙ none in
    record {
      index = λ name. btree_map_updates_str label.name spots later (Some label.spot) updates name
          ∙ ap (cond (bytes_eq label.name name) (Some label.spot)) (kept.index name)
          ∙ updated (is_named name label) label (spot_named name labels)
          (λ is. is_none_of (spot_named name labels) (ap (λ n. is_some (spot_named n labels)) (sym ((bytes_eq-Decides label.name name).0 is)) ∙ unnamed))
          ∙ sym (spot_named-push name labels label);
      first = kept.first ∙ sym (doubled_among-push [] labels label
          ∙ ap (option_or (doubled_line labels)) (cond-false (list_any (is_named label.name) labels) _ None (any-is_some label.name labels ∙ unnamed))
          ∙ or_none' (doubled_line labels));
      near = near-push labels label kept.near near;
    }

near_found : (is : Bool) (first : Label) (rest : Option Label) → IsNear first → IfSome (option_map (λ (l : Label). l.spot) rest) (λ spot. spot.offset < 2 ^ 62)
    → IfSome (option_map (λ (l : Label). l.spot) (cond is (Some first) rest)) (λ spot. spot.offset < 2 ^ 62)
near_found true first rest near later = near
near_found false first rest near later = later

pub spot_named-near : (name : List ℕ) (labels : List Label) → AllByRecursion IsNear labels → IfSome (spot_named name labels) (λ spot. spot.offset < 2 ^ 62)
spot_named-near name [] near = tt
spot_named-near name (first ∷ more) near = near_found (is_named name first) first (find (is_named name) more) near.0 (spot_named-near name more near.1)
