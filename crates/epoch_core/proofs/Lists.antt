-- Lists of which one item is replaced, and lists that gain an item.
use Rattle.std.proofs.Common.{◌≡◌, ℕ, suc, ◌<◌, List, [], ◌∷◌, ◌++◌, length, take, drop, set, get_or, Some, ◌⊎◌, inl, inr, sym, ap, subst, ◌∙◌}
use Rattle.std.specs.List.{All, Contains, flat_map, slice_get}
use Rattle.std.proofs.lemmas.List.{set_split, set-get_or}
use Rattle.std.proofs.lemmas.List.Concat.{flat_map-append}
use Rattle.std.proofs.lemmas.List.Elements.{All-contains, Contains-get_or, Contains-append_left, Contains-append_right, Contains-append_cases, Contains-push, Contains-push_cases}
use Rattle.std.proofs.lemmas.Option.{slice_get_within, get_or_from_slice_get}

-- what the items before a place, one item and those behind the place lead to
abbrev joined : {X A : Type 0} → (X → List A) → List X → ℕ → X → List A
joined f xs i x = flat_map f (take i xs) ++ (f x ++ flat_map f (drop (suc i) xs))

flat_map-set : {X A : Type 0} (f : X → List A) (xs : List X) (i : ℕ) (y : X) → i < length xs → flat_map f (set xs i y) ≡ joined f xs i y
flat_map-set f xs i y within = ap (flat_map f) (set_split xs i y within) ∙ flat_map-append f (take i xs) (y ∷ drop (suc i) xs)

flat_map_split : {X A : Type 0} (f : X → List A) (xs : List X) (i : ℕ) (x : X) → slice_get xs i ≡ Some x → flat_map f xs ≡ joined f xs i x
flat_map_split f xs i x here =
    ap (flat_map f) (sym (set-get_or xs i x))
    ∙ flat_map-set f xs i (get_or xs i x) (slice_get_within xs i x here)
    ∙ ap (joined f xs i) (get_or_from_slice_get xs i x x here)

-- an item that leads to the same list
pub flat_map-set_same : {X A : Type 0} (f : X → List A) (xs : List X) (i : ℕ) (x y : X) → slice_get xs i ≡ Some x → f y ≡ f x
    → flat_map f (set xs i y) ≡ flat_map f xs
flat_map-set_same f xs i x y here same =
    flat_map-set f xs i y (slice_get_within xs i x here)
    ∙ ap (λ ys. flat_map f (take i xs) ++ (ys ++ flat_map f (drop (suc i) xs))) same
    ∙ sym (flat_map_split f xs i x here)

-- the new list has the items of the old one and one more, in some order
pub record Gains {A : Type 0} (old new : List A) (item : A) : Type 0 where
  pub keeps : (x : A) → Contains old x → Contains new x
  pub gained : Contains new item
  pub others : (x : A) → Contains new x → Contains old x ⊎ (item ≡ x)

gains_within : {A : Type 0} (front mid back : List A) (item : A) → Gains (front ++ (mid ++ back)) (front ++ ((mid ++ item ∷ []) ++ back)) item
gains_within front mid back item =
    let added = mid ++ item ∷ [] in
    record {
      keeps = λ x h. elim (Contains-append_cases front (mid ++ back) x h) [
        | inl f ↦ Contains-append_left front (added ++ back) x f
        | inr r ↦ Contains-append_right front (added ++ back) x (elim (Contains-append_cases mid back x r) [
          | inl m ↦ Contains-append_left added back x (Contains-append_left mid (item ∷ []) x m)
          | inr b ↦ Contains-append_right added back x b
        ])
      ];
      gained = Contains-append_right front (added ++ back) item (Contains-append_left added back item (Contains-push mid item));
      others = λ x h. elim (Contains-append_cases front (added ++ back) x h) [
        | inl f ↦ inl (Contains-append_left front (mid ++ back) x f)
        | inr r ↦ elim (Contains-append_cases added back x r) [
          | inl a ↦ elim (Contains-push_cases mid item x a) [
            | inl m ↦ inl (Contains-append_right front (mid ++ back) x (Contains-append_left mid back x m))
            | inr e ↦ inr e
          ]
          | inr b ↦ inl (Contains-append_right front (mid ++ back) x (Contains-append_right mid back x b))
        ]
      ];
    }

-- one of the joined lists gains an item at its end
pub flat_map-set_gains : {X A : Type 0} (f : X → List A) (xs : List X) (i : ℕ) (x y : X) (item : A) → slice_get xs i ≡ Some x → f y ≡ f x ++ item ∷ []
    → Gains (flat_map f xs) (flat_map f (set xs i y)) item
flat_map-set_gains {A = A} f xs i x y item here longer =
    let front = flat_map f (take i xs) in
    let back = flat_map f (drop (suc i) xs) in
    let new : flat_map f (set xs i y) ≡ front ++ ((f x ++ item ∷ []) ++ back) =
    flat_map-set f xs i y (slice_get_within xs i x here) ∙ ap (λ ys. front ++ (ys ++ back)) longer in
    let P : List A → Type 0 = λ zs. Gains zs (flat_map f (set xs i y)) item in
    let Q : List A → Type 0 = λ zs. Gains (front ++ (f x ++ back)) zs item in
    subst P (sym (flat_map_split f xs i x here)) (subst Q (sym new) (gains_within front (f x) back item))

-- what holds of the old items and of the new one
pub All-gains : {A : Type 0} (P : A → Type 0) (old new : List A) (item : A) → Gains old new item → All P old → P item → All P new
All-gains P old new item gains all here k d within =
    elim (gains.others (get_or new k d) (Contains-get_or new k d within)) [
      | inl h ↦ All-contains P old (get_or new k d) all h
      | inr e ↦ subst P e here
    ]
