-- Items that are read are the items that were spelled, and what was spelled is read again.
use Rattle.std.proofs.Common.{◌≡◌, ℕ, zero, suc, List, [], ◌∷◌, ◌++◌, length, Result, Ok, refl, sym, ap, subst, ◌∙◌, append_assoc}
use Rattle.std.specs.List.{flat_map}
use Rattle.std.proofs.lemmas.List.{append-nil}
use Rattle.rec_format.specs.declared.fault.RecFault.{RecFault}
use Rattle.rec_format.specs.Place.{Rest}
use Rattle.rec_format.specs.Reading.{items_at}
use Rattle.rec_format.proofs.Fields.{IsBytes, Takes, Takes-then, Again, step, from, ok_is}

-- an item adds what its text says, and keeps what holds of the list
pub record ItemTakes {X : Type 0} (item : List X → Rest → Result (X × Rest) RecFault) (text : X → List ℕ) (Keeps : List X → Type 0) : Type 0 where
  pub takes : (before : List X) (at : Rest) (x : X × Rest) → IsBytes at.bytes → Keeps before → item before at ≡ Ok x → Takes at (text x.0) x.1 × Keeps (before ++ x.0 ∷ [])

pub record ItemsTaken {X : Type 0} (text : X → List ℕ) (Keeps : List X → Type 0) (n : ℕ) (before : List X) (at : Rest) (x : List X × Rest) : Type 0 where
  pub items : List X
  pub all : x.0 ≡ before ++ items
  pub takes : Takes at (flat_map text items) x.1
  pub number : length items ≡ n
  pub keeps : Keeps x.0

pub items_taken : {X : Type 0} (item : List X → Rest → Result (X × Rest) RecFault) (text : X → List ℕ) (Keeps : List X → Type 0) → ItemTakes item text Keeps
    → (n : ℕ) (before : List X) (at : Rest) (x : List X × Rest) → IsBytes at.bytes → Keeps before → items_at item n before at ≡ Ok x → ItemsTaken text Keeps n before at x
unfolding items_at
items_taken {X} item text Keeps one zero before at x fits kept e =
    subst (ItemsTaken text Keeps 0 before at) (ok_is (before, at) x e) (record {
      items = [];
      all = sym (append-nil before);
      takes = record { parts = refl; rest_fits = fits };
      number = refl;
      keeps = kept;
    })
items_taken {X} item text Keeps one (suc n) before at x fits kept e =
    step (item before at) _ x e (λ a a_is rest.
    let first = one.takes before at a fits kept a_is in
    let others = items_taken item text Keeps one n (before ++ a.0 ∷ []) a.1 x first.0.rest_fits first.1 rest in
    record {
      items = a.0 ∷ others.items;
      all = others.all ∙ append_assoc before (a.0 ∷ []) others.items;
      takes = Takes-then at (text a.0) a.1 (flat_map text others.items) x.1 first.0 others.takes;
      number = ap suc others.number;
      keeps = others.keeps;
    })

-- from the start of the list
pub items_take : {X : Type 0} (item : List X → Rest → Result (X × Rest) RecFault) (text : X → List ℕ) (Keeps : List X → Type 0) → ItemTakes item text Keeps
    → (n : ℕ) (at : Rest) (x : List X × Rest) → IsBytes at.bytes → Keeps [] → items_at item n [] at ≡ Ok x → Takes at (flat_map text x.0) x.1 × (length x.0 ≡ n) × Keeps x.0
items_take item text Keeps one n at x fits kept e =
    let t = items_taken item text Keeps one n [] at x fits kept e in
    (subst (λ items. Takes at (flat_map text items) x.1) (sym t.all) t.takes, ap length t.all ∙ t.number, t.keeps)

-- an item that the list may have next is read again, and what a list keeps its fronts keep
pub record ItemAgain {X : Type 0} (item : List X → Rest → Result (X × Rest) RecFault) (text : X → List ℕ) (Keeps : List X → Type 0) : Type 0 where
  pub again : (before : List X) (x : X) (at : Rest) (rest : List ℕ) → Keeps (before ++ x ∷ []) → at.bytes ≡ text x ++ rest → Again (item before at) x rest
  pub fronts : (xs ys : List X) → Keeps (xs ++ ys) → Keeps xs

pub items_again : {X : Type 0} (item : List X → Rest → Result (X × Rest) RecFault) (text : X → List ℕ) (Keeps : List X → Type 0) → ItemAgain item text Keeps
    → (items before : List X) (at : Rest) (rest : List ℕ) → Keeps (before ++ items) → at.bytes ≡ flat_map text items ++ rest → Again (items_at item (length items) before at) (before ++ items) rest
unfolding items_at
items_again item text Keeps one [] before at rest kept e = record { next = at; reads = ap (λ xs. Ok (xs, at)) (sym (append-nil before)); stands = e }
items_again item text Keeps one (x ∷ xs) before at rest kept e =
    let regrouped : before ++ x ∷ xs ≡ (before ++ x ∷ []) ++ xs = sym (append_assoc before (x ∷ []) xs) in
    let kept' : Keeps ((before ++ x ∷ []) ++ xs) = subst Keeps regrouped kept in
    from (one.again before x at (flat_map text xs ++ rest) (one.fronts (before ++ x ∷ []) xs kept') (e ∙ append_assoc (text x) (flat_map text xs) rest)) (λ next0 reads0 stands0.
    from (items_again item text Keeps one xs (before ++ x ∷ []) next0 rest kept' stands0) (λ next1 reads1 stands1.
    record { next = next1; reads = rw (reads0, reads1) (ap (λ ys. Ok (ys, next1)) (sym regrouped)); stands = stands1 }))
