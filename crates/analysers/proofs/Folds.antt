-- Folds of values that can be joined: where the list is cut makes no difference.
use Rattle.std.proofs.Common.{◌≡◌, List, [], ◌∷◌, ◌++◌, sym, ap, ◌∙◌}
use Rattle.std.specs.List.{fold, All}
use Rattle.std.proofs.lemmas.List.Elements.{All-head, All-tail}
use Rattle.std.proofs.lemmas.List.Sums.{fold-append}
use Rattle.analysers.specs.Parts.{folded}

-- what is known of joins
pub record Joins {V : Type 0} (fits : V → Type 0) (empty : V) (joined : V → V → V) : Type 0 where
  pub none : fits empty
  pub both : (a b : V) → fits a → fits b → fits (joined a b)
  pub left : (a : V) → fits a → joined empty a ≡ a
  pub right : (a : V) → fits a → joined a empty ≡ a
  pub association : (a b c : V) → fits a → fits b → fits c → joined (joined a b) c
      ≡ joined a (joined b c)

module _ {X V : Type 0} (fits : V → Type 0) (empty : V) (single : X → V) (joined : V → V
    → V) (laws : Joins fits empty joined) where
  -- the fold from a value on
  abbrev pub folded_on : V → List X → V
  folded_on a xs = fold (λ v x. joined v (single x)) a xs

  pub folded_on-fits : (a : V) (xs : List X) → fits a → All (λ x. fits (single x)) xs
      → fits (folded_on a xs)
  folded_on-fits a [] one each = one
  folded_on-fits a (x ∷ xs) one each =
      folded_on-fits (joined a (single x)) xs (laws.both a (single x) one
      (All-head (λ y. fits (single y)) x xs each)) (All-tail (λ y. fits (single y)) x xs each)

  pub folded-fits : (xs : List X) → All (λ x. fits (single x)) xs
      → fits (folded empty single joined xs)
  folded-fits xs each = folded_on-fits empty xs laws.none each

  -- a fold from a value on is that value joined with the fold from that of none
  pub folded_on-is : (a : V) (xs : List X) → fits a → All (λ x. fits (single x)) xs
      → folded_on a xs ≡ joined a (folded empty single joined xs)
  folded_on-is a [] one each = sym (laws.right a one)
  folded_on-is a (x ∷ xs) one each =
      let v = single x in
      let first : fits v = All-head (λ y. fits (single y)) x xs each in
      let rest = All-tail (λ y. fits (single y)) x xs each in
      let whole = folded empty single joined xs in
      folded_on-is (joined a v) xs (laws.both a v one first) rest
      ∙ laws.association a v whole one first (folded-fits xs rest)
      ∙ ap (joined a) (sym (ap (λ (b : V). folded_on b xs) (laws.left v first)
      ∙ folded_on-is v xs first rest))

  pub folded-append : (xs ys : List X) → All (λ x. fits (single x)) xs
      → All (λ x. fits (single x)) ys
      → folded empty single joined (xs ++ ys) ≡ joined (folded empty single joined xs)
      (folded empty single joined ys)
  folded-append xs ys front back =
      fold-append (λ v x. joined v (single x)) empty xs ys ∙ folded_on-is
      (folded empty single joined xs) ys (folded-fits xs front) back

  pub folded-cons : (x : X) (xs : List X) → fits (single x) → All (λ y. fits (single y)) xs
      → folded empty single joined (x ∷ xs) ≡ joined (single x) (folded empty single joined xs)
  folded-cons x xs first rest =
      ap (λ (b : V). folded_on b xs) (laws.left (single x) first)
      ∙ folded_on-is (single x) xs first rest
