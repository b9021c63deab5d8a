-- One step of the join of two rising lists of bins.
use Rattle.std.proofs.Common.{◌≡◌, ◌<◌, List, [], ◌∷◌, ◌++◌, sym, ap, subst, ◌∙◌, ◌⊎◌, inl, inr, append_assoc, append-nil}
use Rattle.analysers.specs.declared.part.Bin.{Bin}
use Rattle.analysers.specs.Bins.{IsRising, added, join_bins}
use Rattle.analysers.specs.BinLaws.{join_bins-none, join_bins-less, join_bins-greater, join_bins-same}

-- a bin is told, and the rest is the join of what is left
told : (bins : List Bin) (bin : Bin) (rest whole all : List Bin) → whole ≡ bin ∷ rest
    → bins ++ whole ≡ all → (bins ++ bin ∷ []) ++ rest ≡ all
told bins bin rest whole all step is = append_assoc bins (bin ∷ []) rest
    ∙ ap (λ (t : List Bin). bins ++ t) (sym step) ∙ is

pub step_less : (bins : List Bin) (a b : Bin) (lefts rights xs ys all : List Bin) → xs ≡ a ∷ lefts
    → ys ≡ b ∷ rights → a.value < b.value → IsRising ys
    → bins ++ join_bins xs ys ≡ all → (bins ++ a ∷ []) ++ join_bins lefts ys ≡ all
step_less bins a b lefts rights xs ys all p q less rising is =
    told bins a (join_bins lefts ys) (join_bins xs ys) all
    (ap (λ (l : List Bin). join_bins l ys) p
    ∙ ap (join_bins (a ∷ lefts)) q
    ∙ join_bins-less a b lefts rights less (subst IsRising q rising)
    ∙ ap (λ (r : List Bin). a ∷ join_bins lefts r) (sym q)) is

pub step_greater : (bins : List Bin) (a b : Bin) (lefts rights xs ys all : List Bin)
    → xs ≡ a ∷ lefts → ys ≡ b ∷ rights → b.value < a.value → IsRising ys
    → bins ++ join_bins xs ys ≡ all → (bins ++ b ∷ []) ++ join_bins xs rights ≡ all
step_greater bins a b lefts rights xs ys all p q greater rising is =
    told bins b (join_bins xs rights) (join_bins xs ys) all
    (ap (λ (l : List Bin). join_bins l ys) p
    ∙ ap (join_bins (a ∷ lefts)) q
    ∙ join_bins-greater a b lefts rights greater (subst IsRising q rising)
    ∙ ap (λ (l : List Bin). b ∷ join_bins l rights) (sym p)) is

pub step_same : (bins : List Bin) (a b : Bin) (lefts rights xs ys all : List Bin) → xs ≡ a ∷ lefts
    → ys ≡ b ∷ rights → b.value ≡ a.value → IsRising ys
    → bins ++ join_bins xs ys ≡ all
    → (bins ++ (record { value = a.value; count = added a.count b.count }) ∷ []) ++ join_bins
    lefts rights ≡ all
step_same bins a b lefts rights xs ys all p q same rising is =
    told bins (record { value = a.value; count = added a.count b.count }) (join_bins lefts rights)
    (join_bins xs ys) all
    (ap (λ (l : List Bin). join_bins l ys) p
    ∙ ap (join_bins (a ∷ lefts)) q
    ∙ join_bins-same a b lefts rights same (subst IsRising q rising)) is

pub rest_rises : (x : Bin) (rest xs : List Bin) → xs ≡ x ∷ rest → IsRising xs → IsRising rest
rest_rises x rest xs split rising = let whole = subst IsRising split rising in whole.1

-- where one list is at its end, the rest is that of the other
pub rest_joined : (lefts rights : List Bin) → (lefts ≡ []) ⊎ (rights ≡ []) → IsRising rights
    → lefts ++ rights ≡ join_bins lefts rights
rest_joined lefts rights (inl none) rising = rw none (sym (join_bins-none rights rising))
rest_joined lefts rights (inr none) rising = rw none (append-nil lefts)
