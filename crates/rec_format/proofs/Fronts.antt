-- What holds of two lists one after the other.
use Rattle.std.proofs.Common.{ℕ, List, [], ◌∷◌, ◌++◌, map, Option, Some, sym, subst, append_assoc}
use Rattle.std.specs.List.{AllByRecursion}
use Rattle.std.proofs.lemmas.List.{append-nil}
use Rattle.rec_format.specs.declared.recording.ListedPage.{ListedPage}
use Rattle.rec_format.specs.Rules.{Rise, last_or, AreNeeded}

pub All-front : {X : Type 0} (P : X → Type 0) (xs ys : List X) → AllByRecursion P (xs ++ ys) → AllByRecursion P xs
All-front P [] ys h = tt
All-front P (x ∷ xs) ys h = (h.0, All-front P xs ys h.1)

pub All-back : {X : Type 0} (P : X → Type 0) (xs ys : List X) → AllByRecursion P (xs ++ ys) → AllByRecursion P ys
All-back P [] ys h = h
All-back P (x ∷ xs) ys h = All-back P xs ys h.1

pub All-join : {X : Type 0} (P : X → Type 0) (xs ys : List X) → AllByRecursion P xs → AllByRecursion P ys → AllByRecursion P (xs ++ ys)
All-join P [] ys h k = k
All-join P (x ∷ xs) ys h k = (h.0, All-join P xs ys h.1 k)

pub Rise-front : {X : Type 0} (before : Option ℕ) (number : X → ℕ) (xs ys : List X) → Rise before (map number (xs ++ ys)) → Rise before (map number xs)
Rise-front before number [] ys h = tt
Rise-front before number (x ∷ xs) ys h = (h.0, Rise-front (Some (number x)) number xs ys h.1)

pub Rise-back : {X : Type 0} (before : Option ℕ) (number : X → ℕ) (xs ys : List X) → Rise before (map number (xs ++ ys)) → Rise (last_or before number xs) (map number ys)
Rise-back before number [] ys h = h
Rise-back before number (x ∷ xs) ys h = Rise-back (Some (number x)) number xs ys h.1

pub Rise-join : {X : Type 0} (before : Option ℕ) (number : X → ℕ) (xs ys : List X) → Rise before (map number xs) → Rise (last_or before number xs) (map number ys) → Rise before (map number (xs ++ ys))
Rise-join before number [] ys h k = k
Rise-join before number (x ∷ xs) ys h k = (h.0, Rise-join (Some (number x)) number xs ys h.1 k)

pub AreNeeded-front : (earlier xs ys : List ListedPage) → AreNeeded earlier (xs ++ ys) → AreNeeded earlier xs
AreNeeded-front earlier [] ys h = tt
AreNeeded-front earlier (x ∷ xs) ys h = (h.0, AreNeeded-front (earlier ++ x ∷ []) xs ys h.1)

pub AreNeeded-back : (earlier xs ys : List ListedPage) → AreNeeded earlier (xs ++ ys) → AreNeeded (earlier ++ xs) ys
AreNeeded-back earlier [] ys h = subst (λ e. AreNeeded e ys) (sym (append-nil earlier)) h
AreNeeded-back earlier (x ∷ xs) ys h = subst (λ e. AreNeeded e ys) (append_assoc earlier (x ∷ []) xs) (AreNeeded-back (earlier ++ x ∷ []) xs ys h.1)

pub AreNeeded-join : (earlier xs ys : List ListedPage) → AreNeeded earlier xs → AreNeeded (earlier ++ xs) ys → AreNeeded earlier (xs ++ ys)
AreNeeded-join earlier [] ys h k = subst (λ e. AreNeeded e ys) (append-nil earlier) k
AreNeeded-join earlier (x ∷ xs) ys h k =
    (h.0, AreNeeded-join (earlier ++ x ∷ []) xs ys h.1 (subst (λ e. AreNeeded e ys) (sym (append_assoc earlier (x ∷ []) xs)) k))
