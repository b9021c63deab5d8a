-- A part of a memory has no more pages than the whole.
use Rattle.std.proofs.Common.{◌≡◌, ℕ, zero, suc, ◌-◌, ◌<◌, ◌≤◌, Bool, true, false, cond, List, [], ◌∷◌, length, Some, None, refl, ap, ◌∙◌, sym, arith, subst, ⊎_elim}
use Rattle.std.specs.Prelude.{Option, IsSome, is_some}
use Rattle.std.specs.Ordering.{nat_cmp, eq_by_cmp}
use Rattle.std.specs.Cmp.{nat_cmp_total, eq_by_cmp_equiv}
use Rattle.std.specs.FinMap.{get, remove, len, entries, find, get-entries, get-remove, get-empty, len-entries, len-remove, empty_of_len}
use Rattle.std.proofs.lemmas.Bool.{cases_lt}
use Rattle.sl_model.specs.Pages.{Pages}

first_entry : (m : Pages) (es : List (ℕ × List ℕ)) (n : ℕ) → entries m ≡ es → length es ≡ suc n → (k : ℕ) × (is_some (get m k) ≡ true)
first_entry m [] n is long = absurd (omega arith)
first_entry m (e ∷ es) n is long = (
  e.0,
  ap is_some (get-entries m e.0 ∙ ap (find nat_cmp e.0) is) ∙ ap (λ (b : Bool). is_some (cond b (Some e.1) (find nat_cmp e.0 es))) ((eq_by_cmp_equiv nat_cmp_total).refl e.0),
)

first_key : (m : Pages) (n : ℕ) → len m ≡ suc n → (k : ℕ) × (is_some (get m k) ≡ true)
first_key m n long = first_entry m (entries m) n refl (sym (len-entries m) ∙ long)

kept_by_removal : (b : Bool) (p w : Option (List ℕ)) → (IsSome p → IsSome w) → IsSome (cond b None p) → IsSome (cond b None w)
kept_by_removal true p w sub h = h
kept_by_removal false p w sub h = sub h

not_empty : (m : Pages) (k : ℕ) → is_some (get m k) ≡ true → 0 < len m
not_empty m k some = ⊎_elim
    (λ (less : 0 < len m). less)
    (λ (none : len m ≤ 0).
    let gone : get m k ≡ None = ap (λ n. get n k) (empty_of_len m (omega arith)) ∙ get-empty nat_cmp k in
    let both : is_some (get m k) ≡ false = ap is_some gone in absurd cc)
    (cases_lt 0 (len m))

pub part_len : (n : ℕ) (part whole : Pages) → len part ≡ n → ((q : ℕ) → IsSome (get part q) → IsSome (get whole q)) → n ≤ len whole
part_len zero part whole long sub = omega arith
part_len (suc n) part whole long sub =
    let key = first_key part n long in
    let k = key.0 in
    let there : is_some (get whole k) ≡ true = sub k key.1 in
    let shorter : len (remove part k) ≡ n = len-remove nat_cmp_total part k ∙ rw key.1 (omega arith) in
    let less : len (remove whole k) ≡ len whole - 1 = len-remove nat_cmp_total whole k ∙ rw there refl in
    let rest = part_len n (remove part k) (remove whole k) shorter (λ q h.
    subst IsSome (sym (get-remove nat_cmp_total whole k q))
    (kept_by_removal (eq_by_cmp nat_cmp q k) (get part q) (get whole q) (sub q) (subst IsSome (get-remove nat_cmp_total part k q) h))) in
    let some = not_empty whole k there in
    omega arith
