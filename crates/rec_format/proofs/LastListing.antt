-- The last listing of a page, where one more is added.
use Rattle.std.proofs.Common.{◌≡◌, ℕ, zero, suc, ◌<◌, Bool, true, false, cond, eqb, List, [], ◌∷◌, ◌++◌, length, Option, Some, None, MatchOption, refl, sym, ap, subst, ◌∙◌, inl, inr, arith}
use Rattle.std.specs.Prelude.{reverse}
use Rattle.std.specs.Ordering.{nat_cmp, is_eq}
use Rattle.std.specs.BTreeMap.{BTreeMap, get, is_at}
use Rattle.std.specs.Cmp.{nat_cmp_is}
use Rattle.std.specs.declared.cmp.Ordering.TheVariants.{Equal}
use Rattle.std.specs.List.{find, slice_get}
use Rattle.std.specs.Option.{option_map}
use Rattle.std.proofs.lemmas.Bool.{cases_Bool, eqb-true, eqb-false, false_from_ne_true}
use Rattle.std.proofs.lemmas.List.{map-append, reverse-append, length_push, length-append}
use Rattle.std.proofs.lemmas.Map.Lookups.{exact_unsigned}
use Rattle.std.proofs.lemmas.Map.Views.{tells_apart}
use Rattle.rec_format.specs.declared.listings.Listing.{Listing}
use Rattle.rec_format.specs.declared.recording.ListedPage.{ListedPage}
use Rattle.rec_format.specs.Rules.{last_listed}
use Rattle.rec_format.specs.Listings.{seen, seen_page, bytes_at, IsIndex}

pub last_listed-push : (number : ℕ) (earlier : List ListedPage) (page : ListedPage) → last_listed number (earlier ++ page ∷ []) ≡ cond (eqb page.number number) (Some page.bytes) (last_listed number earlier)
last_listed-push number earlier page =
    rw (reverse-append earlier (page ∷ [])) (elim (eqb page.number number) as (λ b. option_map (λ (p : ListedPage). p.bytes) (cond b (Some page) (find (λ (p : ListedPage). eqb p.number number) (reverse earlier))) ≡ cond b (Some page.bytes) (last_listed number earlier)) [ true ↦ refl | false ↦ refl ])

-- what stands at an index stays
slice_get-append : {X : Type 0} (xs ys : List X) (i : ℕ) → i < length xs → slice_get (xs ++ ys) i ≡ slice_get xs i
slice_get-append [] ys i lt = absurd (omega arith)
slice_get-append (x ∷ xs) ys zero lt = refl
slice_get-append (x ∷ xs) ys (suc i) lt = slice_get-append xs ys i (omega arith)

slice_get-push : {X : Type 0} (xs : List X) (y : X) → slice_get (xs ++ y ∷ []) (length xs) ≡ Some y
slice_get-push [] y = refl
slice_get-push (x ∷ xs) y = slice_get-push xs y

-- a key is at a number exactly where they are the same
is_at-eqb : (k q : ℕ) → is_at (nat_cmp k) q ≡ eqb k q
is_at-eqb k q =
    elim (cases_Bool (eqb k q)) [
      | inl e ↦ ap is_eq (sym (nat_cmp_is k q Equal (eqb-true k q e))) ∙ sym e
      | inr e ↦ false_from_ne_true _ (λ h. eqb-false k q e (tells_apart {R = nat_cmp} exact_unsigned k q h)) ∙ sym e
    ]

abbrev HasIndex : Option ℕ → Option (List ℕ) → List Listing → Type 0
HasIndex place listed all = MatchOption place (listed ≡ None) (λ i. (i < length all) × (listed ≡ bytes_at all i))

HasIndex-append : (place : Option ℕ) (listed : Option (List ℕ)) (all others : List Listing) → HasIndex place listed all → HasIndex place listed (all ++ others)
HasIndex-append None listed all others h = h
HasIndex-append (Some i) listed all others h =
    (omega (arith, h.0, length-append all others), h.1 ∙ ap (option_map (λ (l : Listing). l.bytes.now)) (sym (slice_get-append all others i h.0)))

-- the index is one of the longer list once it has the new listing's place
pub IsIndex-push : (before after : BTreeMap ℕ ℕ) (all : List Listing) (x : Listing)
    → ((q : ℕ) → get nat_cmp after q ≡ cond (is_at (nat_cmp x.number) q) (Some (length all)) (get nat_cmp before q))
    → IsIndex before all → IsIndex after (all ++ x ∷ [])
IsIndex-push before after all x updates index number =
    let listed : last_listed number (seen (all ++ x ∷ [])) ≡ cond (eqb x.number number) (Some x.bytes.now) (last_listed number (seen all)) = ap (last_listed number) (map-append seen_page all (x ∷ [])) ∙ last_listed-push number (seen all) (seen_page x) in
    let place : get nat_cmp after number ≡ cond (eqb x.number number) (Some (length all)) (get nat_cmp before number) = updates number ∙ ap (λ (b : Bool). cond b (Some (length all)) (get nat_cmp before number)) (is_at-eqb x.number number) in
    let here : HasIndex (Some (length all)) (Some x.bytes.now) (all ++ x ∷ []) = (omega (arith, length_push all x), ap (option_map (λ (l : Listing). l.bytes.now)) (sym (slice_get-push all x))) in
    let there : HasIndex (get nat_cmp before number) (last_listed number (seen all)) (all ++ x ∷ []) = HasIndex-append _ _ all (x ∷ []) (index number) in
    let either : HasIndex (cond (eqb x.number number) (Some (length all)) (get nat_cmp before number)) (cond (eqb x.number number) (Some x.bytes.now) (last_listed number (seen all))) (all ++ x ∷ []) =
    elim (eqb x.number number) as (λ b. HasIndex (cond b (Some (length all)) (get nat_cmp before number)) (cond b (Some x.bytes.now) (last_listed number (seen all))) (all ++ x ∷ [])) [ true ↦ here | false ↦ there ] in
    subst (λ (p : Option ℕ). HasIndex p (last_listed number (seen (all ++ x ∷ []))) (all ++ x ∷ [])) (sym place)
    (subst (λ (o : Option (List ℕ)). HasIndex (cond (eqb x.number number) (Some (length all)) (get nat_cmp before number)) o (all ++ x ∷ [])) (sym listed) either)
