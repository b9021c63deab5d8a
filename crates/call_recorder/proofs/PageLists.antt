-- What is recorded once the pages that changed are listed.
use Rattle.std.specs.Prelude.{if◌then◌else◌, ◌||◌, ◌==◌, ◌^◌, is_some, unwrap_or}
use Rattle.std.specs.List.{flat_map, range_with_len}
use Rattle.std.specs.Str.{bytes_eq}
use Rattle.std.specs.FinMap.{get}
use Rattle.std.proofs.Common.{◌≡◌, ℕ, zero, suc, ◌+◌, ◌<◌, ◌≤◌, ◌⊎◌, inl, inr, ⊎_elim, Bool, true, false, cond, List, [], ◌∷◌, ◌++◌, Option, Some, None, refl, sym, ap, subst, ◌∙◌, arith, eqb, eq-eqb, ne_eqb, eqb-true}
use Rattle.std.proofs.lemmas.Bool.{cases_eq, cases_lt, or_cases}
use Rattle.std.proofs.lemmas.Slice.Eq.{bytes_eq-Decides}
use Rattle.sl_model.specs.Pages.{Pages}
use Rattle.sl_model.specs.Mapping.{zero_page}
use Rattle.rec_format.specs.declared.recording.ListedPage.{ListedPage}
use Rattle.rec_format.specs.Compared.{PAGE_NUMBERS}
use Rattle.rec_format.specs.Rules.{AreNeeded}
use Rattle.rec_format.specs.Rules as rules
use Rattle.rec_format.specs.Recorded.{last_listing, is_listed}
use Rattle.rec_format.proofs.Fronts.{AreNeeded-join}
use Rattle.rec_format.proofs.Listed.{last_listing-append}
use Rattle.rec_format.proofs.LastListing.{last_listed-push}
use Rattle.call_recorder.specs.Listing.{page_in, listed_over, changed_page, changed_pages}

-- every page number, written so that it does not compute
pub numbers_are : (count : ℕ) → count ≡ 2 ^ 20 → PAGE_NUMBERS ≡ range_with_len 0 count
unfolding PAGE_NUMBERS
numbers_are count is = ap (range_with_len 0) (sym is)

pub is_listed-append : (xs ys : List ListedPage) (number : ℕ) → is_listed (xs ++ ys) number ≡ (is_listed xs number || is_listed ys number)
is_listed-append [] ys number = refl
is_listed-append (x ∷ xs) ys number = again (x.number == number) (is_listed-append xs ys number)
  where
    again : (b : Bool) → is_listed (xs ++ ys) number ≡ (is_listed xs number || is_listed ys number) → (b || is_listed (xs ++ ys) number) ≡ ((b || is_listed xs number) || is_listed ys number)
    again true rest = refl
    again false rest = rest

-- ---- one page

-- a page that is listed stands for itself alone
skip : (bytes recorded : List ℕ) (q number : ℕ) (page : Option (List ℕ)) → (q ≡ number → ⊥) → last_listing bytes (listed_over recorded q page) number ≡ bytes
skip bytes recorded q number None apart = refl
skip bytes recorded q number (Some page) apart = chosen (bytes_eq recorded page)
  where
    chosen : (b : Bool) → last_listing bytes (if b then [] else record { number = q; bytes = page } ∷ []) number ≡ bytes
    chosen true = refl
    chosen false = rw (ne_eqb q number apart) refl

here : (recorded : List ℕ) (number : ℕ) (page : Option (List ℕ)) → last_listing recorded (listed_over recorded number page) number ≡ unwrap_or page recorded
here recorded number None = refl
here recorded number (Some page) = chosen (bytes_eq recorded page) refl
  where
    chosen : (b : Bool) → bytes_eq recorded page ≡ b → last_listing recorded (if b then [] else record { number = number; bytes = page } ∷ []) number ≡ page
    chosen true is = (bytes_eq-Decides recorded page).0 is
    chosen false is = rw (eq-eqb number number refl) refl

mapped_here : (recorded : List ℕ) (q number : ℕ) (page : Option (List ℕ)) → is_listed (listed_over recorded q page) number ≡ true → (q ≡ number) × (is_some page ≡ true)
mapped_here recorded q number None is = absurd cc
mapped_here recorded q number (Some page) is = chosen (bytes_eq recorded page) is
  where
    or_false : (b : Bool) → (b || false) ≡ true → b ≡ true
    or_false true h = refl
    or_false false h = h

    chosen : (b : Bool) → is_listed (if b then [] else record { number = q; bytes = page } ∷ []) number ≡ true → (q ≡ number) × (is_some (Some page) ≡ true)
    chosen true is = absurd cc
    chosen false is = (eqb-true q number (or_false (q == number) is), refl)

-- ---- all pages

module _ (recorded : ℕ → List ℕ) (now : Pages) where
  abbrev listed : ℕ → ℕ → List ListedPage
  listed a count = flat_map (changed_page recorded now) (range_with_len a count)

  outside : (a count number : ℕ) (bytes : List ℕ) → (number < a) ⊎ (a + count ≤ number) → last_listing bytes (listed a count) number ≡ bytes
  outside a zero number bytes out = refl
  outside a (suc count) number bytes out =
      last_listing-append bytes (changed_page recorded now a) (listed (a + 1) count) number
      ∙ ap (λ b. last_listing b (listed (a + 1) count) number) (skip bytes (recorded a) a number (get now a) (λ same. ⊎_elim (λ (lt : number < a). absurd (omega arith)) (λ (le : a + suc count ≤ number). absurd (omega arith)) out))
      ∙ outside (a + 1) count number bytes (⊎_elim (λ (lt : number < a). inl (omega arith)) (λ (le : a + suc count ≤ number). inr (omega arith)) out)

  inside : (a count number : ℕ) → a ≤ number → number < a + count → last_listing (recorded number) (listed a count) number ≡ unwrap_or (get now number) (recorded number)
  inside a zero number low high = absurd (omega arith)
  inside a (suc count) number low high =
      last_listing-append (recorded number) (changed_page recorded now a) (listed (a + 1) count) number
      ∙ ⊎_elim
      (λ (same : a ≡ number).
      ap (λ b. last_listing b (listed (a + 1) count) number) (ap (λ k. last_listing (recorded number) (listed_over (recorded k) k (get now k)) number) same ∙ here (recorded number) number (get now number))
      ∙ outside (a + 1) count number (unwrap_or (get now number) (recorded number)) (inl (omega arith)))
      (λ (apart : a ≡ number → ⊥).
      ap (λ b. last_listing b (listed (a + 1) count) number) (skip (recorded number) (recorded a) a number (get now a) apart)
      ∙ inside (a + 1) count number (omega arith) (omega arith))
      (cases_eq a number)

  -- what is recorded of a page then: its bytes where it is mapped
  pub last_changed : (number : ℕ) → (is_some (get now number) ≡ true → number < 2 ^ 20) → last_listing (recorded number) (changed_pages recorded now) number ≡ unwrap_or (get now number) (recorded number)
  unfolding changed_pages
  last_changed number below = with_count (2 ^ 20) refl below
    where
      gone : (page : Option (List ℕ)) (d : List ℕ) → (is_some page ≡ true → ⊥) → d ≡ unwrap_or page d
      gone None d never = refl
      gone (Some page) d never = absurd (never refl)

      with_count : (count : ℕ) → count ≡ 2 ^ 20 → (is_some (get now number) ≡ true → number < count) → last_listing (recorded number) (flat_map (changed_page recorded now) PAGE_NUMBERS) number ≡ unwrap_or (get now number) (recorded number)
      with_count count is below =
          ap (λ ns. last_listing (recorded number) (flat_map (changed_page recorded now) ns) number) (numbers_are count is)
          ∙ ⊎_elim
          (λ (lt : number < count). inside 0 count number (omega arith) (omega arith))
          (λ (le : count ≤ number).
          outside 0 count number (recorded number) (inr (omega arith))
          ∙ gone (get now number) (recorded number) (λ mapped.
          let lt = below mapped in
          absurd (omega arith)))
          (cases_lt number count)

  mapped_in : (a count number : ℕ) → is_listed (listed a count) number ≡ true → is_some (get now number) ≡ true
  mapped_in a zero number is = absurd cc
  mapped_in a (suc count) number is = ⊎_elim
      (λ (first : is_listed (changed_page recorded now a) number ≡ true).
      let both = mapped_here (recorded a) a number (get now a) first in
      subst (λ k. is_some (get now k) ≡ true) both.0 both.1)
      (λ (rest : is_listed (listed (a + 1) count) number ≡ true). mapped_in (a + 1) count number rest)
      (or_cases (is_listed (changed_page recorded now a) number) (is_listed (listed (a + 1) count) number) (sym (is_listed-append (changed_page recorded now a) (listed (a + 1) count) number) ∙ is))

  -- a listed page is mapped
  pub listed_is_mapped : (number : ℕ) → is_listed (changed_pages recorded now) number ≡ true → is_some (get now number) ≡ true
  unfolding changed_pages
  listed_is_mapped number is = with_count (2 ^ 20) refl
    where
      with_count : (count : ℕ) → count ≡ 2 ^ 20 → is_some (get now number) ≡ true
      with_count count all = mapped_in 0 count number (sym (ap (λ ns. is_listed (flat_map (changed_page recorded now) ns) number) (numbers_are count all)) ∙ is)

  -- ---- each listing is needed

  -- what was listed before of the pages from a on is what is recorded of them
  abbrev pub Tracks : List ListedPage → ℕ → Type 0
  Tracks earlier a = (number : ℕ) (bytes : List ℕ) → a ≤ number → rules.last_listed number earlier ≡ Some bytes → bytes ≡ recorded number

  needed_here : (earlier : List ListedPage) (a : ℕ) (page : Option (List ℕ)) → Tracks earlier a → AreNeeded earlier (listed_over (recorded a) a page)
  needed_here earlier a None tracks = tt
  needed_here earlier a (Some page) tracks = chosen (bytes_eq (recorded a) page) refl
    where
      chosen : (b : Bool) → bytes_eq (recorded a) page ≡ b → AreNeeded earlier (if b then [] else record { number = a; bytes = page } ∷ [])
      chosen true is = tt
      chosen false is = (
        λ same.
            let e : page ≡ recorded a = tracks a page (omega arith) same in
            let yes = (bytes_eq-Decides (recorded a) page).1 (sym e) in
            absurd cc,
        tt,
      )

  tracks_on : (earlier : List ListedPage) (a : ℕ) (page : Option (List ℕ)) → Tracks earlier a → Tracks (earlier ++ listed_over (recorded a) a page) (a + 1)
  tracks_on earlier a page tracks number bytes low is = tracks number bytes (omega arith) (sym (same page) ∙ is)
    where
      append_none : (xs : List ListedPage) → xs ++ [] ≡ xs
      append_none [] = refl
      append_none (x ∷ xs) = ap (λ (l : List ListedPage). x ∷ l) (append_none xs)

      chosen : (b : Bool) (page : List ℕ) → rules.last_listed number (earlier ++ (if b then [] else record { number = a; bytes = page } ∷ [])) ≡ rules.last_listed number earlier
      chosen true page = ap (rules.last_listed number) (append_none earlier)
      chosen false page =
          last_listed-push number earlier (record { number = a; bytes = page })
          ∙ ap (λ (b : Bool). cond b (Some page) (rules.last_listed number earlier)) (ne_eqb a number (λ e. absurd (omega arith)))

      same : (page : Option (List ℕ)) → rules.last_listed number (earlier ++ listed_over (recorded a) a page) ≡ rules.last_listed number earlier
      same None = ap (rules.last_listed number) (append_none earlier)
      same (Some page) = chosen (bytes_eq (recorded a) page) page

  needed_in : (earlier : List ListedPage) (a count : ℕ) → Tracks earlier a → AreNeeded earlier (listed a count)
  needed_in earlier a zero tracks = tt
  needed_in earlier a (suc count) tracks =
      AreNeeded-join earlier (changed_page recorded now a) (listed (a + 1) count) (needed_here earlier a (get now a) tracks)
      (needed_in (earlier ++ changed_page recorded now a) (a + 1) count (tracks_on earlier a (get now a) tracks))

  pub changes_are_needed : (earlier : List ListedPage) → Tracks earlier 0 → AreNeeded earlier (changed_pages recorded now)
  unfolding changed_pages
  changes_are_needed earlier tracks = with_count (2 ^ 20) refl
    where
      with_count : (count : ℕ) → count ≡ 2 ^ 20 → AreNeeded earlier (flat_map (changed_page recorded now) PAGE_NUMBERS)
      with_count count all = subst (λ ns. AreNeeded earlier (flat_map (changed_page recorded now) ns)) (sym (numbers_are count all)) (needed_in earlier 0 count tracks)
