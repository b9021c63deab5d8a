-- The set of the pages that meet some segments.
use Rattle.std.specs.Prelude.{nat_lt, nat_le, nat_eq, ◌&&◌, ◌||◌, not, zero, suc, ◌-◌}
use Rattle.std.specs.List.{AllByRecursion, IsDistinct, flat_map, list_any, range_with_len}
use Rattle.std.specs.Ordering.{nat_cmp, eq_by_cmp}
use Rattle.std.specs.Cmp.{IsEquivalence, nat_cmp_total, eq_by_cmp_equiv}
use Rattle.std.specs.FinSet.{FinSet, from_list, len, contains, remove, contains-from_list_nat, contains-remove, contains-empty, len-insert, len-remove, len-empty, empty_of_len}
use Rattle.std.proofs.Common.{◌≡◌, ℕ, ◌+◌, ◌/◌, ◌<◌, ◌≤◌, Bool, true, false, cond, List, [], ◌∷◌, length, refl, sym, ap, ◌∙◌, ◌⊎◌, inl, inr, ⊎_elim, arith, true≢false}
use Rattle.std.proofs.lemmas.Bool.{or_cases, or_right}
use Rattle.std.proofs.lemmas.List.Folds.{list_any-append}
use Rattle.elf_image.specs.declared.image.Segment.{Segment}
use Rattle.elf_image.specs.Flat.{page_count}
use Rattle.elf_image.specs.Loadable.{takes_memory, segment_pages, meets_page, page_set, number_of_pages}

-- ---- members

list_any-flat_map : {X A : Type 0} (p : A → Bool) (f : X → List A) (xs : List X) → list_any p (flat_map f xs) ≡ list_any (λ x. list_any p (f x)) xs
list_any-flat_map p f [] = refl
list_any-flat_map p f (x ∷ xs) = list_any-append p (f x) (flat_map f xs) ∙ ap (λ b. list_any p (f x) || b) (list_any-flat_map p f xs)

list_any_same : {X : Type 0} (p q : X → Bool) → ((x : X) → p x ≡ q x) → (xs : List X) → list_any p xs ≡ list_any q xs
list_any_same p q same [] = refl
list_any_same p q same (x ∷ xs) = λ i. same x i || list_any_same p q same xs i

one_more : (page first n : ℕ) → (nat_eq first page || (nat_le (first + 1) page && nat_lt page (first + 1 + n))) ≡ (nat_le first page && nat_lt page (first + suc n))
one_more page first n = grind arith

-- is a number among those in a row
pub in_row : (page first n : ℕ) → list_any (λ y. nat_eq y page) (range_with_len first n) ≡ (nat_le first page && nat_lt page (first + n))
in_row page first zero = grind arith
in_row page first (suc n) = ap (λ b. nat_eq first page || b) (in_row page (first + 1) n) ∙ one_more page first n

in_segment : (page : ℕ) (segment : Segment) → list_any (λ y. nat_eq y page) (segment_pages segment) ≡ meets_page segment page
in_segment page segment = chosen (takes_memory segment)
  where
    first : ℕ
    first = segment.vaddr / 4096

    count : ℕ
    count = page_count segment.vaddr segment.memsz

    chosen : (b : Bool) → list_any (λ y. nat_eq y page) (cond b (range_with_len (segment.vaddr / 4096) (page_count segment.vaddr segment.memsz)) []) ≡ (b && (nat_le (segment.vaddr / 4096) page && nat_lt page (segment.vaddr / 4096 + page_count segment.vaddr segment.memsz)))
    chosen true = in_row page (segment.vaddr / 4096) (page_count segment.vaddr segment.memsz)
    chosen false = refl

-- a page is in the set where it meets one of the segments
pub contains-page_set : (segments : List Segment) (page : ℕ) → contains (page_set segments) page ≡ list_any (λ segment. meets_page segment page) segments
unfolding page_set
contains-page_set segments page =
    contains-from_list_nat (flat_map segment_pages segments) page
    ∙ list_any-flat_map (λ y. nat_eq y page) segment_pages segments
    ∙ list_any_same _ _ (in_segment page) segments

-- ---- size

-- what is in a list without repeats is in what is left of a set without the first
left : (x : ℕ) (xs : List ℕ) (s : FinSet nat_cmp) → IsDistinct (eq_by_cmp nat_cmp) (x ∷ xs)
    → ((q : ℕ) → list_any (eq_by_cmp nat_cmp q) (x ∷ xs) ≡ true → contains s q ≡ true)
    → (q : ℕ) → list_any (eq_by_cmp nat_cmp q) xs ≡ true → contains (remove s x) q ≡ true
unfolding IsDistinct
left x xs s distinct each q is =
    let apart : eq_by_cmp nat_cmp x q ≡ false = not_among x q xs distinct.0 is in
    contains-remove nat_cmp_total s x q
    ∙ ap (λ b. not b && contains s q) (laws.symm q x ∙ apart)
    ∙ each q (or_right (eq_by_cmp nat_cmp q x) (list_any (eq_by_cmp nat_cmp q) xs) is)
  where
    laws : IsEquivalence (eq_by_cmp nat_cmp)
    laws = eq_by_cmp_equiv nat_cmp_total

    not_among : (x q : ℕ) (xs : List ℕ) → AllByRecursion (λ y. eq_by_cmp nat_cmp x y ≡ false) xs → list_any (eq_by_cmp nat_cmp q) xs ≡ true → eq_by_cmp nat_cmp x q ≡ false
    not_among x q [] apart is = absurd (true≢false (sym is))
    not_among x q (y ∷ ys) apart is = ⊎_elim
        (λ (same : eq_by_cmp nat_cmp q y ≡ true). (laws.symm x q ∙ laws.congr q y x same ∙ laws.symm y x) ∙ apart.0)
        (λ (later : list_any (eq_by_cmp nat_cmp q) ys ≡ true). not_among x q ys apart.1 later)
        (or_cases (eq_by_cmp nat_cmp q y) (list_any (eq_by_cmp nat_cmp q) ys) is)

itself : (x : ℕ) → eq_by_cmp nat_cmp x x ≡ true
itself x = (eq_by_cmp_equiv nat_cmp_total).refl x

some_member : (s : FinSet nat_cmp) (x : ℕ) → contains s x ≡ true → 0 < len s
some_member s x is = ⊎_elim
    (λ (none : len s ≡ 0). absurd (true≢false (sym is ∙ ap (λ t. contains t x) (empty_of_len s none) ∙ contains-empty nat_cmp x)))
    (λ (some : 0 < len s). some)
    (zero_or (len s))
  where
    zero_or : (n : ℕ) → (n ≡ 0) ⊎ (0 < n)
    zero_or zero = inl refl
    zero_or (suc n) = inr (omega arith)

-- a list without repeats of members of a set is no longer than the set is large
pub length-le-len : (xs : List ℕ) (s : FinSet nat_cmp) → IsDistinct (eq_by_cmp nat_cmp) xs
    → ((q : ℕ) → list_any (eq_by_cmp nat_cmp q) xs ≡ true → contains s q ≡ true) → length xs ≤ len s
unfolding IsDistinct
length-le-len [] s distinct each = omega arith
length-le-len (x ∷ xs) s distinct each =
    let there : contains s x ≡ true = each x (ap (λ b. b || list_any (eq_by_cmp nat_cmp x) xs) (itself x)) in
    let rest = length-le-len xs (remove s x) distinct.1 (left x xs s distinct each) in
    let smaller : len (remove s x) ≡ len s - 1 = len-remove nat_cmp_total s x ∙ ap (λ b. cond b (len s - 1) (len s)) there in
    omega (arith, some_member s x there)

-- a list of pages without repeats, each of which meets one of the segments, is no longer than the set is large
pub length-le-number_of_pages : (segments : List Segment) (pages : List ℕ) → IsDistinct (eq_by_cmp nat_cmp) pages
    → ((page : ℕ) → list_any (eq_by_cmp nat_cmp page) pages ≡ true → list_any (λ segment. meets_page segment page) segments ≡ true)
    → length pages ≤ number_of_pages segments
length-le-number_of_pages segments pages distinct each =
    length-le-len pages (page_set segments) distinct (λ page is. contains-page_set segments page ∙ each page is)

-- a set of a list has at most as many members as the list
pub len-from_list-le : (ks : List ℕ) → len (from_list {R = nat_cmp} ks) ≤ length ks
len-from_list-le [] = omega (arith, len-empty nat_cmp)
len-from_list-le (k ∷ ks) = chosen (contains (from_list ks) k) (len-insert nat_cmp_total (from_list ks) k) (len-from_list-le ks)
  where
    chosen : (b : Bool) → len (from_list {R = nat_cmp} (k ∷ ks)) ≡ cond b (len (from_list {R = nat_cmp} ks)) (len (from_list {R = nat_cmp} ks) + 1) → len (from_list {R = nat_cmp} ks) ≤ length ks → len (from_list {R = nat_cmp} (k ∷ ks)) ≤ length (k ∷ ks)
    chosen true is before = omega arith
    chosen false is before = omega arith
