-- How many pages are mapped, and how many of them pass a test.
use Rattle.std.specs.Prelude.{◌&&◌, filter, is_some, not, T}
use Rattle.std.specs.List.{AllByRecursion, IsDistinct, list_any}
use Rattle.std.specs.Ordering.{nat_cmp, eq_by_cmp, is_lt, is_eq}
use Rattle.std.specs.Cmp.{nat_cmp_total, eq_by_cmp_equiv}
use Rattle.std.specs.FinMap.{get, insert, contains_key, keys, entries, len, len-insert, len-entries, entries_sorted, contains_key-keys, nat_cmp-IsAntisymmetric}
use Rattle.std.specs.FinMap.Entries.{is_sorted, below_all}
use Rattle.std.specs.declared.cmp.Ordering.{Ordering}
use Rattle.std.specs.declared.cmp.Ordering.TheVariants.{Less, Equal, Greater}
use Rattle.std.proofs.Common.{◌≡◌, ℕ, zero, suc, ◌+◌, ◌≤◌, Bool, true, false, cond, List, [], ◌∷◌, length, map, refl, sym, ap, subst, ◌∙◌, arith, add-zero}
use Rattle.std.proofs.lemmas.List.{length-map}
use Rattle.std.proofs.lemmas.List.Filters.{length-filter_both}
use Rattle.std.proofs.lemmas.Map.Made.{length-from_same_keys, is_member-filter}
use Rattle.sl_model.specs.Pages.{Pages}
use Rattle.sl_model.specs.Mapping.{zero_page, map_page, map_pages}

abbrev Entries : Type 0
Entries = List (ℕ × List ℕ)

both_hold : (a b : Bool) → T (a && b) → T a × T b
both_hold true b h = (tt, h)
both_hold false b h = absurd h

apart_less : (order : Ordering) → T (is_lt order) → is_eq order ≡ false
apart_less Less h = refl
apart_less Equal h = absurd h
apart_less Greater h = absurd h

all_apart : (p : ℕ → Bool) (x : ℕ) (es : Entries) → T (below_all nat_cmp x es) → AllByRecursion (λ y. eq_by_cmp nat_cmp x y ≡ false) (filter p (map (λ e. e.0) es))
all_apart p x [] below = tt
all_apart p x (e ∷ es) below =
    let parts = both_hold (is_lt (nat_cmp x e.0)) (below_all nat_cmp x es) below in
    chosen (p e.0) (apart_less (nat_cmp x e.0) parts.0) (all_apart p x es parts.1)
  where
    chosen : (b : Bool) → eq_by_cmp nat_cmp x e.0 ≡ false → AllByRecursion (λ y. eq_by_cmp nat_cmp x y ≡ false) (filter p (map (λ e. e.0) es))
        → AllByRecursion (λ y. eq_by_cmp nat_cmp x y ≡ false) (cond b (e.0 ∷ filter p (map (λ e. e.0) es)) (filter p (map (λ e. e.0) es)))
    chosen true here rest = (here, rest)
    chosen false here rest = rest

distinct : (p : ℕ → Bool) (es : Entries) → T (is_sorted nat_cmp es) → IsDistinct (eq_by_cmp nat_cmp) (filter p (map (λ e. e.0) es))
unfolding IsDistinct
distinct p [] sorted = tt
distinct p (e ∷ es) sorted =
    let parts = both_hold (below_all nat_cmp e.0 es) (is_sorted nat_cmp es) sorted in
    chosen (p e.0) (all_apart p e.0 es parts.0) (distinct p es parts.1)
  where
    chosen : (b : Bool) → AllByRecursion (λ y. eq_by_cmp nat_cmp e.0 y ≡ false) (filter p (map (λ e. e.0) es)) → IsDistinct (eq_by_cmp nat_cmp) (filter p (map (λ e. e.0) es))
        → IsDistinct (eq_by_cmp nat_cmp) (cond b (e.0 ∷ filter p (map (λ e. e.0) es)) (filter p (map (λ e. e.0) es)))
    chosen true here rest = (here, rest)
    chosen false here rest = rest

distinct_keys : (p : ℕ → Bool) (pages : Pages) → IsDistinct (eq_by_cmp nat_cmp) (filter p (keys pages))
distinct_keys p pages = distinct p (entries pages) (entries_sorted pages)

tied : (x y : ℕ) → eq_by_cmp nat_cmp x y ≡ true → x ≡ y
tied x y is = nat_cmp-IsAntisymmetric x y (equal (nat_cmp x y) is)
  where
    equal : (order : Ordering) → is_eq order ≡ true → order ≡ Equal
    equal Less is = absurd cc
    equal Equal is = refl
    equal Greater is = absurd cc

member : (p : ℕ → Bool) (pages : Pages) (q : ℕ) → list_any (eq_by_cmp nat_cmp q) (filter p (keys pages)) ≡ (is_some (get pages q) && p q)
member p pages q =
    is_member-filter (eq_by_cmp_equiv nat_cmp_total) p q (λ x same. ap p (tied q x same)) (keys pages)
    ∙ ap (λ b. b && p q) (sym (contains_key-keys pages q))

-- memories in which the same pages pass have as many of them
pub same_number : (p : ℕ → Bool) (a b : Pages) → ((q : ℕ) → (is_some (get a q) && p q) ≡ (is_some (get b q) && p q)) → length (filter p (keys a)) ≡ length (filter p (keys b))
same_number p a b same = length-from_same_keys (eq_by_cmp_equiv nat_cmp_total) (filter p (keys a)) (filter p (keys b)) (distinct_keys p a) (distinct_keys p b) (λ q. member p a q ∙ same q ∙ sym (member p b q))

-- ---- all pages

pub length-keys : (pages : Pages) → length (keys pages) ≡ len pages
length-keys pages = length-map (entries pages) (λ e. e.0) ∙ sym (len-entries pages)

pub length-passing : (p : ℕ → Bool) (pages : Pages) → length (filter p (keys pages)) ≤ len pages
length-passing p pages = omega (arith, length-filter_both p (λ x. not (p x)) (λ x. refl) (keys pages), length-keys pages)

every : (ns : List ℕ) → filter (λ n. true) ns ≡ ns
every [] = refl
every (n ∷ ns) = ap (λ l. n ∷ l) (every ns)

-- no page is listed twice, and exactly the mapped ones are
pub IsDistinct-keys : (pages : Pages) → IsDistinct (eq_by_cmp nat_cmp) (keys pages)
IsDistinct-keys pages = subst (IsDistinct (eq_by_cmp nat_cmp)) (every (keys pages)) (distinct_keys (λ n. true) pages)

pub is_listed : (pages : Pages) (page : ℕ) → list_any (eq_by_cmp nat_cmp page) (keys pages) ≡ is_some (get pages page)
is_listed pages page = sym (contains_key-keys pages page)

-- ---- pages of zeros that are mapped

one_more : (b : Bool) (pages : Pages) (page : ℕ) → contains_key pages page ≡ b → len (cond b pages (insert pages page zero_page)) ≡ len pages + cond b 0 1
one_more true pages page is = sym (add-zero (len pages))
one_more false pages page is = rw (len-insert nat_cmp_total pages page zero_page, is) refl

above : (b : Bool) (n : ℕ) → n ≤ n + cond b 0 1
above true n = omega arith
above false n = omega arith

below : (b : Bool) (n : ℕ) → n + cond b 0 1 ≤ n + 1
below true n = omega arith
below false n = omega arith

pub len-map_page-above : (pages : Pages) (page : ℕ) → len pages ≤ len (map_page pages page)
len-map_page-above pages page = rw (one_more (contains_key pages page) pages page refl) (above (contains_key pages page) (len pages))

len-map_page-below : (pages : Pages) (page : ℕ) → len (map_page pages page) ≤ len pages + 1
len-map_page-below pages page = rw (one_more (contains_key pages page) pages page refl) (below (contains_key pages page) (len pages))

pub len-map_pages-above : (pages : Pages) (first count : ℕ) → len pages ≤ len (map_pages pages first count)
unfolding map_pages
len-map_pages-above pages first zero = omega arith
len-map_pages-above pages first (suc count) = omega (arith, len-map_page-above pages first, len-map_pages-above (map_page pages first) (first + 1) count)

pub len-map_pages-below : (pages : Pages) (first count : ℕ) → len (map_pages pages first count) ≤ len pages + count
unfolding map_pages
len-map_pages-below pages first zero = omega arith
len-map_pages-below pages first (suc count) = omega (arith, len-map_page-below pages first, len-map_pages-below (map_page pages first) (first + 1) count)
