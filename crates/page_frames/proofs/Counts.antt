-- How many pages can be dirty.
use Rattle.std.proofs.Common.{◌≡◌, ℕ, zero, suc, ◌≤◌, List, [], ◌∷◌, length, Some, None}
use Rattle.std.proofs.Common.{Bool, true, false, cond, refl, sym, subst, arith, eqb, slice_get}
use Rattle.std.specs.Prelude.{Option, IsSome}
use Rattle.std.specs.Option.{option_and_then}
use Rattle.std.specs.Ordering.{nat_cmp, eq_by_cmp}
use Rattle.std.specs.List.{list_any, IsDistinct}
use Rattle.std.specs.Map.{lookup}
use Rattle.std.specs.Cmp.{eq_by_cmp_equiv, nat_cmp_total}
use Rattle.std.proofs.lemmas.Map.Steps.{length-le_from_keys}
use Rattle.std.proofs.lemmas.Grind.{common_steps}
use Rattle.page_frames.specs.declared.frame.Frame.{Frame}
use Rattle.page_frames.specs.declared.table.Table.{Table}
use Rattle.page_frames.specs.Linked.{index_of, is_of_page, frame_of}

-- ---- the frames in use by their pages

with_entry : Option Frame → List (ℕ × Frame) → List (ℕ × Frame)
with_entry None entries = entries
with_entry (Some f) entries = (f.page, f) ∷ entries

entries_below : List Frame → ℕ → List (ℕ × Frame)
entries_below frames zero = []
entries_below frames (suc n) = with_entry (slice_get frames n) (entries_below frames n)

few_by : (o : Option Frame) (entries : List (ℕ × Frame)) (n : ℕ) → length entries ≤ n
    → length (with_entry o entries) ≤ suc n
unfolding with_entry
few_by None entries n few = omega arith
few_by (Some f) entries n few = omega arith

few_entries : (frames : List Frame) (n : ℕ) → length (entries_below frames n) ≤ n
unfolding entries_below
few_entries frames zero = omega arith
few_entries frames (suc n) = few_by (slice_get frames n) (entries_below frames n) n (few_entries frames n)

flip : (x y : ℕ) → eqb x y ≡ eqb y x
flip x y = grind (arith, common_steps)

entered_if : (b : Bool) (f : Frame) (n i : ℕ) (before : Option ℕ) (rest : Option Frame)
    → (before ≡ Some i → IsSome rest) → cond b (Some n) before ≡ Some i → IsSome (cond b (Some f) rest)
entered_if true f n i before rest below is = refl
entered_if false f n i before rest below is = below is

entered_by : (frames : List Frame) (n q i : ℕ) (o : Option Frame) → (index_of frames n q ≡ Some i
    → IsSome (lookup (eqb q) (entries_below frames n)))
    → cond (is_of_page q o) (Some n) (index_of frames n q) ≡ Some i
    → IsSome (lookup (eqb q) (with_entry o (entries_below frames n)))
unfolding with_entry
entered_by frames n q i None below is = below is
entered_by frames n q i (Some f) below is =
    rw (flip q f.page) (entered_if (eqb f.page q) f n i (index_of frames n q)
    (lookup (eqb q) (entries_below frames n)) below is)

entered : (frames : List Frame) (n q i : ℕ) → index_of frames n q ≡ Some i
    → IsSome (lookup (eqb q) (entries_below frames n))
unfolding entries_below
entered frames zero q i is = absurd cc
entered frames (suc n) q i is =
    entered_by frames n q i (slice_get frames n) (λ before. entered frames n q i before) is

has_entry : (t : Table) (q : ℕ) (o : Option ℕ) → index_of t.frames.items t.used q ≡ o
    → IsSome (option_and_then (λ i. slice_get t.frames.items i) o)
    → IsSome (lookup (eqb q) (entries_below t.frames.items t.used))
has_entry t q None is some = absurd cc
has_entry t q (Some i) is some = entered t.frames.items t.used q i is

-- ---- against a list of pages

-- two numbers tie where they are equal
tie : (x y : ℕ) → eq_by_cmp nat_cmp x y ≡ eqb x y
tie x y = grind (arith, common_steps)

same_test : ◌≡◌ {A = ℕ → ℕ → Bool} (eq_by_cmp nat_cmp) eqb
same_test = λ i x y. tie x y i

-- pages that differ and have frames are at most as many as the frames in use
pub length-le-used : (t : Table) (pages : List ℕ) → IsDistinct eqb pages
    → ((q : ℕ) → list_any (eqb q) pages ≡ true → IsSome (frame_of t q)) → length pages ≤ t.used
length-le-used t pages once framed =
    let entries = entries_below t.frames.items t.used in
    let few : length pages ≤ length entries =
    length-le_from_keys (eq_by_cmp_equiv nat_cmp_total) pages entries
    (subst (λ test. IsDistinct test pages) (sym same_test) once)
    (λ q any. subst (λ (test : ℕ → ℕ → Bool). IsSome (lookup (test q) entries)) (sym same_test)
    (has_entry t q (index_of t.frames.items t.used q) refl
    (framed q (subst (λ (test : ℕ → ℕ → Bool). list_any (test q) pages ≡ true) same_test any)))) in
    omega (arith, few_entries t.frames.items t.used)
