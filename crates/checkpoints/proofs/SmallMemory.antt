-- The memory of the tests: at most two pages, and none of them a heap's.
use Rattle.std.specs.List.{AllByRecursion}
use Rattle.std.proofs.Math.ListN.{length-set}
use Rattle.std.proofs.Common.{lit<, lit≤, zero, ◌≡◌, ℕ, suc, ◌*◌, ◌<◌, ◌≤◌, ◌⊎◌, Bool, true, false, cond, List, [], ◌∷◌, ◌++◌, length, Some, refl, ap, ◌∙◌, sym, arith, subst, inl, inr, ⊎_elim}
use Rattle.std.specs.Prelude.{Option, IsSome, is_some, ◌&&◌, not, nat_le, nat_lt, filter, if◌then◌else◌, replicate, slice_set}
use Rattle.std.specs.Ordering.{nat_cmp, eq_by_cmp}
use Rattle.std.specs.Cmp.{nat_cmp_total}
use Rattle.std.specs.FinMap.{get, insert, len, keys, entries, empty, contains_key, get-insert, get-empty, len-entries}
use Rattle.std.proofs.lemmas.List.{length-map}
use Rattle.std.proofs.lemmas.Grind.{common_steps}
use Rattle.sl_model.specs.declared.run_state.RunState.TheVariants.{Running}
use Rattle.sl_model.specs.Pages.{Pages, ArePages}
use Rattle.sl_model.specs.Words.{IsWord}
use Rattle.sl_model.proofs.Steps.{words-set_register}
use Rattle.sl_model.specs.State.{State, IsOpening}
use Rattle.page_frames.specs.MarkedPages.{MarkedPages, with_page}
use Rattle.sl_model.specs.Mapping.{zero_page}
use Rattle.sl_model.specs.Marks.{MarksGoOn}
use Rattle.sl_model.specs.declared.layout.TheConstants.{PROGRAM_PAGES}
use Rattle.std.specs.Prelude.{Contains}
use Rattle.std.proofs.lemmas.List.Elements.{Contains-append_left, Contains-push}
use Rattle.checkpoints.specs.Marked.{IsAllDirty}
use Rattle.checkpoints.proofs.Sizes.{part_len}

length-filter_le : (p : ℕ → Bool) (xs : List ℕ) → length (filter p xs) ≤ length xs
length-filter_le p [] = omega arith
length-filter_le p (x ∷ xs) = filter_step (p x) x (filter p xs) (length xs) (length-filter_le p xs)
  where
    filter_step : (b : Bool) (x : ℕ) (rest : List ℕ) (n : ℕ) → length rest ≤ n → length (cond b (x ∷ rest) rest) ≤ suc n
    filter_step true x rest n le = omega arith
    filter_step false x rest n le = omega arith

-- ---- a page more, and bytes that are written

chosen : (b : Bool) (m n : MarkedPages) (q : ℕ) → IsSome (get (if b then m else n).pages q) → IsSome (get m.pages q) ⊎ IsSome (get n.pages q)
chosen true m n q h = inl h
chosen false m n q h = inr h

inserted : (b : Bool) (page : List ℕ) (o : Option (List ℕ)) → IsSome (cond b (Some page) o) → (b ≡ true) ⊎ IsSome o
inserted true page o h = inl refl
inserted false page o h = inr h

tied : (q k : ℕ) → eq_by_cmp nat_cmp q k ≡ true → q ≡ k
tied q k e = grind (arith, common_steps)

pub mapped_more : (m : MarkedPages) (page q : ℕ) → IsSome (get (with_page m page).pages q) → IsSome (get m.pages q) ⊎ (q ≡ page)
mapped_more m page q h = ⊎_elim
    (λ old. inl old)
    (λ new. ⊎_elim (λ e. inr (tied q page e)) (λ o. inl o)
    (inserted (eq_by_cmp nat_cmp q page) (replicate 4096 0) (get m.pages q) (subst IsSome (get-insert nat_cmp_total m.pages page (replicate 4096 0) q) new)))
    (chosen (contains_key m.pages page) m (record { pages = insert m.pages page (replicate 4096 0); dirty = m.dirty ++ page ∷ [] }) q h)

-- a memory has no more pages than one that has them all
pub len_of_part : (part whole : Pages) → ((q : ℕ) → IsSome (get part q) → IsSome (get whole q)) → len part ≤ len whole
len_of_part part whole sub = part_len (len part) part whole refl sub

-- ---- an opening state

heap_page : (q : ℕ) → (q < 18) ⊎ (20 ≤ q) → 0x12000 ≤ q * 4096 → q * 4096 < 0x14000 → ⊥
heap_page q is from to = ⊎_elim (λ low. omega arith) (λ high. omega arith) is

zeros : (n : ℕ) → AllByRecursion IsWord (replicate n 0)
zeros zero = tt
zeros (suc n) = (lit< tt, zeros n)

-- the machine of the tests, with such a memory
abbrev first_state : Pages → State
first_state pages =
    record {
      pc = 0x10000;
      x = slice_set (replicate 32 0) 2 0x7fffffe0;
      pages = pages;
      brk = 0x12000;
      brk_end = 0x12000;
      next_call = 0;
      status = Running;
      count = 0;
      layout = record { brk_start = 0x12000; heap_limit = 0x14000 };
    }

pub opening_is : (pages : Pages) → ArePages pages → ((page : ℕ) → IsSome (get pages page) → page < PROGRAM_PAGES) → ((page : ℕ) → IsSome (get pages page) → (page < 18) ⊎ (20 ≤ page))
    → len pages ≤ 2 → IsOpening (first_state pages)
opening_is all are below pages few =
    let s : State = first_state all in
    let outer : ℕ → Bool = λ page. not (nat_le s.layout.brk_start (page * 4096) && nat_lt (page * 4096) s.layout.heap_limit) in
    let long : length (keys s.pages) ≡ len s.pages = length-map (entries s.pages) (λ (e : ℕ × List ℕ). e.0) ∙ sym (len-entries s.pages) in
    let outside = length-filter_le outer (keys s.pages) in
    record {
      state = record {
        pc = lit< tt;
        registers = length-set {A = ℕ} (replicate 32 0) 2 0x7fffffe0;
        words = words-set_register (replicate 32 0) 2 0x7fffffe0 (zeros 32) (lit< tt);
        zero = refl;
        pages = are;
        brk = lit< tt;
        brk_end = lit< tt;
        next_call = lit< tt;
        status = tt;
        count = lit< tt;
        layout = record { brk_start = lit< tt; heap_limit = lit< tt };
      };
      fits = record {
        layout = record { start = refl; limit = refl; ordered = lit≤ tt; below_end = lit≤ tt; size = lit≤ tt };
        mapped_end = refl;
        end_from = lit≤ tt;
        end_to = lit≤ tt;
        pages_below = λ page h. omega (arith, below page h);
        heap = λ page from to. (
          λ h. absurd (heap_page page (pages page h) (omega arith) (omega arith)),
          λ low. absurd (omega arith),
        );
        few = omega arith;
      };
      running = refl;
      count = refl;
      next_call = refl;
      brk = refl;
      no_heap = refl;
    }

pub not_in_empty : (m : Pages) (q : ℕ) → m ≡ empty → IsSome (get m q) → ⊥
not_in_empty m q is some =
    let none : is_some (get m q) ≡ false = ap (λ (n : Pages). is_some (get n q)) is ∙ ap is_some (get-empty nat_cmp q) in
    let found : is_some (get m q) ≡ true = some in
    absurd cc

-- ---- memories with all pages dirty

pub all_dirty-empty : (m : MarkedPages) → m.pages ≡ empty → IsAllDirty m
all_dirty-empty m is q some = absurd (not_in_empty m.pages q is some)

dirty_if : (b : Bool) (m : MarkedPages) (page q : ℕ) → contains_key m.pages page ≡ b → IsAllDirty m
    → (IsSome (get m.pages q)) ⊎ (q ≡ page)
    → Contains (if b then m else record { pages = insert m.pages page zero_page; dirty = m.dirty ++ page ∷ [] }).dirty q
dirty_if true m page q is all (inl before) = all q before
dirty_if true m page q is all (inr here) = all q (rw here is)
dirty_if false m page q is all (inl before) = Contains-append_left m.dirty (page ∷ []) q (all q before)
dirty_if false m page q is all (inr here) = rw here (Contains-push m.dirty page)

pub all_dirty-mapped : (m n : MarkedPages) (page : ℕ) → n ≡ with_page m page → IsAllDirty m → IsAllDirty n
all_dirty-mapped m n page is all q some =
    subst (λ (v : MarkedPages). Contains v.dirty q) (sym is)
    (dirty_if (contains_key m.pages page) m page q refl all
    (mapped_more m page q (subst (λ (v : MarkedPages). IsSome (get v.pages q)) is some)))

pub all_dirty-goes_on : (m n : MarkedPages) → MarksGoOn true m.pages m.dirty n.pages n.dirty
    → ((q : ℕ) → IsSome (get n.pages q) → q < PROGRAM_PAGES) → IsAllDirty m → IsAllDirty n
all_dirty-goes_on m n on below all q some = ⊎_elim
    (λ (same : get n.pages q ≡ get m.pages q).
    rw on.keeps.1 (Contains-append_left m.dirty on.keeps.0 q (all q (rw same at some))))
    (λ (dirty : Contains n.dirty q). dirty)
    (on.marks refl q (below q some))
