-- Which states fit their layout.
use Rattle.std.specs.Prelude.{◌*◌, ◌&&◌, IsSome, not, nat_le, nat_lt, is_some}
use Rattle.std.specs.FinMap.{get}
use Rattle.std.proofs.Common.{◌≡◌, ℕ, ◌%◌, ◌<◌, ◌≤◌, ◌↔◌, ⊎_elim, Bool, true, false, refl, sym, ap, subst, ◌∙◌, arith, le-leb, lt-ltb}
use Rattle.std.proofs.lemmas.Bool.{and_parts, and_from, ltb-true, leb-true, cases_lt}
use Rattle.sl_model.specs.declared.layout.Layout.{Layout}
use Rattle.sl_model.specs.declared.layout.TheConstants.{MEMORY_END}
use Rattle.sl_model.specs.State.{State, Fits, is_outside_heap}
use Rattle.sl_model.specs.Step.{Stepped, step}
use Rattle.sl_model.proofs.Counted.{same_number}
use Rattle.sl_model.proofs.Steps.{IsNext, IsNext-step}

-- ---- a heap that grew

pub record Grows (s t : State) : Type 0 where
  pub layout : t.layout ≡ s.layout
  pub end_page : t.brk_end % 4096 ≡ 0
  pub end_from : s.layout.brk_start ≤ t.brk_end
  pub end_to : t.brk_end ≤ s.layout.heap_limit
  -- the pages of s outside of its heap, and the heap's up to the new end
  pub outside : (page : ℕ) → (is_some (get t.pages page) && is_outside_heap s.layout page) ≡ (is_some (get s.pages page) && is_outside_heap s.layout page)
  pub heap : (page : ℕ) → s.layout.brk_start ≤ page * 4096 → page * 4096 < s.layout.heap_limit → IsSome (get t.pages page) ↔ (page * 4096 < t.brk_end)

pub is_outside_heap-true : (layout : Layout) (page : ℕ) → (layout.brk_start ≤ page * 4096 → page * 4096 < layout.heap_limit → ⊥) → is_outside_heap layout page ≡ true
is_outside_heap-true layout page out = chosen (nat_le layout.brk_start (page * 4096)) (nat_lt (page * 4096) layout.heap_limit) refl refl
  where
    chosen : (a b : Bool) → nat_le layout.brk_start (page * 4096) ≡ a → nat_lt (page * 4096) layout.heap_limit ≡ b → not (a && b) ≡ true
    chosen false b low high = refl
    chosen true false low high = refl
    chosen true true low high = absurd (out (leb-true layout.brk_start (page * 4096) low) (ltb-true (page * 4096) layout.heap_limit high))

pub is_outside_heap-false : (layout : Layout) (page : ℕ) → layout.brk_start ≤ page * 4096 → page * 4096 < layout.heap_limit → is_outside_heap layout page ≡ false
is_outside_heap-false layout page from to =
    ap not (and_from (nat_le layout.brk_start (page * 4096)) (nat_lt (page * 4096) layout.heap_limit) (le-leb layout.brk_start (page * 4096) from) (lt-ltb (page * 4096) layout.heap_limit to))

-- a state whose heap grew within its bounds fits
pub Fits-grows : (s t : State) → Fits s → Grows s t → Fits t
Fits-grows s t fits grows = record {
  layout = rw grows.layout fits.layout;
  mapped_end = grows.end_page;
  end_from = rw grows.layout grows.end_from;
  end_to = rw grows.layout grows.end_to;
  pages_below = λ page some. below page some;
  heap = rw grows.layout grows.heap;
  few = rw grows.layout (subst (λ n. n ≤ 12288) (sym (same_number (is_outside_heap s.layout) t.pages s.pages grows.outside)) fits.few);
}
  where
    below : (page : ℕ) → IsSome (get t.pages page) → page * 4096 < MEMORY_END
    below page some = ⊎_elim
        (λ (low : page * 4096 < s.layout.brk_start). omega (arith, fits.layout.ordered, fits.layout.below_end))
        (λ (from : s.layout.brk_start ≤ page * 4096). ⊎_elim
        (λ (to : page * 4096 < s.layout.heap_limit). omega (arith, fits.layout.below_end))
        (λ (past : s.layout.heap_limit ≤ page * 4096).
        let out = is_outside_heap-true s.layout page (λ from to. absurd (omega arith)) in
        let both : (is_some (get s.pages page) && is_outside_heap s.layout page) ≡ true = sym (grows.outside page) ∙ and_from (is_some (get t.pages page)) (is_outside_heap s.layout page) some out in
        fits.pages_below page (and_parts (is_some (get s.pages page)) (is_outside_heap s.layout page) both).0)
        (cases_lt (page * 4096) s.layout.heap_limit))
        (cases_lt (page * 4096) s.layout.brk_start)

-- a state with the same layout and the same mapped pages fits
pub Fits-same : (s t : State) → Fits s → t.layout ≡ s.layout → t.brk_end ≡ s.brk_end → ((page : ℕ) → is_some (get t.pages page) ≡ is_some (get s.pages page)) → Fits t
Fits-same s t fits layout end mapped = Fits-grows s t fits (record {
  layout = layout;
  end_page = rw end fits.mapped_end;
  end_from = rw end fits.end_from;
  end_to = rw end fits.end_to;
  outside = λ page. ap (λ b. b && is_outside_heap s.layout page) (mapped page);
  heap = λ page from to. rw (mapped page, end) (fits.heap page from to);
})

-- a step leads from a state that fits to one that fits
pub Fits-step : (s t : State) → Fits s → step s ≡ Stepped t → Fits t
Fits-step s t fits steps =
    let next : IsNext s t = IsNext-step s t steps in
    Fits-same s t fits next.layout next.brk_end next.mapped
