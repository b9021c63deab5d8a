-- Pages that are mapped one after the other.
use Rattle.std.specs.Prelude.{if◌then◌else◌, is_some}
use Rattle.std.specs.Cmp.{nat_cmp_total}
use Rattle.std.specs.FinMap.{get, insert, len, len-insert, contains_key}
use Rattle.std.proofs.Common.{◌≡◌, ℕ, suc, ◌+◌, ◌-◌, ◌<◌, ◌≤◌, Bool, true, false, cond, None, [], ◌∷◌, ◌++◌, refl, sym, ap, ◌∙◌, arith}
use Rattle.sl_model.specs.Pages.{Pages}
use Rattle.sl_model.specs.Mapping.{zero_page, map_page, map_pages}
use Rattle.sl_model.proofs.Counted.{len-map_pages-above}
use Rattle.page_frames.specs.MarkedPages.{MarkedPages, with_page, with_pages}

chosen : (mapped : Bool) (m : MarkedPages) (page : ℕ)
    → (if mapped then m else record { pages = insert m.pages page zero_page; dirty = m.dirty ++ page ∷ [] }).pages ≡ (if mapped then m.pages else insert m.pages page zero_page)
chosen true m page = refl
chosen false m page = refl

-- the pages after one was mapped
pub pages-with_page : (m : MarkedPages) (page : ℕ) → (with_page m page).pages ≡ map_page m.pages page
pages-with_page m page = chosen (contains_key m.pages page) m page

pub with_pages_step : (m new : MarkedPages) (page stop : ℕ) → page < stop → new ≡ with_page m page → with_pages new (page + 1) (stop - (page + 1)) ≡ with_pages m page (stop - page)
unfolding with_pages
with_pages_step m new page stop lt is =
    let left = stop - (page + 1) in
    let one : stop - page ≡ suc (stop - (page + 1)) = omega arith in
    ap (λ (p : MarkedPages). with_pages p (page + 1) left) is ∙ sym (ap (with_pages m page) one)

pub with_pages_done : (m : MarkedPages) (page stop : ℕ) → stop ≤ page → with_pages m page (stop - page) ≡ m
unfolding with_pages
with_pages_done m page stop le =
    let none : stop - page ≡ 0 = omega arith in
    ap (with_pages m page) none

-- there is room for one more of those that are still to be mapped
pub room_for_next : (pages all : Pages) (page stop most : ℕ) → page < stop → map_pages pages page (stop - page) ≡ all → len all ≤ most → len (map_page pages page) ≤ most
unfolding map_pages
room_for_next pages all page stop most lt is few =
    let one : stop - page ≡ suc (stop - (page + 1)) = omega arith in
    let more = len-map_pages-above (map_page pages page) (page + 1) (stop - (page + 1)) in
    let same : len (map_pages (map_page pages page) (page + 1) (stop - (page + 1))) ≡ len all = ap len (sym (ap (map_pages pages page) one) ∙ is) in
    omega arith

grown : (b : Bool) (pages : Pages) (page : ℕ) → contains_key pages page ≡ b → b ≡ false → len (cond b pages (insert pages page zero_page)) ≡ len pages + 1
grown true pages page is new = absurd cc
grown false pages page is new = len-insert nat_cmp_total pages page zero_page ∙ ap (λ (b : Bool). cond b (len pages) (len pages + 1)) is

pub room_for_new : (pages : Pages) (page most : ℕ) → get pages page ≡ None → len (map_page pages page) ≤ most → len pages < most
room_for_new pages page most new few =
    let absent : contains_key pages page ≡ false = ap is_some new in
    omega (arith, grown (contains_key pages page) pages page refl absent)
