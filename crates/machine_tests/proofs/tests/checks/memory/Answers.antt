use Rattle.std.proofs.Common.{◌≡◌, ℕ, List, arith, ap, ◌∙◌, ⊎_elim, inl, inr, subst}
use Rattle.std.specs.Prelude.{IsSome}
use Rattle.std.specs.Ordering.{nat_cmp}
use Rattle.std.specs.FinMap.{get, len, len-empty}
use Rattle.page_frames.specs.MarkedPages.{MarkedPages}
use Rattle.checkpoints.proofs.SmallMemory.{mapped_more, len_of_part, not_in_empty}
use Rattle.checkpoints.proofs.SmallMemory.{all_dirty-empty, all_dirty-mapped, all_dirty-goes_on}
use Rattle.machine_tests.proofs.tests.checks.memory.Goals as goal

pub map_page-requires-clause-few : goal.map_page-requires-clause-few
map_page-requires-clause-few c = rw c.in_ok-frames.ensures.pages (omega (arith, len-empty nat_cmp (List ℕ)))

pub map_page-requires-2-clause-few : goal.map_page-requires-2-clause-few
map_page-requires-2-clause-few c =
    let none : len c.in_ok-frames.frames.pages ≡ 0 = ap len c.in_ok-frames.ensures.pages ∙ len-empty nat_cmp (List ℕ) in
    omega (arith, c.map_page.ensures.one_more)

pub returns-clause-pages : goal.returns-clause-pages
returns-clause-pages c = λ q h.
    ⊎_elim
    (λ first. ⊎_elim (λ none. absurd (not_in_empty c.in_ok-frames.frames.pages q c.in_ok-frames.ensures.pages none)) (λ e. inl e)
    (mapped_more c.in_ok-frames.frames 16 q (subst (λ (m : MarkedPages). IsSome (get m.pages q)) c.in_ok-map_page.ensures.ok first)))
    (λ e. inr e)
    (mapped_more c.map_page.new.self c.args.other q (subst (λ (m : MarkedPages). IsSome (get m.pages q)) c.in_ok-map_page-2.ensures.ok (c.write.ensures.pages q h)))

pub returns-clause-few : goal.returns-clause-few
returns-clause-few c =
    let none : len c.in_ok-frames.frames.pages ≡ 0 = ap len c.in_ok-frames.ensures.pages ∙ len-empty nat_cmp (List ℕ) in
    let most = len_of_part c.write.new.frames.pages c.map_page-2.new.self.pages c.write.ensures.pages in
    omega (arith, most, c.map_page.ensures.one_more, c.map_page-2.ensures.one_more)

pub returns-clause-dirty : goal.returns-clause-dirty
returns-clause-dirty c =
    all_dirty-goes_on c.map_page-2.new.self c.write.new.frames c.write.ensures.goes_on c.write.ensures.kept.below
    (all_dirty-mapped c.map_page.new.self c.map_page-2.new.self c.args.other c.in_ok-map_page-2.ensures.ok
    (all_dirty-mapped c.in_ok-frames.frames c.map_page.new.self 16 c.in_ok-map_page.ensures.ok
    (all_dirty-empty c.in_ok-frames.frames c.in_ok-frames.ensures.pages)))
