use Rattle.std.proofs.Common.{◌≡◌, List, [], ℕ, ◌++◌, length, take, get_or, sym, ap, subst, ◌∙◌, arith}
use Rattle.std.specs.List.{flat_map}
use Rattle.std.proofs.lemmas.List.{take_all, take_more, flat_map_more}
use Rattle.call_recorder.specs.Listing.{changed_page}
use Rattle.call_recorder.specs.Kept.{recorded_in}
use Rattle.call_recorder.proofs.Sorting.{all_changed, fit_listed, rising_pages, few_listed}
use Rattle.call_recorder.proofs.changes.changed_pages.Goals as goal
use Rattle.call_recorder.proofs.changes.changed_pages.Goals.{After-drop-numbers-2}

pub loop-number-preserved : goal.loop-number-preserved
loop-number-preserved c =
    let items = c.deref-number-items.result.now in
    let i = c.loop-number.number-index in
    let listing = changed_page (recorded_in c.args.memory.now) c.args.f.now.pages in
    let h = c.in_ok-list_changed.ensures in
    c.in_ok-list_changed.ensures
    ∙ ap (λ pages. pages ++ listing (get_or items i 0)) c.loop-number.invariant
    ∙ flat_map_more listing [] (take i items) (get_or items i 0)
    ∙ ap (flat_map listing) (sym (take_more items i 0 c.loop-number-test.true))

pages_are : (c : After-drop-numbers-2) → c.loop-number.pages ≡ flat_map (changed_page (recorded_in c.args.memory.now) c.args.f.now.pages) c.in_ok-numbers.numbers.items
pages_are c =
    let items = c.deref-number-items.result.now in
    let listing = changed_page (recorded_in c.args.memory.now) c.args.f.now.pages in
    c.loop-number.invariant ∙ ap (flat_map listing) (take_all c.loop-number.number-index items c.loop-number-test.false ∙ c.deref-number-items.ensures.value)

pub returns-clause-all : goal.returns-clause-all
returns-clause-all c = λ marked.
    let numbers = c.in_ok-numbers.ensures in
    pages_are c ∙ all_changed (recorded_in c.args.memory.now) c.args.f.now c.in_ok-numbers.numbers.items numbers.rising numbers.below numbers.all marked

pub returns-clause-each : goal.returns-clause-each
returns-clause-each c = rw (pages_are c) (fit_listed (recorded_in c.args.memory.now) c.args.f.now c.in_ok-numbers.numbers.items c.dirty_len-kept.ensures.kept)

pub returns-clause-rising : goal.returns-clause-rising
returns-clause-rising c = rw (pages_are c) (rising_pages (recorded_in c.args.memory.now) c.args.f.now.pages c.in_ok-numbers.numbers.items c.in_ok-numbers.ensures.rising)

pub returns-clause-few : goal.returns-clause-few
returns-clause-few c =
    let numbers = c.in_ok-numbers.ensures.few in
    let few = few_listed (recorded_in c.args.memory.now) c.args.f.now.pages c.in_ok-numbers.numbers.items in
    rw (pages_are c) (omega arith)
