use Rattle.std.proofs.Common.{◌≡◌, ℕ, ◌<◌, ◌≤◌, ◌+◌, arith, refl, ap, sym, ◌∙◌, Some, None, ⊎_elim, false, true}
use Rattle.std.specs.Prelude.{Option, IsSome, is_some}
use Rattle.std.specs.Option.{option_map}
use Rattle.std.specs.FinMap as map
use Rattle.std.proofs.lemmas.Bool.{cases_lt}
use Rattle.sl_model.specs.declared.layout.TheConstants.{PROGRAM_PAGES}
use Rattle.page_frames.specs.declared.frames.Frames.TheInside.{Inside}
use Rattle.page_frames.specs.Fields.{AreFields, marked_pages_of}
use Rattle.page_frames.specs.Linked.{IsTable, index_of, frame_of}
use Rattle.page_frames.specs.declared.frame.Frame.{Frame}
use Rattle.page_frames.specs.declared.table.Table.{Table}
use Rattle.page_frames.specs.MarkedPages.{MarkedPages}
use Rattle.page_frames.proofs.Tables.{get-pages_of}
use Rattle.page_frames.proofs.Kept.{below}
use Rattle.page_frames.proofs.Mapped.{no_frame, is_some-index}
use Rattle.page_frames.proofs.frames.Frames.next_mapped.Goals as goal

-- what the view has at a number
seen : (a : Inside) (m : MarkedPages) (page : ℕ) → marked_pages_of a ≡ m
    → map.get m.pages page ≡ option_map (λ f. f.bytes) (frame_of a.table page)
seen a m page view = ap (λ v. map.get v.pages page) (sym view) ∙ get-pages_of a.table page

unseen : (a : Inside) (m : MarkedPages) (page : ℕ) → marked_pages_of a ≡ m
    → is_some (index_of a.table.frames.items a.table.used page) ≡ false → map.get m.pages page ≡ None
unseen a m page view none =
    seen a m page view ∙ ap (option_map (λ f. f.bytes)) (sym (no_frame a.table page none))

one_more : (a : Inside) (m : MarkedPages) (from page : ℕ) → marked_pages_of a ≡ m
    → is_some (index_of a.table.frames.items a.table.used page) ≡ false
    → ((q : ℕ) → from ≤ q → q < page → map.get m.pages q ≡ None)
    → (q : ℕ) → from ≤ q → q < page + 1 → map.get m.pages q ≡ None
one_more a m from page view none below q le lt = ⊎_elim
    (λ (before : q < page). below q le before)
    (λ (last : page ≤ q).
    let same : q ≡ page = omega arith in
    rw same (unseen a m page view none))
    (cases_lt q page)

pub loop-page-preserved : goal.loop-page-preserved
loop-page-preserved c =
    one_more c.self.inside c.args.self.now c.args.from c.loop-page.page c.self.view_is
    (ap is_some (sym c.find.ensures.index) ∙ sym c.if-is_some.ensures) c.loop-page.invariant

some_bytes : (o : Option Frame) → is_some o ≡ true → IsSome (option_map (λ f. f.bytes) o)
some_bytes None is = is
some_bytes (Some f) is = refl

no_bytes : (t : Table) (page : ℕ) → IsTable t → PROGRAM_PAGES ≤ page → (o : Option Frame)
    → frame_of t page ≡ o → option_map (λ f. f.bytes) o ≡ None
no_bytes t page is beyond None at = refl
no_bytes t page is beyond (Some f) at =
    let low = below t page is (rw at refl) in
    absurd (omega (arith, low))

-- no page stands beyond the last page of a program
beyond : (a : Inside) (m : MarkedPages) (page : ℕ) → AreFields a → marked_pages_of a ≡ m
    → PROGRAM_PAGES ≤ page → map.get m.pages page ≡ None
beyond a m page are view high =
    seen a m page view ∙ no_bytes a.table page are.table high (frame_of a.table page) refl

pub returns-then-is_some-clause-mapped : goal.returns-then-is_some-clause-mapped
returns-then-is_some-clause-mapped c =
    let page = c.loop-page.page in
    let some : is_some (frame_of c.self.inside.table page) ≡ true =
    sym (is_some-index c.self.inside.table page) ∙ ap is_some (sym c.find.ensures.index)
    ∙ sym c.if-is_some.ensures in
    rw (seen c.self.inside c.args.self.now page c.self.view_is)
    (some_bytes (frame_of c.self.inside.table page) some)

pub returns-clause-none : goal.returns-clause-none
returns-clause-none c = λ q le. ⊎_elim
    (λ (before : q < c.loop-page.page). c.loop-page.invariant q le before)
    (λ (last : c.loop-page.page ≤ q).
    beyond c.self.inside c.args.self.now q c.self.invariant c.self.view_is (omega arith))
    (cases_lt q c.loop-page.page)
