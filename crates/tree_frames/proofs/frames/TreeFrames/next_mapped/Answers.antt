use Rattle.std.proofs.Common.{◌≡◌, ℕ, ◌<◌, ◌≤◌, false, arith, refl, ap, sym, ◌∙◌, Some, None}
use Rattle.std.specs.Prelude.{Option, IsSome}
use Rattle.std.specs.Option.{option_map}
use Rattle.std.specs.Ordering.{nat_cmp, is_gt}
use Rattle.std.specs.BTreeMap.{get}
use Rattle.std.specs.FinMap as map
use Rattle.std.proofs.lemmas.Grind.{common_steps}
use Rattle.tree_frames.specs.declared.frame.Frame.{Frame}
use Rattle.tree_frames.specs.declared.frames.TreeFrames.TheInside.{Inside}
use Rattle.tree_frames.specs.Fields.{marked_pages_of}
use Rattle.page_frames.specs.MarkedPages.{MarkedPages}
use Rattle.tree_frames.proofs.Views.{get-pages_of}
use Rattle.tree_frames.proofs.frames.TreeFrames.next_mapped.Goals as goal

not_above : (a b : ℕ) → a ≤ b → is_gt (nat_cmp a b) ≡ false
not_above a b le = grind (arith, common_steps)

-- what the view has at a number
seen : (a : Inside) (m : MarkedPages) (page : ℕ) (o : Option Frame) → marked_pages_of a ≡ m → get nat_cmp a.frames page ≡ o → map.get m.pages page ≡ option_map (λ f. f.bytes) o
seen a m page o view is = ap (λ v. map.get v.pages page) (sym view) ∙ get-pages_of a.frames page ∙ ap (option_map (λ f. f.bytes)) is

-- a number below the first one of a range is not in the map
below_first : (o : Option Frame) (first page : ℕ) → page < first → (IsSome o → is_gt (nat_cmp first page) ≡ false) → o ≡ None
below_first None first page lt h = refl
below_first (Some f) first page lt h = let not : is_gt (nat_cmp first page) ≡ false = h refl in grind (arith, common_steps)

pub returns-in_err-page-clause-none : goal.returns-in_err-page-clause-none
returns-in_err-page-clause-none c =
    rw c.from_residual.ensures (λ page le. seen c.self.inside c.args.self.now page None c.self.view_is ((c.range.ensures.in_range tt).5 c.in_err-page.ensures.steps.0 page (not_above c.args.from page le, tt)))

pub returns-clause-mapped : goal.returns-clause-mapped
returns-clause-mapped c =
    let first = rw c.in_ok-page.ensures.steps at ((c.range.ensures.in_range tt).1) in
    rw (seen c.self.inside c.args.self.now c.in_ok-page.page.now (Some c.in_ok-page.field-0-1.now) c.self.view_is first.1) refl

pub returns-clause-least : goal.returns-clause-least
returns-clause-least c = λ page le lt.
    seen c.self.inside c.args.self.now page None c.self.view_is
    (below_first (get nat_cmp c.self.inside.frames page) c.in_ok-page.page.now page lt (λ found. rw c.in_ok-page.ensures.steps at ((c.range.ensures.in_range tt).2 page (not_above c.args.from page le, tt) found)))
