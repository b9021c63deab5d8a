use Rattle.std.proofs.Common.{◌≡◌, ℕ, Some, None, ◌∙◌, ap, eqb}
use Rattle.std.specs.Prelude.{is_some, Option}
use Rattle.std.specs.Option.{option_and_then}
use Rattle.std.specs.List.{list_any}
use Rattle.page_frames.specs.declared.frames.Frames.TheInside.{Inside}
use Rattle.page_frames.specs.declared.frame.Frame.{Frame}
use Rattle.page_frames.specs.Fields.{AreFields, marked_pages_of}
use Rattle.page_frames.specs.Linked.{frame_of}
use Rattle.page_frames.specs.MarkedPages.{MarkedPages}
use Rattle.page_frames.proofs.Places.{is_some-place}
use Rattle.page_frames.proofs.frames.Frames.is_dirty.Goals as goal

marked : (a : Inside) (m : MarkedPages) (page : ℕ) (o : Option Frame) → AreFields a → marked_pages_of a ≡ m
    → o ≡ frame_of a.table page
    → is_some (option_and_then (λ f. f.place) o) ≡ list_any (eqb page) m.dirty
marked a m page o are view is =
    ap (λ f. is_some (option_and_then (λ f. f.place) f)) is ∙ is_some-place are.places page
    ∙ ap (λ v. list_any (eqb page) v.dirty) view

pub returns-in-Some : goal.returns-in-Some
returns-in-Some c =
    c.is_some.ensures ∙ marked c.self.inside c.args.self.now c.args.page (Some c.in-Some.frame.now) c.self.invariant c.self.view_is c.in-Some.ensures

pub returns-in-None : goal.returns-in-None
returns-in-None c =
    marked c.self.inside c.args.self.now c.args.page None c.self.invariant c.self.view_is c.in-None.ensures
