use Rattle.std.specs.Prelude.{nat_lt}
use Rattle.std.specs.List.{list_any}
use Rattle.std.proofs.Common.{◌≡◌, false, List, subst}
use Rattle.elf_image.specs.declared.image.Segment.{Segment}
use Rattle.elf_image.specs.Segments.{has_byte_in}
use Rattle.elf_image.proofs.Ends.{last_decides, none_decides, below, is_less, up_to}
use Rattle.elf_image.proofs.loaded.Loaded.has_byte_in.Goals as goal

pub returns-in-Some : goal.returns-in-Some
returns-in-Some c =
    let parts = c.range.ensures.in_range tt in
    let entry = parts.3 _ _ c.in-Some.ensures.steps in
    let last = parts.4 _ _ c.in-Some.ensures.steps in
    let a = c.in-Some.field-0-0.now in
    let reached = c.in-Some.reached.now in
    let decides = last_decides c.self.inside.ends c.self.inside.segments.items c.self.invariant c.args.start c.args.end a reached entry.1 (below a c.args.end entry.0.1)
    (λ q before some. up_to a q (last q (tt, is_less q c.args.end before) some)) in
    subst (λ (segments : List Segment). nat_lt c.args.start reached ≡ list_any (has_byte_in c.args.start c.args.end) segments) c.self.view_is decides

pub returns-in-None : goal.returns-in-None
returns-in-None c =
    let parts = c.range.ensures.in_range tt in
    let none = parts.5 c.in-None.ensures.steps.0 in
    let decides = none_decides c.self.inside.ends c.self.inside.segments.items c.self.invariant c.args.start c.args.end (λ q before. none q (tt, is_less q c.args.end before)) in
    subst (λ (segments : List Segment). false ≡ list_any (has_byte_in c.args.start c.args.end) segments) c.self.view_is decides
