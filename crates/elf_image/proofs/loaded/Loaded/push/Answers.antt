use Rattle.std.specs.List.{list_any}
use Rattle.std.proofs.Common.{◌≡◌, ◌+◌, ◌++◌, ◌∷◌, [], false, List, subst, sym, arith}
use Rattle.elf_image.specs.declared.image.Segment.{Segment}
use Rattle.elf_image.specs.Segments.{has_byte_in}
use Rattle.elf_image.proofs.Ends.{AreEnds-same, AreEnds-push}
use Rattle.elf_image.proofs.loaded.Loaded.push.Goals as goal

pub invariant_of-self-in_err-insert : goal.invariant_of-self-in_err-insert
invariant_of-self-in_err-insert c =
    rw c.reserve.ensures.items (AreEnds-same c.self.inside.ends c.insert.new.self c.self.inside.segments.items c.in_err-insert.ensures.err c.self.invariant)

pub invariant_of-self-2 : goal.invariant_of-self-2
invariant_of-self-2 c =
    let before = c.self.inside.segments.items in
    let segment = c.args.segment in
    let same : c.push.new.self.items ≡ before ++ segment ∷ [] = grind arith in
    let free = subst (λ (segments : List Segment). list_any (has_byte_in segment.vaddr (segment.vaddr + segment.memsz)) segments ≡ false) (sym c.self.view_is) c.requires.apart in
    rw same (AreEnds-push c.self.inside.ends c.insert.new.self before segment c.self.invariant c.requires.takes free c.in_ok-insert.ensures.updates)
