use Rattle.std.proofs.Common.{length, ap, ◌∙◌, arith}
use Rattle.std.proofs.lemmas.List.{length-append}
use Rattle.page_frames.specs.MarkedPages.{MarkedPages}
use Rattle.undo_isolation.proofs.Restored.{marks-cut_lower}
use Rattle.undo_isolation.proofs.in_place.undo.Goals as goal

pub cut_dirty-requires : goal.cut_dirty-requires
cut_dirty-requires c =
    let further = c.undo_into.ensures.marks.keeps in
    let few = c.requires.marked in
    omega (arith, ap length further.1, length-append c.args.f.now.dirty further.0)

pub returns-clause-marks : goal.returns-clause-marks
returns-clause-marks c =
    let further = c.undo_into.ensures.marks.keeps in
    ap (λ (f : MarkedPages). f.dirty) c.cut_dirty.ensures ∙ marks-cut_lower c.args.marked c.args.f.now.dirty c.undo_into.new.f.dirty further.0 c.requires.marked further.1
