use Rattle.rv_machine.specs.Machine.{state_of}
use Rattle.checkpoints.proofs.Opened.{room_for_heap}
use Rattle.checkpoints.proofs.kept.Checkpoints.fill_pages.Goals as goal

pub map_pages-requires-clause-few : goal.map_pages-requires-clause-few
map_pages-requires-clause-few c =
    let self = c.args.self.now in
    room_for_heap (state_of self.machine self.opening.pages) c.copy_from.new.self.pages c.args.end self.opens c.in_ok-copy_from.ensures.pages c.requires.to
