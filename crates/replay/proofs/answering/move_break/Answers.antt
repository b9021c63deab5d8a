use Rattle.std.proofs.Common.{◌/◌, ◌-◌, ap, ◌∙◌, arith}
use Rattle.sl_model.specs.Mapping.{map_pages}
use Rattle.rv_machine.specs.Machine.{state_of}
use Rattle.replay.proofs.Answered.{break_grows, room_for_break}
use Rattle.replay.proofs.Marked.{with_pages-goes_on}
use Rattle.replay.proofs.answering.move_break.Goals as goal

pub overflow_sub-end : goal.overflow_sub-end
overflow_sub-end c =
    let pages = c.args.f.now.pages in
    omega (arith, c.heap_end-end.ensures pages, break_grows (state_of c.args.m.now pages) c.args.address c.requires.fits)

pub map_pages-requires-clause-below : goal.map_pages-requires-clause-below
map_pages-requires-clause-below c =
    let pages = c.args.f.now.pages in
    rw (c.heap_end-end.ensures pages) (room_for_break (state_of c.args.m.now pages) c.args.address c.requires.fits).below

pub map_pages-requires-clause-few : goal.map_pages-requires-clause-few
map_pages-requires-clause-few c =
    let pages = c.args.f.now.pages in
    rw (c.heap_end-end.ensures pages) (room_for_break (state_of c.args.m.now pages) c.args.address c.requires.fits).few

pub returns-clause-state : goal.returns-clause-state
returns-clause-state c =
    let m = c.args.m.now in
    let pages = c.args.f.now.pages in
    let brk = c.brk_answer-m.ensures pages in
    let end = c.heap_end-end.ensures pages in
    let mapped = c.in_ok-map_pages.ensures.pages ∙ ap (λ n. map_pages pages (m.brk_end / 4096) (n / 4096 - m.brk_end / 4096)) end in
    λ i. record {
      pc = m.pc;
      x = m.x;
      pages = mapped i;
      brk = brk i;
      brk_end = end i;
      next_call = m.next_call;
      status = m.status;
      count = m.count;
      layout = m.layout;
    }

pub returns-clause-marks : goal.returns-clause-marks
returns-clause-marks c = rw c.in_ok-map_pages.ensures.ok (with_pages-goes_on c.args.f.now _ _)
