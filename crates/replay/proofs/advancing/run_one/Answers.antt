use Rattle.std.proofs.Common.{◌≡◌, sym, ap, subst, ◌∙◌}
use Rattle.page_frames.specs.MarkedPages.{MarkedPages}
use Rattle.rv_machine.specs.Machine.{state_of}
use Rattle.rv_machine.specs.declared.machine.Machine.{Machine}
use Rattle.rec_format.specs.declared.recording.Recording.{Recording}
use Rattle.replay.specs.Calls.{ask_of}
use Rattle.replay.specs.Run.{Onward, Breaks, onward, asked}
use Rattle.replay.specs.Advance.{Advance, CameOf}
use Rattle.replay.proofs.Onward.{onward_stepped, onward_trapped, onward_called}
use Rattle.replay.proofs.advancing.run_one.Goals as goal

-- a memory with its marks
same_memory : (a b : MarkedPages) → a.pages ≡ b.pages → a.dirty ≡ b.dirty → a ≡ b
same_memory a b pages dirty = λ i. record { pages = pages i; dirty = dirty i }

-- a call is that of a machine and a memory that are equal
same_call : (rec : Recording) (m m' : Machine) (f f' : MarkedPages) (came : Advance) (new : Machine) (frames : MarkedPages) → m ≡ m' → f ≡ f' → onward rec (state_of m' f'.pages) ≡ asked rec (state_of m' f'.pages) (ask_of (state_of m' f'.pages))
    → CameOf (asked rec (state_of m f.pages) (ask_of (state_of m f.pages))) m f came new frames → CameOf (onward rec (state_of m' f'.pages)) m' f' came new frames
same_call rec m m' f f' came new frames machine memory calls is =
    let first = subst (λ (n : Machine). CameOf (asked rec (state_of n f.pages) (ask_of (state_of n f.pages))) n f came new frames) machine is in
    let second = subst (λ (g : MarkedPages). CameOf (asked rec (state_of m' g.pages) (ask_of (state_of m' g.pages))) m' g came new frames) memory first in
    subst (λ (next : Onward). CameOf next m' f' came new frames) (sym calls) second

pub returns-in-Stepped-clause-onward : goal.returns-in-Stepped-clause-onward
returns-in-Stepped-clause-onward g c = onward_stepped _ _ _ c.requires.running c.in-Stepped.ensures.next

pub returns-in-Trap-clause-onward : goal.returns-in-Trap-clause-onward
returns-in-Trap-clause-onward g c =
    let next = c.in-Trap.ensures.next in
    (onward_trapped _ _ c.in-Trap.field-0 c.requires.running next.0 ∙ ap Breaks (sym c.early_end.ensures), next.1, same_memory c.step.new.bus c.args.f.now next.2 (c.in-Trap.ensures.kept (λ e. cc)))

pub returns-in-Call-clause-onward : goal.returns-in-Call-clause-onward
returns-in-Call-clause-onward g c =
    let next = c.in-Call.ensures.next in
    let rec = c.args.rec.now in
    let same : c.step.new.bus ≡ c.args.f.now = same_memory c.step.new.bus c.args.f.now next.2 (c.in-Call.ensures.kept (λ e. cc)) in
    same_call rec c.step.new.m c.args.m.now c.step.new.bus c.args.f.now c.call.result c.call.new.m c.call.new.f next.1 same (onward_called rec (state_of c.args.m.now c.args.f.now.pages) c.requires.running next.0) c.call.ensures.came
