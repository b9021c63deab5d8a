-- The machine of the code as a state, and what an outcome says of it.
use Rattle.std.specs.Prelude.{◌≡◌, ℕ, ◌+◌, List}
use Rattle.sl_model.specs.Pages.{Pages}
use Rattle.sl_model.specs.State.{State}
use Rattle.sl_model.specs.Step.{Next, Stepped as SteppedTo, Called, Trapped}
use Rattle.rv_machine.specs.declared.machine.Machine.{Machine}
use Rattle.rv_machine.specs.declared.machine.Outcome.{Outcome}
use Rattle.rv_machine.specs.declared.machine.Outcome.TheVariants.{Stepped, Call, Trap}

-- a machine and its memory as one state
abbrev pub state_of : Machine → Pages → State
state_of m pages = record {
  pc = m.pc;
  x = m.x;
  pages = pages;
  brk = m.brk;
  brk_end = m.brk_end;
  next_call = m.next_call;
  status = m.status;
  count = m.count;
  layout = m.layout;
}

-- The machine and its memory went on to what is next, and the outcome tells it. A call and a trap
-- change nothing.
abbrev pub WentOn : Next → Machine → Pages → Outcome → Machine → Pages → Type 0
WentOn next m pages Stepped m' pages' = next ≡ SteppedTo (state_of m' pages')
WentOn next m pages Call m' pages' = (next ≡ Called) × (m' ≡ m) × (pages' ≡ pages)
WentOn next m pages (Trap number) m' pages' = (next ≡ Trapped number) × (m' ≡ m) × (pages' ≡ pages)

-- The machine is at another place, with these registers and one more instruction done. All else
-- stays.
pub record WentTo (m : Machine) (place : ℕ) (registers : List ℕ) (m' : Machine) : Type 0 where
  pub pc : m'.pc ≡ place
  pub x : m'.x ≡ registers
  pub count : m'.count ≡ m.count + 1
  pub brk : m'.brk ≡ m.brk
  pub brk_end : m'.brk_end ≡ m.brk_end
  pub next_call : m'.next_call ≡ m.next_call
  pub status : m'.status ≡ m.status
  pub layout : m'.layout ≡ m.layout
