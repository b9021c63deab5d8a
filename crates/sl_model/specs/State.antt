-- The state of the machine.
use Rattle.std.specs.Prelude.{◌≡◌, ℕ, ◌+◌, ◌*◌, ◌%◌, ◌^◌, ◌<◌, ◌≤◌, ◌==◌, ◌&&◌, ◌↔◌, List, length, slice_index, slice_set, if◌then◌else◌, Bool, IsSome, nat_lt, nat_le, not, filter}
use Rattle.std.specs.List.{AllByRecursion}
use Rattle.std.specs.FinMap.{get, keys}
use Rattle.sl_model.specs.declared.run_state.RunState.{RunState}
use Rattle.sl_model.specs.declared.run_state.RunState.TheVariants.{Running, Exited}
use Rattle.sl_model.specs.declared.layout.Layout.{Layout}
use Rattle.sl_model.specs.declared.layout.TheConstants.{PAGE_SIZE, MEMORY_END, HEAP_SIZE, MOST_LOADED_PAGES}
use Rattle.sl_model.specs.Pages.{Pages, ArePages}
use Rattle.sl_model.specs.Words.{IsWord}

pub record State : Type 0 where
  pub pc : ℕ
  -- x0 to x31
  pub x : List ℕ
  pub pages : Pages
  -- the break, and the end of the heap's mapped pages
  pub brk : ℕ
  pub brk_end : ℕ
  -- how many calls were answered from the recording
  pub next_call : ℕ
  pub status : RunState
  -- how many instructions were done
  pub count : ℕ
  -- the bounds of the heap, which no step changes
  pub layout : Layout

-- the value of a register
abbrev pub register : State → ℕ → ℕ
register s r = slice_index s.x r

-- the registers after a write: x0 stays 0
abbrev pub set_register : List ℕ → ℕ → ℕ → List ℕ
set_register x r value = if r == 0 then x else slice_set x r value

-- an exit's code is a word
abbrev pub IsStatus : RunState → Type 0
IsStatus Running = Unit {0}
IsStatus (Exited code) = IsWord code

-- both bounds of a heap are words
pub record IsLayout (layout : Layout) : Type 0 where
  pub brk_start : IsWord layout.brk_start
  pub heap_limit : IsWord layout.heap_limit

-- every number is in its range, and x0 is 0
pub record IsState (s : State) : Type 0 where
  pub pc : IsWord s.pc
  pub registers : length s.x ≡ 32
  pub words : AllByRecursion IsWord s.x
  pub zero : register s 0 ≡ 0
  pub pages : ArePages s.pages
  pub brk : IsWord s.brk
  pub brk_end : IsWord s.brk_end
  pub next_call : IsWord s.next_call
  pub status : IsStatus s.status
  pub count : s.count < 2 ^ 64
  pub layout : IsLayout s.layout

-- The heap's bounds lie at pages, in order, at most 16 MiB apart and below the end of memory.
pub record FitsLayout (layout : Layout) : Type 0 where
  pub start : layout.brk_start % PAGE_SIZE ≡ 0
  pub limit : layout.heap_limit % PAGE_SIZE ≡ 0
  pub ordered : layout.brk_start ≤ layout.heap_limit
  pub below_end : layout.heap_limit ≤ MEMORY_END
  pub size : layout.heap_limit ≤ layout.brk_start + HEAP_SIZE

-- whether a page lies outside of the range of the heap
abbrev pub is_outside_heap : Layout → ℕ → Bool
is_outside_heap layout page =
    not (nat_le layout.brk_start (page * PAGE_SIZE) && nat_lt (page * PAGE_SIZE) layout.heap_limit)

-- Memory and heap are laid out as a program's: all pages are below the end of memory, those of the
-- heap are mapped exactly below its mapped end, and at most 12,288 pages lie outside of it.
pub record Fits (s : State) : Type 0 where
  pub layout : FitsLayout s.layout
  pub mapped_end : s.brk_end % PAGE_SIZE ≡ 0
  pub end_from : s.layout.brk_start ≤ s.brk_end
  pub end_to : s.brk_end ≤ s.layout.heap_limit
  pub pages_below : (page : ℕ) → IsSome (get s.pages page) → page * PAGE_SIZE < MEMORY_END
  pub heap : (page : ℕ)
      → s.layout.brk_start ≤ page * PAGE_SIZE → page * PAGE_SIZE < s.layout.heap_limit
      → IsSome (get s.pages page) ↔ (page * PAGE_SIZE < s.brk_end)
  pub few : length (filter (is_outside_heap s.layout) (keys s.pages)) ≤ MOST_LOADED_PAGES

-- A program before its first instruction: a state that fits and runs, with no instruction done, no
-- call answered, and none of its heap mapped.
pub record IsOpening (s : State) : Type 0 where
  pub state : IsState s
  pub fits : Fits s
  pub running : s.status ≡ Running
  pub count : s.count ≡ 0
  pub next_call : s.next_call ≡ 0
  pub brk : s.brk ≡ s.layout.brk_start
  pub no_heap : s.brk_end ≡ s.layout.brk_start
