-- What a run of a tracer's code beside a program promises: that it ends, and what it leaves alone.
use Rattle.std.specs.Prelude.{◌≡◌, ℕ, ◌+◌, ◌%◌, ◌<◌, ◌≤◌, ◌⊎◌, ◌==◌, List, Option, Some, None, IsSome, IfSome, if◌then◌else◌}
use Rattle.std.specs.FinMap.{get}
use Rattle.std.specs.Option.{option_and_then}
use Rattle.sl_model.specs.declared.bank.TheConstants.{CODE_START, FRAMES_START, FRAMES_SIZE, LOG_START, LOG_SIZE, MOST_ENTRIES, OUTPUT_START, OUTPUT_SIZE, MOST_OUTPUT_WORDS}
use Rattle.sl_model.specs.declared.instr.Instr.{Instr}
use Rattle.sl_model.specs.declared.instr.Instr.TheVariants.{Load, Store}
use Rattle.sl_model.specs.declared.layout.TheConstants.{MEMORY_END, PROGRAM_PAGES}
use Rattle.sl_model.specs.declared.run_state.RunState.TheVariants.{Running}
use Rattle.sl_model.specs.Bank.{IsArea, HaveOneProgram, code_size, output_count}
use Rattle.sl_model.specs.NextStore.{next_store}
use Rattle.sl_model.specs.Pages.{Pages, load_at}
use Rattle.sl_model.specs.Runs.{steps, EndsAfter}
use Rattle.sl_model.specs.State.{State, IsState, register}
use Rattle.sl_model.specs.Step.{Next, Stepped, Called, Trapped, step, address}
use Rattle.sl_model.specs.Undo.{undone, log_count, log_of}
use Rattle.sl_model.specs.Words.{meaning}
use Rattle.tracer_lang.specs.declared.record.TracerEnd.{TracerEnd}
use Rattle.tracer_code.specs.declared.outcomes.TheConstants.{LOAD_FAULT, STORE_FAULT}
use Rattle.tracer_code.specs.Outcomes.{TellsEnd}

-- ---- the program that is looked at

-- a program that runs, with all its pages below the end of a program's memory
pub record IsObserved (s : State) : Type 0 where
  pub state : IsState s
  pub running : s.status ≡ Running
  pub pages_below : (page : ℕ) → IsSome (get s.pages page) → page < PROGRAM_PAGES

-- ---- where a run may store

-- so many bytes from an address on lie in an area
abbrev pub LieIn : ℕ → ℕ → ℕ → ℕ → Type 0
LieIn start size address width = (start ≤ address) × (address + width ≤ start + size)

-- bytes of the frames, of the log, of the output, or mapped ones of the program
abbrev pub MayStore : Pages → ℕ × ℕ → Type 0
MayStore pages at =
    LieIn FRAMES_START FRAMES_SIZE at.0 at.1 ⊎ LieIn LOG_START LOG_SIZE at.0 at.1
    ⊎ LieIn OUTPUT_START OUTPUT_SIZE at.0 at.1
    ⊎ (at.0 + at.1 ≤ MEMORY_END) × IsSome (load_at pages at.0 at.1)

-- ---- what holds at every step

-- The log put back gives the memory of the program, log and output are within their limits, and the
-- words of the code stand as they stood.
pub record IsContained (words : List ℕ) (s : State) (pages : Pages) : Type 0 where
  pub undone : HaveOneProgram (undone (log_of pages) pages) s.pages
  pub few_entries : log_count pages ≤ MOST_ENTRIES
  pub few_words : output_count pages ≤ MOST_OUTPUT_WORDS
  pub code : IsArea CODE_START (code_size words) words pages

-- ---- how a run ends

-- the address of the load or store that an instruction is
abbrev pub access_by : State → Option Instr → Option ℕ
access_by s (Some (Load op rd rs1 offset)) = Some (address s rs1 offset)
access_by s (Some (Store op rs1 rs2 offset)) = Some (address s rs1 offset)
access_by s instr = None

-- the same of the instruction at pc
unfoldable pub next_access : State → Option ℕ
next_access s =
    if s.pc % 4 == 0
    then option_and_then (λ word. access_by s (meaning word)) (load_at s.pages s.pc 4)
    else None

-- The access at pc is the one that x11 tells, of the program's memory, and x10 tells that it is a
-- fault.
pub record TellsFault (s : State) : Type 0 where
  pub number : (register s 10 ≡ LOAD_FAULT) ⊎ (register s 10 ≡ STORE_FAULT)
  pub address : next_access s ≡ Some (register s 11)
  pub of_program : register s 11 < MEMORY_END

-- where a run ends by a trap, a fault is told
abbrev pub EndsWell : State → Next → Type 0
EndsWell s (Trapped number) = TellsFault s
EndsWell s (Stepped state) = Unit {0}
EndsWell s Called = Unit {0}

-- ---- runs

-- before the end an instruction is done
abbrev pub IsDone : Next → Type 0
IsDone (Stepped state) = Unit {0}
IsDone (Trapped number) = ⊥
IsDone Called = ⊥

-- A run from a start, beside a program: it ends after so many steps and tells an outcome, and till
-- then no instruction traps, each store lies where it may, and at every step the program's memory
-- can be had back.
pub record RunsTo (words : List ℕ) (s start : State) (count : ℕ) : Type 0 where
  pub ends : EndsAfter count start
  pub done : (k : ℕ) → k < count → IsDone (step (steps k start))
  pub stores : (k : ℕ) → k < count
      → IfSome (next_store (steps k start)) (MayStore (steps k start).pages)
  pub contained : (k : ℕ) → k ≤ count → IsContained words s (steps k start).pages
  pub outcome : (end : TracerEnd) × TellsEnd (steps count start) end
  pub fault : EndsWell (steps count start) (step (steps count start))
