-- A tracer that is ready to run over a bank and a program's memory.
use Rattle.std.specs.Prelude.{slice_index}
use Rattle.std.specs.FinMap.{empty}
use Rattle.std.proofs.Common.{◌≡◌, ℕ, ◌+◌, ◌*◌, ◌^◌, ◌<◌, List, length, ap, ◌∙◌, sym, subst, arith}
use Rattle.sl_model.specs.declared.bank.TheConstants.{CODE_START}
use Rattle.sl_model.specs.Bank.{IsBankMemory, code_size, copied_words}
use Rattle.sl_model.specs.Pages.{Pages, ArePages}
use Rattle.sl_model.specs.State.{State, IsState}
use Rattle.sl_model.specs.declared.run_state.RunState.TheVariants.{Running}
use Rattle.page_frames.specs.MarkedPages.{MarkedPages, IsKept}
use Rattle.rv_machine.specs.Machine.{state_of}
use Rattle.rv_machine.specs.declared.machine.Machine.{Machine}
use Rattle.tracer_lang.specs.declared.record.TracerEnd.{TracerEnd}
use Rattle.tracer_code.specs.declared.code.TracerCode.{TracerCode}
use Rattle.tracer_code.specs.Outcomes.{TellsEnd}
use Rattle.tracer_code.specs.Runs.{IsObserved, IsContained}
use Rattle.tracer_code.specs.Sound.{IsSound, RunsWell, start_of}
use Rattle.undo_bank.specs.Areas.{Areas, AreAreas, IsMadeFrom, IsStarted, areas_over, bank_pages}
use Rattle.undo_bank.proofs.AreasLaws.{code-laid}
use Rattle.undo_bank.proofs.BankLaws.{IsBankMemory-over}
use Rattle.undo_bank.proofs.LogLaws.{IsProgram-empty}
use Rattle.undo_bank.proofs.StartLaws.{HoldsWords-laid, IsMadeFrom-held}
use Rattle.undo_isolation.specs.Ended.{HasEnded}
use Rattle.undo_isolation.specs.Run.{CameTo}
use Rattle.undo_isolation.proofs.Starts.{RunsTo-at_word}

-- ---- what a bank is made from is told by its code alone

pub IsMadeFrom-code : (words : List ℕ) (a b : Areas) → AreAreas a → AreAreas b → b.code ≡ a.code → IsMadeFrom words a → IsMadeFrom words b
IsMadeFrom-code words a b are are' same made =
    let held = HoldsWords-laid CODE_START (code_size words) words a.code (bank_pages a) (code-laid a empty are IsProgram-empty) made.size made.code in
    IsMadeFrom-held words b are' (ap length same ∙ made.size) (rw same held)

-- ---- before the run

-- The bank over the program is the memory in which the tracer starts, and from there it runs well.
pub record Readied (code : TracerCode) (point : ℕ) (s : State) (a : Areas) : Type 0 where
  pub made : IsMadeFrom code.words a
  pub memory : IsBankMemory code.words s (areas_over a s.pages)
  pub well : RunsWell code s (start_of code point (areas_over a s.pages) s)

pub readied : (code : TracerCode) (point : ℕ) (s : State) (old a : Areas) → IsSound code → point < length code.places → IsObserved s → AreAreas old → IsMadeFrom code.words old → AreAreas a → a.code ≡ old.code → IsStarted (copied_words s) a
    → Readied code point s a
readied code point s old a sound within observed are_old made_old are same started =
    let made : IsMadeFrom code.words a = IsMadeFrom-code code.words old a are_old are same made_old in
    let memory : IsBankMemory code.words s (areas_over a s.pages) = IsBankMemory-over code.words s a are made started observed.pages_below observed.state.pages in
    record { made = made; memory = memory; well = sound point within s observed (areas_over a s.pages) memory }

-- the same, from what is known of a machine and of its memory
pub readied-machine : (code : TracerCode) (point : ℕ) (m : Machine) (f : MarkedPages) (old a : Areas) (copies : List ℕ) → IsSound code → point < length code.places → ((pages : Pages) → ArePages pages → IsState (state_of m pages)) → m.status ≡ Running → IsKept f
    → AreAreas old → IsMadeFrom code.words old → AreAreas a → a.code ≡ old.code → ((pages : Pages) → copies ≡ copied_words (state_of m pages)) → IsStarted copies a → Readied code point (state_of m f.pages) a
readied-machine code point m f old a copies sound within state running kept are_old made are same copied started =
    let observed : IsObserved (state_of m f.pages) = record { state = state f.pages kept.whole; running = running; pages_below = kept.below } in
    readied code point (state_of m f.pages) old a sound within observed are_old made are same (subst (λ words. IsStarted words a) (copied f.pages) started)

-- it starts at a word
pub starts-at_word : (code : TracerCode) (point : ℕ) (s : State) (a : Areas) → Readied code point s a → CODE_START + 4 * slice_index code.places point < 2 ^ 32
starts-at_word code point s a ready =
    RunsTo-at_word code.words s (start_of code point (areas_over a s.pages) s) ready.well.count ready.memory.bank.are ready.well.run

-- ---- after it

-- a run that came to the count of its end is at its end
pub ended : (code : TracerCode) (point : ℕ) (s : State) (a : Areas) (ready : Readied code point s a) (end : State) (before after : ℕ) → CameTo ready.well.count (start_of code point (areas_over a s.pages) s) end before after
    → HasEnded code point s end before after
ended code point s a ready end before after came = record {
  memory = areas_over a s.pages;
  bank = ready.memory;
  count = ready.well.count;
  few = ready.well.bound;
  ends = ready.well.run.ends;
  came = came;
  contained = subst (λ (t : State). IsContained code.words s t.pages) (sym came.state) (ready.well.run.contained ready.well.count (omega arith));
  outcome = subst (λ (t : State). (e : TracerEnd) × TellsEnd t e) (sym came.state) ready.well.run.outcome;
}
