-- What is kept of a run as it goes on from one multiple of a distance to the next.
use Rattle.std.specs.Prelude.{◌*◌, Option}
use Rattle.std.proofs.Common.{◌≡◌, ℕ, ◌+◌, ◌≤◌, true, List, [], ◌∷◌, ◌++◌, Some, None, refl, sym, ap, subst, ◌∙◌, arith, append_assoc}
use Rattle.outside.specs.World.{Heard}
use Rattle.sl_model.specs.Pages.{Pages}
use Rattle.sl_model.specs.State.{State, Fits}
use Rattle.sl_model.specs.Marks.{MarksGoOn}
use Rattle.page_frames.specs.MarkedPages.{MarkedPages, IsKept}
use Rattle.call_log.specs.declared.entry.CallEntry.{CallEntry}
use Rattle.call_log.specs.declared.entry.End.{End}
use Rattle.call_log.specs.declared.entry.End.TheVariants as ends
use Rattle.rec_format.specs.declared.recording.Recording.{Recording}
use Rattle.replay.specs.Run.{run_from}
use Rattle.call_recorder.specs.Recut.{state_at, first_states}
use Rattle.call_recorder.specs.declared.live.Live.{Live}
use Rattle.call_recorder.specs.declared.kept.Kept.{Kept}
use Rattle.call_recorder.specs.Kept.{AreKept}
use Rattle.call_recorder.specs.Lives.{state_in, ComesSoFar, GoesOn, RanTo, KeptTo, Begins}
use Rattle.call_recorder.proofs.Offers.{goes_on}
use Rattle.call_recorder.proofs.Cuts.{first_states-more}
use Rattle.call_recorder.proofs.Runs.{state_at-run}

-- the same program with a memory that has the same pages
abbrev pub with_memory : Live → MarkedPages → Live
with_memory live f = record { machine = live.machine; memory = f; calls = live.calls }

same_pages : (live : Live) (f : MarkedPages) → f.pages ≡ live.memory.pages → state_in live ≡ state_in (with_memory live f)
same_pages live f same = ap (λ (p : Pages). state_in (with_memory live (record { pages = p; dirty = f.dirty }))) (sym same)

pub goes-with_memory : (live : Live) (f : MarkedPages) → f.pages ≡ live.memory.pages → GoesOn live → GoesOn (with_memory live f)
goes-with_memory live f same goes = record { running = goes.running; next_call = goes.next_call; fits = subst Fits (same_pages live f same) goes.fits }

pub comes-with_memory : (opened : State) (heard : List Heard → Type 0) (live : Live) (f : MarkedPages) → f.pages ≡ live.memory.pages → ComesSoFar opened heard live → ComesSoFar opened heard (with_memory live f)
comes-with_memory opened heard live f same comes = record {
  run = λ rec more is. comes.run rec more is ∙ ap (λ (s : State). Some s) (same_pages live f same);
  world = comes.world;
  each = comes.each;
}

module _ (opened : State) (every offers : ℕ) (old new : Live) (kept : Kept) where
  pub kept_on : KeptTo opened every old kept offers → Begins old.calls new.calls → IsKept old.memory → IsKept new.memory → MarksGoOn true old.memory.pages old.memory.dirty new.memory.pages new.memory.dirty → old.machine.count ≤ new.machine.count → new.machine.count ≤ (offers + 1) * every
      → KeptTo opened every new kept offers
  kept_on before begins was is marks from upto =
      let low = before.from in
      record {
        are = λ rec more same. goes_on opened.pages (first_states rec opened every offers) kept old.memory new.memory was is marks (before.are rec (begins.0 ++ more) (same ∙ ap (λ (l : List CallEntry). l ++ more) begins.1 ∙ append_assoc old.calls begins.0 more));
        from = omega arith;
        upto = upto;
      }

-- one more state is offered
pub kept_next : (opened : State) (heard : List Heard → Type 0) (every offers : ℕ) (live : Live) (kept kept' : Kept) (f : MarkedPages) → KeptTo opened every live kept offers → ComesSoFar opened heard live → live.machine.count ≡ (offers + 1) * every
    → ((opening : Pages) (states : List State) → AreKept opening states kept live.memory → AreKept opening (states ++ state_in live ∷ []) kept' f)
    → KeptTo opened every (with_memory live f) kept' (offers + 1)
kept_next opened heard every offers live kept kept' f old comes count offer = record {
  are = λ rec more same.
      let here : state_at rec opened ((offers + 1) * every) ≡ state_in live = state_at-run rec opened ((offers + 1) * every) (state_in live) (sym (ap (run_from rec opened) count) ∙ comes.run rec more same) in
      let states : first_states rec opened every offers ++ state_in live ∷ [] ≡ first_states rec opened every (offers + 1) = ap (λ (s : State). first_states rec opened every offers ++ s ∷ []) (sym here) ∙ sym (first_states-more rec opened every offers) in
      subst (λ (l : List State). AreKept opened.pages l kept' f) states (offer opened.pages (first_states rec opened every offers) (old.are rec more same));
  from = omega (arith, count);
  upto = omega (arith, count);
}

-- a run up to a count does not pass it
pub at_most : (upto : ℕ) (live : Live) (end : Option End) → RanTo upto live end → live.machine.count ≤ upto
at_most upto live None ran = omega (arith, ran.1)
at_most upto live (Some (ends.Exited code)) ran = ran.before
at_most upto live (Some (ends.Trapped number)) ran = omega (arith, ran.before)
at_most upto live (Some ends.Stopped) ran = omega (arith, ran.before)
