-- The recording of a whole run.
use Rattle.std.specs.Prelude.{◌*◌, ◌/◌, ◌^◌, map, nat_lt, if◌then◌else◌}
use Rattle.std.specs.Option.{option_or}
use Rattle.std.specs.List.{AllByRecursion}
use Rattle.std.proofs.Common.{◌≡◌, ℕ, zero, suc, ◌+◌, ◌-◌, ◌<◌, ◌≤◌, ◌⊎◌, inl, inr, ⊎_elim, Bool, true, false, List, [], ◌∷◌, ◌++◌, length, Option, Some, None, refl, sym, ap, subst, ◌∙◌, arith, eq-eqb, mul-le-mul_right}
use Rattle.std.proofs.lemmas.Bool.{cases_lt}
use Rattle.std.proofs.lemmas.Bool.Decides.{nat_tests}
use Rattle.std.proofs.lemmas.List.{append-nil}
use Rattle.std.proofs.lemmas.Nat.{div-mul-add}
use Rattle.outside.specs.World.{Heard}
use Rattle.sl_model.specs.declared.run_state.RunState.{RunState}
use Rattle.sl_model.specs.declared.run_state.RunState.TheVariants.{Running, Exited}
use Rattle.sl_model.specs.Pages.{Pages}
use Rattle.sl_model.specs.State.{State, IsOpening}
use Rattle.sl_model.specs.Step.{Trapped, step, trap_of}
use Rattle.call_log.specs.declared.entry.End.{End}
use Rattle.call_log.specs.declared.entry.End.TheVariants as ends
use Rattle.elf_image.specs.declared.image.Image.{Image}
use Rattle.rec_format.specs.declared.recording.Recording.{Recording}
use Rattle.rec_format.specs.declared.recording.CheckpointData.{CheckpointData}
use Rattle.rec_format.specs.Rules.{AreArguments, IsEnd, IsAbove, Rise, last_or, count_of, AreNeeded, listings, IsRecordingValue}
use Rattle.replay.specs.Opening.{opening}
use Rattle.replay.specs.Run.{run_from}
use Rattle.replay.specs.Breaks.{same_end, replayed_end, end_differs, calls_left, end_break}
use Rattle.call_recorder.specs.declared.source.ImageSource.{ImageSource}
use Rattle.call_recorder.specs.declared.live.Live.{Live}
use Rattle.call_recorder.specs.declared.kept.Kept.{Kept}
use Rattle.call_recorder.specs.declared.kept.Finished.{Finished}
use Rattle.call_recorder.specs.Listing.{page_in, checkpoint_of, checkpoints_of, kept_of}
use Rattle.call_recorder.specs.Recut.{state_at, first_states, multiples_below, checkpoints_by, end_checkpoint, recut_of}
use Rattle.call_recorder.specs.Answered.{heard_in}
use Rattle.call_recorder.specs.Kept.{memory_after, AreKept, AreDone, AreFinished}
use Rattle.call_recorder.specs.Lives.{state_in, ComesSoFar, IsFullAt, HasStopped, StopsWithin, KeptTo}
use Rattle.call_recorder.specs.Recorded.{IsSource, IsFull, EndsWithin, IsRecorded}
use Rattle.call_recorder.proofs.Distances.{has_checkpoints}
use Rattle.call_recorder.proofs.Traps.{is_trap-step}
use Rattle.call_recorder.proofs.Runs.{state_at-run, comes_to, count-run}
use Rattle.call_recorder.proofs.Recuts.{are_done, HasRest, value, recut_is, unbroken}

-- ---- the end

same : (end : End) → same_end end end ≡ true
same (ends.Exited code) = eq-eqb code code refl
same (ends.Trapped number) = eq-eqb number number refl
same ends.Stopped = refl

ends_so : (end : End) (status : RunState) (trap : Option ℕ) → end ≡ replayed_end end status trap → end_differs end (replayed_end end status trap) ≡ None
ends_so end status trap is = ap (end_differs end) (sym is) ∙ rw (same end) refl

-- a code is a word
abbrev pub IsCode : End → Type 0
IsCode (ends.Exited code) = code < 2 ^ 32
IsCode (ends.Trapped number) = Unit {0}
IsCode ends.Stopped = Unit {0}

module _ (limit : ℕ) (live : Live) where
  replays_so : (end : End) → StopsWithin limit live end → end ≡ replayed_end end live.machine.status (trap_of (step (state_in live)))
  replays_so (ends.Exited code) stops = sym (ap (λ (r : RunState). replayed_end (ends.Exited code) r (trap_of (step (state_in live)))) stops.0)
  replays_so (ends.Trapped number) stops = sym (ap (λ (r : RunState). replayed_end (ends.Trapped number) r (trap_of (step (state_in live)))) stops.0 ∙ ap (λ next. replayed_end (ends.Trapped number) Running (trap_of next)) stops.1)
  replays_so ends.Stopped stops = sym (ap (λ (r : RunState). replayed_end ends.Stopped r (trap_of (step (state_in live)))) stops.0)

  is_end : (end : End) → StopsWithin limit live end → IsCode end → IsEnd end
  is_end (ends.Exited code) stops small = small
  is_end (ends.Trapped number) stops small = is_trap-step (state_in live) number stops.1
  is_end ends.Stopped stops small = tt

  ends_within : (rec : Recording) (end : End) → rec.calls ≡ live.calls → StopsWithin limit live end → EndsWithin limit rec (state_in live) end
  ends_within rec (ends.Exited code) calls stops = stops.1
  ends_within rec (ends.Trapped number) calls stops = stops.2
  ends_within rec ends.Stopped calls stops = ⊎_elim
      (λ (at : live.machine.count ≡ limit). inl at)
      (λ (full : (live.machine.count < limit) × IsFullAt live). inr (full.0, record { calls = ap length calls ∙ full.1.calls; stands = full.1.stands; asks = full.1.asks }))
      stops.1

-- ---- the whole

module _ (image : Image) (source : ImageSource) (args : List (List ℕ)) (limit every : ℕ) (heard : List Heard → Type 0) (live : Live) (kept : Kept) (end : End) (offers : ℕ) (done : Finished) where
  abbrev rec : Recording
  rec = record {
    kind = source.kind;
    load_addr = source.load_addr;
    image = source.bytes;
    args = args;
    calls = live.calls;
    checkpoints = done.checkpoints;
    end = end;
    last = done.last;
  }

  abbrev opened : State
  opened = opening image args

  abbrev last : State
  last = state_in live

  abbrev total : ℕ
  total = live.machine.count

  module _ (opens : IsOpening opened) (some : 0 < every) (most : limit ≤ 2 ^ 40) (is : IsSource source) (given : AreArguments args) (comes : ComesSoFar opened heard live) (stopped : HasStopped limit live end) (small : IsCode end)
      (so_far : KeptTo opened every live kept offers) (finished : (pages : Pages) (states : List State) → AreKept pages states kept live.memory → AreFinished pages states last done) where
    all_calls : rec.calls ≡ live.calls ++ []
    all_calls = sym (append-nil live.calls)

    run : run_from rec opened total ≡ Some last
    run = comes.run rec [] all_calls

    are : AreDone opened.pages (first_states rec opened every (multiples_below every total)) last done
    are = are_done rec opened every total last opens some run offers done so_far.from so_far.upto (finished opened.pages (first_states rec opened every offers) (so_far.are rec [] all_calls))

    last_at : rec.last.count ≡ total
    last_at = ap (λ (c : CheckpointData). c.count) are.last

    no_calls_left : calls_left rec last ≡ None
    no_calls_left =
        let none : nat_lt live.machine.next_call (length live.calls) ≡ false = grind (arith, nat_tests, stopped.next_call) in
        rw none refl

    ends_rightly : end_break rec last ≡ None
    ends_rightly = ap (λ o. option_or o (calls_left rec last)) (ends_so end live.machine.status (trap_of (step last)) (replays_so limit live end stopped.stops)) ∙ no_calls_left

    rest : HasRest rec
    rest = record {
      kind = is.kind;
      load_addr = is.load_addr;
      image = is.bytes;
      args = given;
      number_of_calls = omega (arith, stopped.next_call, are.is.next_call, ap (λ (c : CheckpointData). c.next_call) are.last);
      each_call = comes.each;
      how_it_ends = is_end limit live end stopped.stops small;
    }

    pub is_recorded : IsRecorded image source args limit every heard rec
    is_recorded = record {
      kind = refl;
      load_addr = refl;
      image = refl;
      args = refl;
      value = value rec opened every total last done opens some run are rest;
      unbroken = unbroken rec opened every total last done opens some run are ends_rightly;
      checkpoints = has_checkpoints rec opened every (recut_is rec opened every total last done opens some run are);
      end = subst (λ (s : State). EndsWithin limit rec s end) (sym (state_at-run rec opened rec.last.count last (ap (run_from rec opened) last_at ∙ run))) (ends_within limit live rec end refl stopped.stops);
      world = subst (λ n. heard (heard_in rec opened n)) (sym last_at) (comes.world rec [] all_calls);
    }
