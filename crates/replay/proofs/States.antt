-- An instruction of a replay leads from a state to a state, below the end of the count.
use Rattle.std.specs.Prelude.{if◌then◌else◌, ◌==◌, slice_get, slice_index}
use Rattle.std.specs.List.{All, AllByRecursion}
use Rattle.std.proofs.Common.{◌≡◌, ℕ, zero, suc, ◌+◌, ◌-◌, ◌/◌, ◌^◌, ◌<◌, ◌≤◌, Bool, true, false, List, [], ◌∷◌, length, Option, Some, None, refl, sym, ap, subst, ◌∙◌, arith}
use Rattle.std.proofs.lemmas.Option.{slice_get_within}
use Rattle.sl_base.specs.declared.call.Call.{Call}
use Rattle.sl_base.specs.Calls.{write_number}
use Rattle.sl_model.specs.declared.run_state.RunState.{RunState}
use Rattle.sl_model.specs.declared.run_state.RunState.TheVariants.{Running, Exited}
use Rattle.sl_model.specs.Words.{IsWord}
use Rattle.sl_model.specs.Pages.{ArePages, set_bytes}
use Rattle.sl_model.specs.State.{State, IsState, Fits}
use Rattle.sl_model.specs.Step.{Next, Stepped, Called, Trapped, step}
use Rattle.sl_model.proofs.Values.{IsWord-word_add}
use Rattle.sl_model.proofs.Memory.{ArePages-set_bytes}
use Rattle.sl_model.proofs.Mapping.{ArePages-map_pages}
use Rattle.sl_model.proofs.Steps.{IsState-step, IsWord-index, words-set_register, length-set_register, zero-set_register}
use Rattle.call_log.specs.declared.ask.Ask.{Ask}
use Rattle.call_log.specs.declared.ask.CallDiff.{CallDiff}
use Rattle.call_log.specs.declared.entry.CallEntry.{CallEntry}
use Rattle.call_log.specs.Differences.{first_difference}
use Rattle.rec_format.specs.Rules.{IsRecordingValue, IsCallEntry, HasBytes}
use Rattle.rec_format.specs.declared.recording.Recording.{Recording}
use Rattle.sl_model.specs.Heap.{is_break}
use Rattle.replay.specs.Calls.{call_of, ask_of, exited, answered, is_outside, data_done, call_done, brk_done, brk_mapped_end, arg, buffer, brk_number}
use Rattle.replay.specs.Run.{Onward, Goes, Breaks, onward, onward_in, stepped, asked, called, matched}
use Rattle.replay.proofs.InRun.{new_end}

-- ---- a recorded call

-- what holds of each recorded call holds of one of them
pub each_at : (P : CallEntry → Type 0) (calls : List CallEntry) (i : ℕ) (entry : CallEntry) → AllByRecursion P calls → slice_get calls i ≡ Some entry → P entry
each_at P [] i entry each is = absurd cc
each_at P (c ∷ cs) zero entry each is =
    let same : c ≡ entry = cc in
    subst P same each.0
each_at P (c ∷ cs) (suc i) entry each is = each_at P cs i entry each.1 is

-- ---- what a call changes beside a0 and the next place

record IsDone (s t : State) : Type 0 where
  x : t.x ≡ s.x
  pages : ArePages t.pages
  brk : IsWord t.brk
  brk_end : IsWord t.brk_end
  status : t.status ≡ s.status
  count : t.count ≡ s.count
  layout : t.layout ≡ s.layout

module _ (s : State) (is : IsState s) (fits : Fits s) where
  done_nothing : IsDone s s
  done_nothing = record { x = refl; pages = is.pages; brk = is.brk; brk_end = is.brk_end; status = refl; count = refl; layout = refl }

  done_bytes : (address : ℕ) (bytes : List ℕ) → All (λ b. b < 256) bytes → IsDone s (record s { pages = set_bytes s.pages address bytes })
  done_bytes address bytes small = record { x = refl; pages = ArePages-set_bytes s.pages address bytes is.pages small; brk = is.brk; brk_end = is.brk_end; status = refl; count = refl; layout = refl }

  word_if : (b : Bool) (m n : ℕ) → IsWord m → IsWord n → IsWord (if b then m else n)
  word_if true m n first second = first
  word_if false m n first second = second

  done_brk : (address : ℕ) → IsWord address → IsDone s (brk_done s address)
  done_brk address word =
      let new : ℕ = brk_mapped_end s address in
      let end = new_end s address (is_break s address) refl fits.mapped_end fits.layout.limit fits.end_to in
      let within : s.brk_end / 4096 + (new / 4096 - s.brk_end / 4096) ≤ 2 ^ 20 = omega (arith, end.from, end.to, fits.layout.below_end) in
      record {
        x = refl;
        pages = ArePages-map_pages s.pages (s.brk_end / 4096) (new / 4096 - s.brk_end / 4096) is.pages within;
        brk = word_if (is_break s address) address s.brk word is.brk;
        brk_end = omega (arith, end.to, fits.layout.below_end);
        status = refl;
        count = refl;
        layout = refl;
      }

  done_if : (b : Bool) (t u : State) → IsDone s t → IsDone s u → IsDone s (if b then t else u)
  done_if true t u first second = first
  done_if false t u first second = second

  done_call : (call : Call) (bytes : List ℕ) → IsWord (arg call 0) → All (λ b. b < 256) bytes → IsDone s (call_done s call bytes)
  done_call call bytes word small =
      done_if (is_outside call) (data_done s call bytes) (if call.number == brk_number then brk_done s (arg call 0) else s)
      (done_if (call.number == write_number) s (record s { pages = set_bytes s.pages (buffer call) bytes }) done_nothing (done_bytes (buffer call) bytes small))
      (done_if (call.number == brk_number) (brk_done s (arg call 0)) s (done_brk (arg call 0) word) done_nothing)

  -- ---- the states after calls

  module _ (below : s.count + 1 < 2 ^ 64) where
    state_exited : IsState (exited s)
    state_exited = record {
      pc = IsWord-word_add s.pc 4;
      registers = is.registers;
      words = is.words;
      zero = is.zero;
      pages = is.pages;
      brk = is.brk;
      brk_end = is.brk_end;
      next_call = is.next_call;
      status = IsWord-index s.x 10 is.words;
      count = below;
      layout = is.layout;
    }

    state_answered : (entry : CallEntry) → IsCallEntry entry → HasBytes entry → s.next_call + 1 < 2 ^ 32 → IsState (answered s entry)
    state_answered entry entry_is small few =
        let done : State = call_done s (call_of s) entry.bytes in
        let kept : IsDone s done = done_call (call_of s) entry.bytes (IsWord-index s.x 10 is.words) small in
        record {
          pc = IsWord-word_add s.pc 4;
          registers = length-set_register done.x 10 entry.result ∙ ap length kept.x ∙ is.registers;
          words = words-set_register done.x 10 entry.result (subst (AllByRecursion IsWord) (sym kept.x) is.words) entry_is.result;
          zero = zero-set_register done.x 10 entry.result ∙ ap (λ (x : List ℕ). slice_index x 0) kept.x ∙ is.zero;
          pages = kept.pages;
          brk = kept.brk;
          brk_end = kept.brk_end;
          next_call = few;
          status = rw kept.status is.status;
          count = omega (arith, kept.count);
          layout = rw kept.layout is.layout;
        }

    -- ---- every instruction

    abbrev LeadsTo : Onward → Type 0
    LeadsTo (Goes t) = IsState t
    LeadsTo (Breaks kind) = Unit {0}

    module _ (rec : Recording) (value : IsRecordingValue rec) (bytes : AllByRecursion HasBytes rec.calls) where
      to_matched : (entry : CallEntry) (diff : Option CallDiff) → slice_get rec.calls s.next_call ≡ Some entry → LeadsTo (matched s entry diff)
      to_matched entry None at =
          let within = slice_get_within rec.calls s.next_call entry at in
          let few = value.number_of_calls in
          state_answered entry (each_at IsCallEntry rec.calls s.next_call entry value.each_call at) (each_at HasBytes rec.calls s.next_call entry bytes at) (omega arith)
      to_matched entry (Some diff) at = tt

      to_called : (ask : Ask) (entry : Option CallEntry) → slice_get rec.calls s.next_call ≡ entry → LeadsTo (called s ask entry)
      to_called ask None found = tt
      to_called ask (Some entry) found = to_matched entry (first_difference entry ask) found

      to_asked : (ask : Option Ask) → LeadsTo (asked rec s ask)
      to_asked None = state_exited
      to_asked (Some ask) = to_called ask (slice_get rec.calls s.next_call) refl

      to_stepped : (next : Next) → step s ≡ next → LeadsTo (stepped rec s next)
      to_stepped (Stepped t) steps = IsState-step s t is below steps
      to_stepped Called steps = to_asked (ask_of s)
      to_stepped (Trapped number) steps = tt

      to_in : (status : RunState) → LeadsTo (onward_in rec s status)
      to_in Running = to_stepped (step s) refl
      to_in (Exited code) = tt

      to_onward : LeadsTo (onward rec s)
      unfolding onward
      to_onward = to_in s.status

      pub IsState-onward : (t : State) → onward rec s ≡ Goes t → IsState t
      IsState-onward t goes = subst LeadsTo goes to_onward
