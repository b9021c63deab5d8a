-- A program goes on by an instruction, and so does every recording that begins with its calls.
use Rattle.std.specs.Prelude.{map, if◌then◌else◌, ◌||◌, ◌==◌, ◌*◌, min, is_some, unwrap_or, slice_get, OnOk}
use Rattle.std.specs.List.{AllByRecursion, flat_map, range_with_len}
use Rattle.std.specs.Option.{option_map, option_and_then}
use Rattle.std.proofs.Common.{◌≡◌, ℕ, zero, suc, ◌+◌, ◌-◌, ◌^◌, ◌<◌, ◌≤◌, ◌⊎◌, inl, inr, ⊎_elim, Bool, true, false, List, [], ◌∷◌, ◌++◌, length, take, drop, Option, Some, None, refl, sym, ap, subst, ◌∙◌, arith, append_assoc, eqb-true}
use Rattle.std.proofs.lemmas.List.{append-nil, length_push, map-append}
use Rattle.std.proofs.lemmas.Bool.{or_cases}
use Rattle.sl_base.specs.declared.call.Call.{Call}
use Rattle.outside.specs.World.{Heard, HearsAll}
use Rattle.outside.proofs.Hearing.{hears_more}
use Rattle.sl_base.specs.Calls.{IsAsked, read_number, write_number, getrandom_number, is_write, error_result}
use Rattle.sl_model.specs.declared.run_state.RunState.{RunState}
use Rattle.sl_model.specs.declared.run_state.RunState.TheVariants.{Running}
use Rattle.sl_model.specs.Pages.{Pages, byte_at, bytes_at}
use Rattle.sl_model.specs.Heap.{brk_answer}
use Rattle.sl_model.specs.State.{State, Fits}
use Rattle.sl_model.specs.Step.{Next, Stepped, Called, Trapped, step}
use Rattle.call_log.specs.declared.ask.Ask.{Ask}
use Rattle.call_log.specs.declared.entry.CallEntry.{CallEntry}
use Rattle.call_log.specs.declared.entry.End.{End}
use Rattle.call_log.specs.declared.entry.End.TheVariants.{Stopped}
use Rattle.call_log.specs.Differences.{first_difference}
use Rattle.rec_format.specs.declared.recording.Recording.{Recording}
use Rattle.rec_format.specs.Rules.{IsCallEntry}
use Rattle.rec_format.proofs.Fronts.{All-join}
use Rattle.replay.specs.Calls.{call_of, is_exit, is_outside, buffer, room, brk_number, arg, fixed_result, given, ask_with, ask_of, data_done, call_done, brk_done, exited, answered}
use Rattle.replay.specs.Run.{Goes, onward, run_from}
use Rattle.replay.proofs.InRun.{Fits-onward}
use Rattle.replay.proofs.Onward.{onward_stepped, onward_called, asked_exit, asked_due}
use Rattle.call_recorder.specs.Recut.{state_at}
use Rattle.call_recorder.specs.Answered.{Asked, outside_call, asked_by, asked_at, asked_in, heard_of}
use Rattle.call_recorder.specs.declared.live.Live.{Live}
use Rattle.sl_model.proofs.Steps.{IsNext-step}
use Rattle.sl_model.proofs.Fitting.{Fits-step}
use Rattle.page_frames.specs.MarkedPages.{MarkedPages}
use Rattle.rv_machine.specs.declared.machine.Machine.{Machine}
use Rattle.call_recorder.specs.Lives.{GoesOn, RanTo, Begins, IsAsk, AnswersAsk, state_in, ComesSoFar}
use Rattle.call_recorder.proofs.Runs.{run-zero, run-next, state_at-run}

-- ---- what a program asks

length-bytes_at : (pages : Pages) (address count : ℕ) (bytes : List ℕ) → bytes_at pages address count ≡ Some bytes → length bytes ≡ count
unfolding bytes_at
length-bytes_at pages address zero [] is = refl
length-bytes_at pages address zero (b ∷ bytes) is = absurd cc
length-bytes_at pages address (suc count) bytes is = by (byte_at pages address) (bytes_at pages (address + 1) count) bytes (λ more same. length-bytes_at pages (address + 1) count more same) is
  where
    by : (first : Option ℕ) (rest : Option (List ℕ)) (bytes : List ℕ) → ((more : List ℕ) → rest ≡ Some more → length more ≡ count) → option_and_then (λ b. option_map (λ bs. b ∷ bs) rest) first ≡ Some bytes → length bytes ≡ suc count
    by None rest bytes long is = absurd cc
    by (Some b) None bytes long is = absurd cc
    by (Some b) (Some more) bytes long is =
        let same : b ∷ more ≡ bytes = cc in
        sym (ap length same) ∙ ap suc (long more refl)

module _ (s : State) where
  abbrev call : Call
  call = call_of s

  small_room : room call ≤ 65536
  small_room = omega arith

  given_long : (bytes : Option (List ℕ)) (writes : Bool) → bytes_at s.pages (buffer call) (room call) ≡ bytes → is_some bytes ≡ true → length (if writes then unwrap_or bytes [] else []) ≡ (if writes then room call else 0)
  given_long None writes is some = absurd cc
  given_long (Some bytes) true is some = length-bytes_at s.pages (buffer call) (room call) bytes is
  given_long (Some bytes) false is some = refl

  asked_number : is_outside call ≡ true → IsAsked call
  asked_number is = ⊎_elim
      (λ (first : (call.number == read_number || call.number == write_number) ≡ true). ⊎_elim
      (λ (reads : (call.number == read_number) ≡ true). inl (eqb-true call.number read_number reads))
      (λ (writes : (call.number == write_number) ≡ true). inr (inl (eqb-true call.number write_number writes)))
      (or_cases (call.number == read_number) (call.number == write_number) first))
      (λ (random : (call.number == getrandom_number) ≡ true). inr (inr (eqb-true call.number getrandom_number random)))
      (or_cases (call.number == read_number || call.number == write_number) (call.number == getrandom_number) is)

  -- the outside decides where the buffer of one of its calls is mapped
  record Undecided : Type 0 where
    pub outside : is_outside call ≡ true
    pub mapped : is_some (bytes_at s.pages (buffer call) (room call)) ≡ true

  undecided : fixed_result s call ≡ None → Undecided
  undecided none = by (is_outside call) (is_some (bytes_at s.pages (buffer call) (room call))) (call.number == brk_number) refl refl none
    where
      by : (outside mapped moves : Bool) → is_outside call ≡ outside → is_some (bytes_at s.pages (buffer call) (room call)) ≡ mapped
          → (if outside then (if mapped then None else Some (error_result 14)) else (if moves then Some (brk_answer s (arg call 0)) else Some (error_result 38))) ≡ None → Undecided
      by true true moves outside mapped none = record { outside = outside; mapped = mapped }
      by true false moves outside mapped none = absurd cc
      by false mapped true outside is none = absurd cc
      by false mapped false outside is none = absurd cc

  asks_so : (fixed : Option ℕ) → fixed_result s call ≡ fixed → IsAsk (ask_with s call fixed)
  asks_so (Some result) is = record { outside = λ none. absurd cc; room = omega arith; give = omega arith; gives_room = λ none. absurd cc }
  asks_so None is =
      let open_to = undecided is in
      let long = given_long (bytes_at s.pages (buffer call) (room call)) (is_write call) refl open_to.mapped in
      record {
        outside = λ none. asked_number open_to.outside;
        room = small_room;
        give = few (is_write call) long;
        gives_room = λ none writes. long ∙ ap (λ (b : Bool). if b then room call else 0) writes;
      }
    where
      few : (writes : Bool) → length (given s call) ≡ (if writes then room call else 0) → length (given s call) ≤ 65536
      few true long = omega (arith, long, small_room)
      few false long = omega (arith, long)

  pub is_ask : (ask : Ask) → ask_of s ≡ Some ask → IsAsk ask
  is_ask ask asks = by (is_exit call) refl asks
    where
      by : (exits : Bool) → is_exit call ≡ exits → (if exits then None else Some (ask_with s call (fixed_result s call))) ≡ Some ask → IsAsk ask
      by true is asks = absurd cc
      by false is asks =
          let same : ask_with s call (fixed_result s call) ≡ ask = cc in
          subst IsAsk same (asks_so (fixed_result s call) refl)

-- ---- one call more

asked_in-more : (rec : Recording) (opened : State) (n : ℕ) → asked_in rec opened (n + 1) ≡ asked_in rec opened n ++ asked_at rec (state_at rec opened n)
asked_in-more rec opened n = by 0 n (omega arith)
  where
    f : ℕ → List Asked
    f count = asked_at rec (state_at rec opened count)

    by : (a k : ℕ) → a + k ≡ n → flat_map (λ count. asked_at rec (state_at rec opened count)) (range_with_len a (k + 1)) ≡ flat_map (λ count. asked_at rec (state_at rec opened count)) (range_with_len a k) ++ asked_at rec (state_at rec opened n)
    by a zero sum =
        let same : a ≡ n = omega arith in
        append-nil (asked_at rec (state_at rec opened a)) ∙ ap (λ k. asked_at rec (state_at rec opened k)) same
    by a (suc k) sum =
        let next : suc k + 1 ≡ suc (k + 1) = omega arith in
        ap (λ m. flat_map (λ count. asked_at rec (state_at rec opened count)) (range_with_len a m)) next
        ∙ ap (λ (l : List Asked). asked_at rec (state_at rec opened a) ++ l) (by (a + 1) k (omega arith))
        ∙ sym (append_assoc (asked_at rec (state_at rec opened a)) (flat_map (λ count. asked_at rec (state_at rec opened count)) (range_with_len (a + 1) k)) (asked_at rec (state_at rec opened n)))

-- ---- the run so far goes on

-- the recorded calls as the outside heard them
abbrev as_heard : List Asked → List Heard
as_heard calls = map (λ asked. heard_of asked.ask asked.entry) calls

module _ {X : Type 0} (hears : X → Heard → X → Type 0) (opened : State) (before now next : X) where
  abbrev heard_now : List Heard → Type 0
  heard_now = HearsAll hears before now

  abbrev heard_then : List Heard → Type 0
  heard_then = HearsAll hears before next

  heard_same : (calls more : List Asked) → heard_now (as_heard calls) → next ≡ now → more ≡ calls → heard_then (as_heard more)
  heard_same calls more all same none = subst (λ (x : X). HearsAll hears before x (as_heard more)) (sym same) (subst (λ (l : List Asked). heard_now (as_heard l)) (sym none) all)

  heard_more : (calls : List Asked) (one : Asked) → heard_now (as_heard calls) → hears now (heard_of one.ask one.entry) next → heard_then (as_heard (calls ++ one ∷ []))
  heard_more calls one all more = subst heard_then (sym (map-append (λ (asked : Asked). heard_of asked.ask asked.entry) calls (one ∷ []))) (hears_more hears before now next (as_heard calls) (heard_of one.ask one.entry) all more)

  module _ (old new : Live) (comes : ComesSoFar opened heard_now old) (one : new.machine.count ≡ old.machine.count + 1) where
    abbrev was : State
    was = state_in old

    -- without a recorded call
    goes_without : new.calls ≡ old.calls → next ≡ now → ((rec : Recording) → onward rec was ≡ Goes (state_in new)) → ((rec : Recording) → asked_at rec was ≡ []) → ComesSoFar opened heard_then new
    goes_without calls same goes none = record {
      run = λ rec more is. ap (run_from rec opened) one ∙ run-next rec old.machine.count opened was (state_in new) (comes.run rec more (is ∙ ap (λ (l : List CallEntry). l ++ more) calls)) (goes rec);
      world = λ rec more is.
          let there = is ∙ ap (λ (l : List CallEntry). l ++ more) calls in
          heard_same (asked_in rec opened old.machine.count) (asked_in rec opened new.machine.count) (comes.world rec more there) same
          (ap (asked_in rec opened) one
          ∙ asked_in-more rec opened old.machine.count
          ∙ ap (λ (l : List Asked). asked_in rec opened old.machine.count ++ l) (ap (asked_at rec) (state_at-run rec opened old.machine.count was (comes.run rec more there)) ∙ none rec)
          ∙ append-nil (asked_in rec opened old.machine.count));
      each = rw calls comes.each;
    }

    pub goes_stepped : was.status ≡ Running → step was ≡ Stepped (state_in new) → new.calls ≡ old.calls → next ≡ now → ComesSoFar opened heard_then new
    unfolding asked_at
    goes_stepped running steps calls same =
        goes_without calls same (λ rec. onward_stepped rec was (state_in new) running steps) (λ rec. ap (asked_by rec was) steps)

    pub goes_exited : was.status ≡ Running → step was ≡ Called → ask_of was ≡ None → state_in new ≡ exited was → new.calls ≡ old.calls → next ≡ now → ComesSoFar opened heard_then new
    unfolding asked_at
    goes_exited running stands asks is calls same =
        goes_without calls same
        (λ rec. onward_called rec was running stands ∙ asked_exit rec was asks ∙ ap (λ (t : State). Goes t) (sym is))
        (λ rec. ap (asked_by rec was) stands ∙ ap (λ o. outside_call o (slice_get rec.calls was.next_call)) asks)

    -- with one
    module _ (ask : Ask) (entry : CallEntry) (running : was.status ≡ Running) (stands : step was ≡ Called) (asks : ask_of was ≡ Some ask) (due : first_difference entry ask ≡ None)
        (index : old.machine.next_call ≡ length old.calls) (calls : new.calls ≡ old.calls ++ entry ∷ []) (is : state_in new ≡ answered was entry) (fits : IsCallEntry entry) (gives : AnswersAsk hears ask.fixed now next ask entry) where
      entry_there : (rec : Recording) (more : List CallEntry) → rec.calls ≡ new.calls ++ more → slice_get rec.calls was.next_call ≡ Some entry
      entry_there rec more same = ap (slice_get rec.calls) index ∙ ap (λ (l : List CallEntry). slice_get l (length old.calls)) (same ∙ ap (λ (l : List CallEntry). l ++ more) calls ∙ append_assoc old.calls (entry ∷ []) more) ∙ at old.calls
        where
          at : (xs : List CallEntry) → slice_get (xs ++ entry ∷ more) (length xs) ≡ Some entry
          at [] = refl
          at (x ∷ xs) = at xs

      before_it : (rec : Recording) (more : List CallEntry) → rec.calls ≡ new.calls ++ more → rec.calls ≡ old.calls ++ entry ∷ more
      before_it rec more same = same ∙ ap (λ (l : List CallEntry). l ++ more) calls ∙ append_assoc old.calls (entry ∷ []) more

      asked_now : (rec : Recording) (more : List CallEntry) → rec.calls ≡ new.calls ++ more → asked_at rec was ≡ (if is_some ask.fixed then [] else record { ask = ask; entry = entry } ∷ [])
      unfolding asked_at
      asked_now rec more same = ap (asked_by rec was) stands ∙ ap (λ o. outside_call o (slice_get rec.calls was.next_call)) asks ∙ ap (outside_call (Some ask)) (entry_there rec more same)

      heard_with : (fixed : Option ℕ) → AnswersAsk hears fixed now next ask entry → (asked : List Asked) → heard_now (as_heard asked) → heard_then (as_heard (asked ++ (if is_some fixed then [] else record { ask = ask; entry = entry } ∷ [])))
      heard_with (Some result) same asked all = heard_same asked (asked ++ []) all same (append-nil asked)
      heard_with None gives asked all = heard_more asked (record { ask = ask; entry = entry }) all gives

      pub goes_answered : ComesSoFar opened heard_then new
      goes_answered = record {
        run = λ rec more same. ap (run_from rec opened) one ∙ run-next rec old.machine.count opened was (state_in new) (comes.run rec (entry ∷ more) (before_it rec more same))
            (onward_called rec was running stands ∙ asked_due rec was ask entry asks (entry_there rec more same) due ∙ ap (λ (t : State). Goes t) (sym is));
        world = λ rec more same. subst (λ (l : List Asked). heard_then (as_heard l))
            (sym (ap (asked_in rec opened) one
            ∙ asked_in-more rec opened old.machine.count
            ∙ ap (λ (l : List Asked). asked_in rec opened old.machine.count ++ l) (ap (asked_at rec) (state_at-run rec opened old.machine.count was (comes.run rec (entry ∷ more) (before_it rec more same))) ∙ asked_now rec more same)))
            (heard_with ask.fixed gives (asked_in rec opened old.machine.count) (comes.world rec (entry ∷ more) (before_it rec more same)));
        each = rw calls (All-join IsCallEntry old.calls (entry ∷ []) comes.each (fits, tt));
      }

-- nothing changes where a run ends without another instruction
pub goes_nowhere : (opened : State) (heard : List Heard → Type 0) (old new : Live) → new ≡ old → ComesSoFar opened heard old → ComesSoFar opened heard new
goes_nowhere opened heard old new same comes = subst (λ (l : Live). ComesSoFar opened heard l) (sym same) comes

-- at the start
pub comes_from_start : (heard : List Heard → Type 0) (live : Live) → heard [] → live.calls ≡ [] → live.machine.count ≡ 0 → ComesSoFar (state_in live) heard live
comes_from_start heard live nothing none start = record {
  run = λ rec more is. ap (run_from rec (state_in live)) start ∙ run-zero rec (state_in live);
  world = λ rec more is. subst (λ (l : List Asked). heard (as_heard l)) (sym (ap (asked_in rec (state_in live)) start)) nothing;
  each = rw none tt;
}

-- ---- what a call keeps

status-if : (b : Bool) (s t : State) (status : RunState) → s.status ≡ status → t.status ≡ status → (if b then s else t).status ≡ status
status-if true s t status first second = first
status-if false s t status first second = second

status-call : (s : State) (call : Call) (bytes : List ℕ) → (call_done s call bytes).status ≡ s.status
status-call s call bytes =
    status-if (is_outside call) (data_done s call bytes) (if call.number == brk_number then brk_done s (arg call 0) else s) s.status
    (status-if (call.number == write_number) s _ s.status refl refl)
    (status-if (call.number == brk_number) (brk_done s (arg call 0)) s s.status refl refl)

pub status-answered : (s : State) (entry : CallEntry) → (answered s entry).status ≡ s.status
status-answered s entry = status-call s (call_of s) entry.bytes

-- a recording with these calls alone
holding : List CallEntry → Recording
holding calls = record {
  kind = 0;
  load_addr = 0;
  image = [];
  args = [];
  calls = calls;
  checkpoints = [];
  end = Stopped;
  last = record { count = 0; pc = 0; x = []; brk = 0; brk_end = 0; next_call = 0; pages = [] };
}

pub fits_answered : (s : State) (ask : Ask) (entry : CallEntry) (calls : List CallEntry) → s.status ≡ Running → step s ≡ Called → ask_of s ≡ Some ask → first_difference entry ask ≡ None → s.next_call ≡ length calls → Fits s → Fits (answered s entry)
unfolding holding
fits_answered s ask entry calls running stands asks due index fits =
    Fits-onward (holding (calls ++ entry ∷ [])) s (answered s entry) fits
    (onward_called (holding (calls ++ entry ∷ [])) s running stands ∙ asked_due (holding (calls ++ entry ∷ [])) s ask entry asks (ap (slice_get (calls ++ entry ∷ [])) index ∙ at calls) due)
  where
    at : (xs : List CallEntry) → slice_get (xs ++ entry ∷ []) (length xs) ≡ Some entry
    at [] = refl
    at (x ∷ xs) = at xs

-- ---- an instruction that is no call

pub goes_on-stepped : (old new : Live) → GoesOn old → step (state_in old) ≡ Stepped (state_in new) → new.calls ≡ old.calls → GoesOn new
goes_on-stepped old new goes steps calls =
    let next = IsNext-step (state_in old) (state_in new) steps in
    record {
      running = next.status ∙ goes.running;
      next_call = next.next_call ∙ goes.next_call ∙ sym (ap length calls);
      fits = Fits-step (state_in old) (state_in new) goes.fits steps;
    }

-- a machine and its memory that are as they were
pub same_live : (old : Live) (m : Machine) (f : MarkedPages) → m ≡ old.machine → f.pages ≡ old.memory.pages → f.dirty ≡ old.memory.dirty → record { machine = m; memory = f; calls = old.calls } ≡ old
same_live old m f machine pages dirty = λ i. record { machine = machine i; memory = record { pages = pages i; dirty = dirty i }; calls = old.calls }

-- a run that has not ended goes on
pub goes_further : (upto : ℕ) (live : Live) (end : Option End) → is_some end ≡ false → RanTo upto live end → GoesOn live × (live.machine.count ≡ upto)
goes_further upto live None none ran = ran
goes_further upto live (Some end) none ran = absurd cc

-- ---- calls that begin with others

pub begins_so : (first calls : List CallEntry) → calls ≡ first → Begins first calls
begins_so first calls same = ([], same ∙ sym (append-nil first))

pub begins_then : (first second third : List CallEntry) → Begins first second → Begins second third → Begins first third
begins_then first second third one two = (one.0 ++ two.0, two.1 ∙ ap (λ (l : List CallEntry). l ++ two.0) one.1 ∙ append_assoc first one.0 two.0)
