-- Epochs on rows that were worked by hand: li a0, 5; li a7, 93; ecall at 0x10000, which exits with 5 at count 3. Its
-- memory is one page of twelve bytes.
use Rattle.std.specs.Prelude.{◌+◌, ◌*◌}
use Rattle.std.proofs.Common.{◌≡◌, ℕ, suc, List, [], ◌∷◌, replicate, Option, Some, None, Ok, Err, refl, sym, ap, ap₂, ◌∙◌, ◌++◌, eq-eqb}
use Rattle.std.specs.Ordering.{nat_cmp}
use Rattle.std.specs.FinMap.{get, from_sorted, get-from_sorted}
use Rattle.sl_model.specs.declared.run_state.RunState.{RunState}
use Rattle.sl_model.specs.declared.run_state.RunState.TheVariants.{Running, Exited}
use Rattle.sl_model.specs.Pages.{Pages, byte_at, bytes_at, load_at}
use Rattle.sl_model.specs.Words.{meaning, immediate_meaning, immediate_op, system_meaning}
use Rattle.sl_model.specs.State.{State}
use Rattle.sl_model.specs.Step.{Stepped, Called, Trapped, execute, step}
use Rattle.call_log.specs.declared.entry.End.{End}
use Rattle.call_log.specs.declared.entry.End.TheVariants as end
use Rattle.call_log.specs.declared.breaks.Break.{Break}
use Rattle.call_log.specs.declared.breaks.BreakKind.TheVariants.{CheckpointDiffers, EarlyEnd}
use Rattle.rec_format.specs.declared.recording.Recording.{Recording}
use Rattle.rec_format.specs.declared.recording.CheckpointData.{CheckpointData}
use Rattle.tracer_lang.specs.declared.record.Record.{Record}
use Rattle.tracer_lang.specs.declared.record.TracerEnd.TheVariants.{Done}
use Rattle.replay.specs.Run.{Goes, Breaks, onward}
use Rattle.replay.specs.Breaks.{listed_break, listed_or, break_after}
use Rattle.sl_model.specs.Mapping.{map_pages}
use Rattle.rec_format.specs.Recorded.{end_place, listed_to, put_all_listed, recorded_state_of, recorded_state, checkpoint_at}
use Rattle.rec_format.specs.Compared.{PartDiff, bytes_diff, page_diff, pages_diff, PAGE_NUMBERS, machine_diff, checkpoint_diff}
use Rattle.epoch_run.specs.Records.{Tracers, records_after}
use Rattle.epoch_run.specs.AtScript.{emit_at}
use Rattle.epoch_run.specs.Epochs.{epoch_break_from, epoch_break, epoch_records_from, epoch_records, epoch_value, value_of, between}

-- ---- the program

abbrev program : List ℕ
program = 0x13 ∷ 0x05 ∷ 0x50 ∷ 0x00 ∷ 0x93 ∷ 0x08 ∷ 0xd0 ∷ 0x05 ∷ 0x73 ∷ 0x00 ∷ 0x00 ∷ 0x00 ∷ []

abbrev entries : List (ℕ × List ℕ)
entries = (0x10, program) ∷ []

abbrev memory : Pages
memory = from_sorted entries

is_there : get memory 0x10 ≡ Some program
is_there = get-from_sorted nat_cmp entries 0x10 tt

-- x1 to x31, with a0 and a7
abbrev registers : ℕ → ℕ → List ℕ
registers a0 a7 = 0 ∷ 0 ∷ 0 ∷ 0 ∷ 0 ∷ 0 ∷ 0 ∷ 0 ∷ 0 ∷ a0 ∷ 0 ∷ 0 ∷ 0 ∷ 0 ∷ 0 ∷ 0 ∷ a7 ∷ replicate 14 0

abbrev at : ℕ → ℕ → ℕ → ℕ → RunState → State
at pc a0 a7 count status =
    record { pc = pc; x = 0 ∷ registers a0 a7; pages = memory; brk = 0x11000; brk_end = 0x11000; next_call = 0; status = status; count = count; layout = record { brk_start = 0x11000; heap_limit = 0x1011000 } }

abbrev opened : State
opened = at 0x10000 0 0 0 Running

first : step opened ≡ Stepped (at 0x10004 5 0 1 Running)
unfolding step load_at bytes_at byte_at meaning immediate_meaning immediate_op execute
first = rw is_there refl

second : step (at 0x10004 5 0 1 Running) ≡ Stepped (at 0x10008 5 93 2 Running)
unfolding step load_at bytes_at byte_at meaning immediate_meaning immediate_op execute
second = rw is_there refl

third : (a0 : ℕ) → step (at 0x10008 a0 93 2 Running) ≡ Called
unfolding step load_at bytes_at byte_at meaning system_meaning execute
third a0 = rw is_there refl

-- ---- its recording, with one checkpoint

abbrev checkpoint : ℕ → ℕ → ℕ → CheckpointData
checkpoint pc a0 count = record { count = count; pc = pc; x = registers a0 93; brk = 0x11000; brk_end = 0x11000; next_call = 0; pages = [] }

abbrev recording : CheckpointData → End → CheckpointData → Recording
recording middle ended last = record { kind = 0; load_addr = 0x10000; image = program; args = []; calls = []; checkpoints = middle ∷ []; end = ended; last = last }

-- as it is recorded with a checkpoint every 2 instructions
abbrev honest : Recording
honest = recording (checkpoint 0x10008 5 2) (end.Exited 5) (checkpoint 0x1000c 5 3)

-- with another a0 in the checkpoint
abbrev forged : Recording
forged = recording (checkpoint 0x10008 6 2) (end.Exited 5) (checkpoint 0x1000c 5 3)

-- with a checkpoint where the program has exited, and an end behind it
abbrev too_long : Recording
too_long = recording (checkpoint 0x1000c 5 3) end.Stopped (checkpoint 0x1000c 5 4)

-- ---- what the next instruction does in a replay

goes : (rec : Recording) (pc a0 a7 count : ℕ) (t : State) → step (at pc a0 a7 count Running) ≡ Stepped t → onward rec (at pc a0 a7 count Running) ≡ Goes t
unfolding onward
goes rec pc a0 a7 count t steps = rw steps refl

exits : (rec : Recording) (a0 : ℕ) → onward rec (at 0x10008 a0 93 2 Running) ≡ Goes (at 0x1000c a0 93 3 (Exited a0))
unfolding onward
exits rec a0 = rw (third a0) refl

-- ---- memory that is as it was, and no page listed

same_bytes : (address : ℕ) (bytes : List ℕ) → bytes_diff address bytes bytes ≡ None
same_bytes address [] = refl
same_bytes address (b ∷ bs) = rw (eq-eqb b b refl) (same_bytes (address + 1) bs)

same_page : (rec : Recording) (k number : ℕ) (page : Option (List ℕ)) → listed_to rec k ≡ [] → get memory number ≡ page → page_diff memory rec k number page ≡ None
same_page rec k number None none found = rw none refl
same_page rec k number (Some bytes) none found = rw (found, none) (same_bytes (number * 4096) bytes)

same_pages : (rec : Recording) (k : ℕ) (s : State) (numbers : List ℕ) → listed_to rec k ≡ [] → s.pages ≡ memory → pages_diff memory rec k s numbers ≡ None
same_pages rec k s [] none same = refl
same_pages rec k s (number ∷ numbers) none same = rw (same_page rec k number (get s.pages number) none (ap (λ (pages : Pages). get pages number) (sym same))) (same_pages rec k s numbers none same)

-- a checkpoint is compared by the parts that are no memory
compared : (rec : Recording) (k : ℕ) (middle : CheckpointData) (s : State) (diff : Option PartDiff) → listed_to rec k ≡ [] → s.pages ≡ memory → machine_diff middle s ≡ diff → checkpoint_diff memory rec k middle s ≡ diff
unfolding checkpoint_diff
compared rec k middle s None none same is = rw is (same_pages rec k s PAGE_NUMBERS none same)
compared rec k middle s (Some diff) none same is = rw is refl

-- ---- the recorded states

recorded : recorded_state honest opened 1 ≡ at 0x10008 5 93 2 Running
unfolding recorded_state_of put_all_listed map_pages
recorded = refl

recorded_forged : recorded_state forged opened 1 ≡ at 0x10008 6 93 2 Running
unfolding recorded_state_of put_all_listed map_pages
recorded_forged = refl

-- ---- epochs of this program

-- one instruction on, where no checkpoint in between differs
moves : (rec : Recording) (a b n : ℕ) (s t : State) → listed_break memory rec (a + 1) (between rec a b) s ≡ None → onward rec s ≡ Goes t → epoch_break_from memory rec a b s (suc n) ≡ epoch_break_from memory rec a b t n
unfolding epoch_break_from
moves rec a b n s t none goes =
    let follow : State → Option Break = λ u. epoch_break_from memory rec a b u n in
    ap (λ listed. listed_or s listed (break_after s follow (onward rec s))) none ∙ ap (break_after s follow) goes

-- two on from the opening state
two_on : (rec : Recording) (n : ℕ) → listed_break memory rec 1 (between rec 0 1) opened ≡ None → listed_break memory rec 1 (between rec 0 1) (at 0x10004 5 0 1 Running) ≡ None
    → epoch_break_from memory rec 0 1 opened (suc (suc n)) ≡ epoch_break_from memory rec 0 1 (at 0x10008 5 93 2 Running) n
two_on rec n none_here none_there =
    moves rec 0 1 (suc n) opened (at 0x10004 5 0 1 Running) none_here (goes rec 0x10000 0 0 0 (at 0x10004 5 0 1 Running) first)
    ∙ moves rec 0 1 n (at 0x10004 5 0 1 Running) (at 0x10008 5 93 2 Running) none_there (goes rec 0x10004 5 0 1 (at 0x10008 5 93 2 Running) second)

-- the checkpoint at count 2 does not differ, and the program that still runs there goes to the next epoch
no_break_before : epoch_break honest opened 0 1 ≡ None
unfolding epoch_break_from machine_diff
no_break_before = two_on honest 0 refl refl ∙ rw (compared honest 1 (checkpoint 0x10008 5 2) (at 0x10008 5 93 2 Running) None refl refl refl) refl

-- checkpoint b is compared: a0 differs
break_at_b : epoch_break forged opened 0 1 ≡ Some (record { count = 2; kind = CheckpointDiffers 1 10 0 6 5 })
unfolding epoch_break_from machine_diff
break_at_b = two_on forged 0 refl refl ∙ rw (compared forged 1 (checkpoint 0x10008 6 2) (at 0x10008 5 93 2 Running) _ refl refl refl) refl

no_break_behind : epoch_break honest opened 1 2 ≡ None
unfolding epoch_break_from machine_diff
no_break_behind = ap (λ (s : State). epoch_break_from memory honest 1 2 s 1) recorded ∙ moves honest 1 2 0 (at 0x10008 5 93 2 Running) (at 0x1000c 5 93 3 (Exited 5)) refl (exits honest 5) ∙ rw (compared honest 2 (checkpoint 0x1000c 5 3) (at 0x1000c 5 93 3 (Exited 5)) None refl refl refl) refl

-- checkpoint a is not compared: the epoch from a forged one is that state's own run, which exits with 6
own_run : epoch_break forged opened 1 2 ≡ Some (record { count = 3; kind = CheckpointDiffers 2 10 0 5 6 })
unfolding epoch_break_from machine_diff
own_run = ap (λ (s : State). epoch_break_from memory forged 1 2 s 1) recorded_forged ∙ moves forged 1 2 0 (at 0x10008 6 93 2 Running) (at 0x1000c 6 93 3 (Exited 6)) refl (exits forged 6) ∙ rw (compared forged 2 (checkpoint 0x1000c 5 3) (at 0x1000c 6 93 3 (Exited 6)) _ refl refl refl) refl

-- an exit at a checkpoint that is not the end's is an early end there
exit_at_b : epoch_break too_long opened 0 1 ≡ Some (record { count = 3; kind = EarlyEnd 4 })
unfolding epoch_break_from machine_diff
exit_at_b = two_on too_long 1 refl refl ∙ moves too_long 0 1 0 (at 0x10008 5 93 2 Running) (at 0x1000c 5 93 3 (Exited 5)) refl (exits too_long 5) ∙ rw (compared too_long 1 (checkpoint 0x1000c 5 3) (at 0x1000c 5 93 3 (Exited 5)) None refl refl refl) refl

-- a program that runs at such a checkpoint goes on in the next epoch, whatever its next instruction does
runs_at_b : (rec : Recording) (a : ℕ) (s : State) → s.status ≡ Running → (end_place rec ≡ 2) → checkpoint_diff memory rec 1 (checkpoint_at rec 1) s ≡ None → epoch_break_from memory rec a 1 s 0 ≡ None
unfolding epoch_break_from
runs_at_b rec a s runs two none = rw (none, two, runs) refl

-- and a trap at checkpoint a is found: nothing stands at 0x1000c
abbrev forged_pc : Recording
forged_pc = recording (checkpoint 0x1000c 5 2) end.Stopped (checkpoint 0x10010 5 3)

recorded_pc : recorded_state forged_pc opened 1 ≡ at 0x1000c 5 93 2 Running
unfolding recorded_state_of put_all_listed map_pages
recorded_pc = refl

traps : step (at 0x1000c 5 93 2 Running) ≡ Trapped 1
unfolding step load_at bytes_at byte_at
traps = rw is_there refl

stops : onward forged_pc (at 0x1000c 5 93 2 Running) ≡ Breaks (EarlyEnd 3)
unfolding onward
stops = rw traps refl

trap_at_a : epoch_break forged_pc opened 1 2 ≡ Some (record { count = 2; kind = EarlyEnd 3 })
unfolding epoch_break_from
trap_at_a =
    let follow : State → Option Break = λ u. epoch_break_from memory forged_pc 1 2 u 0 in
    let there : State = at 0x1000c 5 93 2 Running in
    ap (λ (s : State). epoch_break_from memory forged_pc 1 2 s 1) recorded_pc ∙ ap (break_after there follow) stops

-- ---- records, of a tracepoint at the ECALL, where the run is cut

abbrev tracers : Tracers
tracers s = emit_at 0x10008 10 s

leaves : (rec : Recording) (b n : ℕ) (s t : State) → onward rec s ≡ Goes t → epoch_records_from rec tracers b s (suc n) ≡ tracers s ++ epoch_records_from rec tracers b t n
unfolding epoch_records_from
leaves rec b n s t goes = ap (λ on. tracers s ++ records_after (λ u. epoch_records_from rec tracers b u n) on) goes

-- it does not fire in the epoch that ends there
none_fires : epoch_records honest opened tracers 0 1 ≡ []
unfolding epoch_records_from
none_fires =
    leaves honest 1 1 opened (at 0x10004 5 0 1 Running) (goes honest 0x10000 0 0 0 (at 0x10004 5 0 1 Running) first)
    ∙ leaves honest 1 0 (at 0x10004 5 0 1 Running) (at 0x10008 5 93 2 Running) (goes honest 0x10004 5 0 1 (at 0x10008 5 93 2 Running) second)

-- and it does in the one that begins there
abbrev at_the_call : Record
at_the_call = record { count = 2; point = 0; pc = 0x10008; words = 5 ∷ []; outcome = Done }

fires : epoch_records honest opened tracers 1 2 ≡ at_the_call ∷ []
unfolding epoch_records_from
fires =
    ap (λ (s : State). epoch_records_from honest tracers 2 s 1) recorded
    ∙ leaves honest 2 0 (at 0x10008 5 93 2 Running) (at 0x1000c 5 93 3 (Exited 5)) (exits honest 5)

-- at the end it fires where the end is a trap
abbrev trapped : Recording
trapped = recording (checkpoint 0x10004 5 1) (end.Trapped 7) (checkpoint 0x10008 5 2)

fires_at_trap : epoch_records_from trapped tracers 2 (at 0x10008 5 93 2 Running) 0 ≡ at_the_call ∷ []
unfolding epoch_records_from
fires_at_trap = refl

none_at_stop : epoch_records_from too_long tracers 2 (at 0x10008 5 93 2 Running) 0 ≡ []
unfolding epoch_records_from
none_at_stop = refl

-- ---- values

ran : epoch_value honest opened tracers 1 2 ≡ Ok (at_the_call ∷ [])
ran = ap₂ value_of fires no_break_behind

broke : epoch_value forged opened tracers 0 1 ≡ Err (record { count = 2; kind = CheckpointDiffers 1 10 0 6 5 })
broke = ap (value_of (epoch_records forged opened tracers 0 1)) break_at_b
