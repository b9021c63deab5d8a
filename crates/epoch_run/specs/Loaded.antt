-- What a plan keeps of its opening state, which has one proof at most.
use Rattle.std.specs.Prelude.{◌≡◌, ℕ, List, Option, Some, None}
use Rattle.std.specs.Coded.{Coded, Coded-set, code_by, coded×, coded_ℕ, coded_list, coded_option}
use Rattle.std.specs.FinMap as map
use Rattle.std.proofs.Common.{refl}
use Rattle.sl_model.specs.declared.run_state.RunState.{RunState}
use Rattle.sl_model.specs.declared.run_state.RunState.TheVariants.{Running, Exited}
use Rattle.sl_model.specs.declared.layout.Layout.{Layout}
use Rattle.sl_model.specs.Pages.{Pages}
use Rattle.sl_model.specs.State.{State}
use Rattle.elf_image.specs.declared.image.Image.{Image}
use Rattle.replay.specs.Opening.{opening}
use Rattle.checkpoints.specs.declared.kept.Checkpoints.{Checkpoints}
use Rattle.checkpoints.specs.RecordedRun.{opened_of}

-- a state is stored as the tuple of its fields

abbrev exit_code : RunState → Option ℕ
exit_code Running = None
exit_code (Exited code) = Some code

abbrev status_of : Option ℕ → RunState
status_of None = Running
status_of (Some code) = Exited code

status_of-exit_code : (status : RunState) → status_of (exit_code status) ≡ status
status_of-exit_code Running = refl
status_of-exit_code (Exited code) = refl

abbrev status_code : Coded RunState
status_code = code_by (Option ℕ) (coded_option coded_ℕ) exit_code status_of status_of-exit_code

abbrev Pair : Type 0
Pair = ℕ × ℕ

abbrev pair_code : Coded Pair
pair_code = coded× coded_ℕ coded_ℕ

abbrev memory_code : Coded (List ℕ × Pages)
memory_code = coded× (coded_list coded_ℕ) (map.code coded_ℕ (coded_list coded_ℕ))

abbrev Rest : Type 0
Rest = RunState × (Pair × (Pair × (Pair × ℕ)))

abbrev rest_code : Coded Rest
rest_code = coded× status_code (coded× pair_code (coded× pair_code (coded× pair_code coded_ℕ)))

abbrev bounds_of : Layout → Pair
bounds_of layout = (layout.brk_start, layout.heap_limit)

abbrev parts_of : State → (List ℕ × Pages) × Rest
parts_of s = (
  (s.x, s.pages),
  (s.status, ((s.pc, s.count), ((s.brk, s.brk_end), (bounds_of s.layout, s.next_call)))),
)

abbrev state_with : (List ℕ × Pages) × Rest → State
state_with p =
    record {
      pc = p.1.1.0.0;
      x = p.0.0;
      pages = p.0.1;
      brk = p.1.1.1.0.0;
      brk_end = p.1.1.1.0.1;
      next_call = p.1.1.1.1.1;
      status = p.1.0;
      count = p.1.1.0.1;
      layout = record { brk_start = p.1.1.1.1.0.0; heap_limit = p.1.1.1.1.0.1 };
    }

abbrev state_code : Coded State
state_code =
    code_by ((List ℕ × Pages) × Rest) (coded× memory_code rest_code) parts_of state_with (λ _. refl)

-- two states are equal in one way at most
pub state-set : (s t : State) → IsProp (s ≡ t)
state-set s t = Coded-set state_code s t

-- ---- the opening state of a plan

-- checkpoints open with the state that an image is loaded to, with the recorded arguments
abbrev pub IsLoaded : Image → Checkpoints → Type 0
IsLoaded image checkpoints = opened_of checkpoints ≡ opening image checkpoints.rec.args

pub IsLoaded-prop :
    (image : Image) (checkpoints : Checkpoints) → IsProp (IsLoaded image checkpoints)
IsLoaded-prop image checkpoints = state-set _ _
