-- What the epochs of a plan come to.
use Rattle.std.specs.Prelude.{◌≡◌, ℕ, ◌+◌, List, map, Result, Ok, Err, slice_index, slice_index_or, All}
use Rattle.std.specs.List.{range_with_len}
use Rattle.std.proofs.Common.{refl}
use Rattle.std.proofs.lemmas.List.Elements.{All-map}
use Rattle.sl_model.specs.State.{State}
use Rattle.call_log.specs.declared.breaks.Break.{Break}
use Rattle.tracer_lang.specs.declared.record.Record.{Record}
use Rattle.analysers.specs.declared.kind.Kind.{Kind}
use Rattle.analysers.specs.Pieces.{parts_of}
use Rattle.tracer_lang.specs.Script.{tree_of}
use Rattle.tracer_lang.specs.Firing.{records_at}
use Rattle.rv_machine.specs.Machine.{state_of}
use Rattle.checkpoints.specs.RecordedRun.{opened_of}
use Rattle.undo_bank.specs.Areas.{IsMadeFrom}
use Rattle.epoch_core.specs.declared.post.PostValue.{PostValue}
use Rattle.epoch_core.specs.declared.post.PostValue.TheVariants.{Ran, Broke}
use Rattle.epoch_core.specs.Posts.{IsOwn, HasParts}
use Rattle.epoch_run.specs.declared.plan.Plan.{Plan}
use Rattle.epoch_run.specs.declared.worker.Worker.{Worker}
use Rattle.epoch_run.specs.Records.{Tracers}
use Rattle.epoch_run.specs.Epochs.{epoch_size}
use Rattle.epoch_run.specs.EpochLaws.{epochs_of, value_at}

-- what the tracers of a plan leave: those of its script
abbrev pub tracers_of : Plan → Tracers
tracers_of plan = records_at (tree_of plan.tracers.script)

-- the state that a worker's machine and memory are in
abbrev pub state_in : Worker → State
state_in worker = state_of worker.m worker.f.pages

-- a worker can run the tracers of a plan: its bank is made from their code
abbrev pub CanTrace : Plan → Worker → Type 0
CanTrace plan worker = IsMadeFrom plan.tracers.code.words worker.bank

-- tracers alone ran: machine and memory are as before, and the worker can run tracers again
pub record OnlyTraced (plan : Plan) (old new : Worker) : Type 0 where
  pub machine : new.m ≡ old.m
  pub memory : new.f ≡ old.f
  pub bank : CanTrace plan new

-- what epoch k of a plan comes to
unfoldable pub value_in : Plan → ℕ → Result (List Record) Break
value_in plan k =
    value_at plan.checkpoints.rec (opened_of plan.checkpoints) (tracers_of plan) plan.cutting k

-- how many instructions it has
abbrev pub size_in : Plan → ℕ → ℕ
size_in plan k =
    epoch_size plan.checkpoints.rec (slice_index plan.cutting k) (slice_index plan.cutting (k + 1))

-- what an epoch came to, as it is posted: records with the parts that they make for some analyses
abbrev pub posted : List Kind → Result (List Record) Break → PostValue
posted kinds (Ok records) = Ran records (parts_of kinds records)
posted kinds (Err broken) = Broke broken

-- the values of all epochs of a plan, in order
abbrev pub values_of : Plan → List PostValue
values_of plan =
    map (λ k. posted plan.kinds (value_in plan k)) (range_with_len 0 (epochs_of plan.cutting))

-- an epoch runs or breaks; it is never skipped
own : (kinds : List Kind) (value : Result (List Record) Break) → IsOwn (posted kinds value)
own kinds (Ok records) = tt
own kinds (Err broken) = tt

pub values_are_own : (plan : Plan) → All IsOwn (values_of plan)
values_are_own plan =
    let numbers : List ℕ = range_with_len 0 (epochs_of plan.cutting) in
    All-map IsOwn (λ k. posted plan.kinds (value_in plan k)) numbers
    (λ k d h. own plan.kinds (value_in plan (slice_index_or numbers k d)))

-- the parts of an epoch are those that its records make
have : (kinds : List Kind) (value : Result (List Record) Break)
    → HasParts kinds (posted kinds value)
have kinds (Ok records) = refl
have kinds (Err broken) = tt

pub values_have_parts : (plan : Plan) → All (HasParts plan.kinds) (values_of plan)
values_have_parts plan =
    let numbers : List ℕ = range_with_len 0 (epochs_of plan.cutting) in
    All-map (HasParts plan.kinds) (λ k. posted plan.kinds (value_in plan k)) numbers
    (λ k d h. have plan.kinds (value_in plan (slice_index_or numbers k d)))
