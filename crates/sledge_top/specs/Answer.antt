-- What a command comes to, from its words and the files: what it does, or why it is refused. What
-- the command that records comes to depends on the world too.
use Rattle.std.specs.Prelude.{◌≡◌, IsSomeAnd, Bool, true, false, ℕ, List, [], Option, Some, None, Result, Err}
use Rattle.outside.specs.Files.{Files}
use Rattle.outside.specs.World.{Heard, HearsAll}
use Rattle.report.specs.declared.status.Refusal.{Refusal}
use Rattle.report.specs.declared.status.Refusal.TheVariants as refusal
use Rattle.cli_words.specs.Orders.{Order, Trace, TraceAt, Replay, Check, Record, Recut, Asm, Show, Gen, order_of}
use Rattle.report.specs.declared.status.Status.{Status}
use Rattle.sledge_top.specs.Done.{Done}
use Rattle.sledge_top.specs.Endings.{Does, Answers}
use Rattle.sledge_top.specs.Traces.{trace_by, trace_at, replay, check}
use Rattle.sledge_top.specs.Show.{show}
use Rattle.sledge_top.specs.Assembling.{asm}
use Rattle.sledge_top.specs.Recutting.{recut}
use Rattle.sledge_top.specs.Recording.{RecordsTo}
use Rattle.sledge_top.specs.Generating.{GeneratesTo}

-- what a command comes to, but for those that record a run
abbrev pub outcome_of : Files → Order → Option (Result Done Refusal)
outcome_of files (Trace recording script options) =
    Some (trace_by files recording script options.analyses)
outcome_of files (TraceAt recording address options) =
    Some (trace_at files recording address options.analyses)
outcome_of files (Replay recording) = Some (replay files recording)
outcome_of files (Check recording) = Some (check files recording)
outcome_of files (Record image output options) = None
outcome_of files (Recut recording output every) = Some (recut files recording output every)
outcome_of files (Show image address lines flat) = Some (show files image address lines flat)
outcome_of files (Asm source output) = Some (asm files source output)
outcome_of files (Gen seed size) = None

-- words that name no command are refused
abbrev pub ordered : Files → Option Order → Option (Result Done Refusal)
ordered files None = Some (Err refusal.Usage)
ordered files (Some order) = outcome_of files order

-- What words and files come to; None exactly where a run is recorded: what `record` comes to depends
-- on the world, and `gen` gives the report of a recording.
abbrev pub outcome : List (List ℕ) → Files → Option (Result Done Refusal)
outcome words files = ordered files (order_of words)

-- the one command that asks the world
abbrev pub asks_world : Option Order → Bool
asks_world (Some (Record image output options)) = true
asks_world other = false

-- What a command comes to, over a world that may have been asked for these calls: every command but
-- those that record a run comes to its outcome, and the world is asked by the one that records a
-- program of the user's alone.
abbrev pub ComesTo :
    Files → Option Order → (List Heard → Type 0) → Result Done Refusal → Type 0
ComesTo files (Some (Record image output options)) heard defined =
    RecordsTo files image output options heard defined
ComesTo files (Some (Gen seed size)) heard defined = GeneratesTo seed size defined × heard []
ComesTo files named heard defined =
    IsSomeAnd (ordered files named) (λ due. defined ≡ due) × heard []

-- A command that records no run ends as its outcome, says it and leaves the files so.
abbrev pub OutcomeAnswers : {X : Type 0} → (X → Heard → X → Type 0) → List (List ℕ) → Type 0
OutcomeAnswers {X} hears words =
    (files : Files) (due : Result Done Refusal) (was now : X) (status : Status)
    (new : Option Files) (said says : Option (List ℕ))
    → outcome words files ≡ Some due
    → Answers (ComesTo files (order_of words) (HearsAll hears was now)) status files new said says
    → Does status files new said says due
