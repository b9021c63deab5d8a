-- What the command comes to that generates a program, records its run and traces it.
use Rattle.std.specs.Prelude.{◌≡◌, ℕ, List, [], ◌∷◌, codes, Option, Some, Result, Ok, ⊤}
use Rattle.rec_format.specs.declared.recording.Recording.{Recording}
use Rattle.tracer_lang.specs.Tree.{ScriptTree}
use Rattle.tracer_read.specs.Scripts.{script_of_text}
use Rattle.replay.specs.Opening.{opening}
use Rattle.analysers.specs.declared.kind.Kind.{Kind}
use Rattle.report.specs.declared.status.Refusal.{Refusal}
use Rattle.cli_words.specs.Orders.{Order, Gen}
use Rattle.workload.specs.Generated.{IsGenerated}
use Rattle.sledge_top.specs.Kinds.{kinds_of}
use Rattle.sledge_top.specs.Done.{Done, only_text}
use Rattle.sledge_top.specs.Recordings.{image_of}
use Rattle.sledge_top.specs.Replays.{report_of}
use Rattle.sledge_top.specs.Traces.{script_of, traced_with}
use Rattle.sledge_top.specs.Files.{◌>>=◌}

-- the tracer that runs on them: it emits each sum before it is stored
abbrev pub GENERATED_SCRIPT : List ℕ
GENERATED_SCRIPT = codes "(at (enter mark) (emit (reg 7)))"

-- the words of their analyses
abbrev pub generated_words : List (List ℕ)
generated_words = codes "count" ∷ codes "sum=0" ∷ codes "least=0" ∷ codes "greatest=0" ∷ []

-- a recording that is traced with them
unfoldable pub traced_recording : Recording → Result Done Refusal
traced_recording rec = do
  image ← image_of rec
  script ← script_of image GENERATED_SCRIPT
  traced_with rec image script generated_words

-- what a command comes to that generates a program: the report of its recording
pub record Generates (seed size : ℕ) (defined : Result Done Refusal) : Type 0 where
  pub rec : Recording
  pub generated : IsGenerated seed size rec
  pub script : ScriptTree
  pub read : script_of_text GENERATED_SCRIPT generated.image.symbols ≡ Ok script
  pub kinds : List Kind
  pub named : kinds_of generated_words ≡ Ok kinds
  pub reported :
      defined ≡ Ok (only_text (report_of rec script kinds (opening generated.image [])))

-- `gen SEED SIZE`
abbrev pub GeneratesTo : ℕ → ℕ → Result Done Refusal → Type 0
GeneratesTo seed size defined = Generates seed size defined

-- what holds of the command that generates a program, which alone needs no file
abbrev pub IfGen : Option Order → (ℕ → ℕ → Type 0) → Type 0
IfGen (Some (Gen seed size)) Holds = Holds seed size
IfGen other Holds = ⊤
