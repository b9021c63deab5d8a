-- What the epochs of a run come to together.
use Rattle.std.specs.Prelude.{◌≡◌, ◌≢◌, ℕ, ◌<◌, List, [], ◌∷◌, Option, Some, None, Result, Ok, Err, slice_get}
use Rattle.std.specs.List.{filter_map, flat_map}
use Rattle.call_log.specs.declared.breaks.Break.{Break}
use Rattle.tracer_lang.specs.declared.record.Record.{Record}
use Rattle.analysers.specs.declared.kind.Kind.{Kind}
use Rattle.analysers.specs.declared.merged.Merged.{Merged}
use Rattle.analysers.specs.Pieces.{merged_of}
use Rattle.epoch_core.specs.declared.post.PostValue.{PostValue}
use Rattle.epoch_core.specs.declared.post.PostValue.TheVariants.{Ran, Broke, Skipped}

-- the records of an epoch that ran
abbrev pub records_in : PostValue → List Record
records_in (Ran records parts) = records
records_in (Broke first) = []
records_in (Skipped below) = []

-- the break of an epoch that broke
abbrev pub break_in : PostValue → Option Break
break_in (Ran records parts) = None
break_in (Broke first) = Some first
break_in (Skipped below) = None

-- this, where there is no break, and else the first of the breaks
abbrev pub unless_broken : {X : Type 0} → List Break → X → Result X Break
unless_broken [] whole = Ok whole
unless_broken (first ∷ later) whole = Err first

-- what the analyses give of the records of all epochs in order, where none broke, and else the
-- break of the first that did
unfoldable pub merged : List Kind → List PostValue → Result Merged Break
merged kinds values =
    unless_broken (filter_map break_in values) (merged_of kinds (flat_map records_in values))

-- ---- what it means

-- epoch k broke so, and none before it broke
pub record BreaksFirstAt (values : List PostValue) (k : ℕ) (first : Break) : Type 0 where
  pub broke : slice_get values k ≡ Some (Broke first)
  pub least : (j : ℕ) (earlier : Break) → j < k → slice_get values j ≢ Some (Broke earlier)

-- no epoch broke
abbrev pub NoneBroke : List PostValue → Type 0
NoneBroke values = (k : ℕ) (first : Break) → slice_get values k ≢ Some (Broke first)
