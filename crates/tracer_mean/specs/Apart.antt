-- What a tracer leaves depends on itself alone.
use Rattle.std.specs.Prelude.{◌≡◌, ℕ, slice_index_or}
use Rattle.sl_model.specs.State.{State}
use Rattle.tracer_lang.specs.Tree.{ScriptTree}
use Rattle.tracer_lang.specs.Meaning.{no_tracepoint, record_of}

-- Two scripts with the same budget, the same functions and one tracepoint in common leave the same
-- record for it at every state, whatever their other tracepoints do.
abbrev pub RecordsStandApart : Type 0
RecordsStandApart =
    (script other : ScriptTree) (point : ℕ) (s : State)
    → script.budget ≡ other.budget → script.functions ≡ other.functions
    → slice_index_or script.tracepoints point no_tracepoint
    ≡ slice_index_or other.tracepoints point no_tracepoint
    → record_of script point s ≡ record_of other point s
