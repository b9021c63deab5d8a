-- Epochs whose values are listed by hand, for tests.
use Rattle.std.specs.Prelude.{ℕ, List, [], ◌∷◌, map, All, Option, Some, None, Result, Ok, Err, slice_index_or}
use Rattle.call_log.specs.declared.breaks.Break.{Break}
use Rattle.tracer_lang.specs.declared.record.Record.{Record}
use Rattle.tracer_lang.specs.declared.record.TracerEnd.TheVariants.{Done}
use Rattle.std.proofs.lemmas.List.Elements.{All-map}
use Rattle.epoch_core.specs.declared.post.PostValue.{PostValue}
use Rattle.epoch_core.specs.declared.post.PostValue.TheVariants.{Ran, Broke}
use Rattle.epoch_core.specs.Posts.{IsOwn}

-- the record of a tracepoint at 0x10008, before the third instruction
abbrev pub record_of : ℕ → Record
record_of word = record { count = 2; point = 0; pc = 0x10008; words = word ∷ []; outcome = Done }

-- a listed epoch breaks, or leaves no record or one that emits a word
abbrev pub value_of : Result (Option ℕ) Break → PostValue
value_of (Ok None) = Ran [] []
value_of (Ok (Some word)) = Ran (record_of word ∷ []) []
value_of (Err first) = Broke first

own : (listed : Result (Option ℕ) Break) → IsOwn (value_of listed)
own (Ok None) = tt
own (Ok (Some word)) = tt
own (Err first) = tt

pub values_are_own : (listed : List (Result (Option ℕ) Break)) → All IsOwn (map value_of listed)
values_are_own listed = All-map IsOwn value_of listed (λ k d h. own (slice_index_or listed k d))
