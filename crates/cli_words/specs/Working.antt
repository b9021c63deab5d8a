-- How a trace is worked out, by so many workers and in so many epochs, apart from what is traced.
use Rattle.std.specs.Prelude.{◌≡◌, ℕ, Bool, List, [], ◌∷◌, codes, Option, Some, None, if◌then◌else◌}
use Rattle.std.specs.Option.{IsSome, option_map}
use Rattle.cli_words.specs.Parts.{Setting, parts_of}
use Rattle.cli_words.specs.Orders.{TraceOptions, Order, Trace, TraceAt, is_among, order_of}

-- the options that say how it is worked out
abbrev pub is_of_work : List ℕ → Bool
is_of_work name = is_among (codes "--workers" ∷ codes "--epochs" ∷ []) name

-- the other options
abbrev pub without_work : List Setting → List Setting
without_work [] = []
without_work (setting ∷ settings) =
    if is_of_work setting.name then without_work settings else setting ∷ without_work settings

-- all else that words say: the command, the plain words and the other options, in their order
abbrev pub but_for_work : List (List ℕ) → Option (List ℕ × List (List ℕ) × List Setting)
but_for_work [] = None
but_for_work (command ∷ words) =
    option_map (λ parts. (command, parts.plain, without_work parts.settings)) (parts_of words)

-- two lists of words are accepted, and differ in `--workers` and `--epochs` alone
pub record DifferInWork (first second : List (List ℕ)) : Type 0 where
  pub first_named : IsSome (order_of first)
  pub second_named : IsSome (order_of second)
  pub same : but_for_work first ≡ but_for_work second

-- a command as it is without these options
abbrev pub alone : TraceOptions → TraceOptions
alone options = record { workers = 1; epochs = None; analyses = options.analyses }

abbrev pub worked_alone : Order → Order
worked_alone (Trace recording script options) = Trace recording script (alone options)
worked_alone (TraceAt recording address options) = TraceAt recording address (alone options)
worked_alone other = other
