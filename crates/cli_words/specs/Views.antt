-- The words of the code, as those of the definitions.
use Rattle.std.specs.Prelude.{◌≡◌, ℕ, List, ◌∷◌, ◌++◌, String, Option, Some, None, Result, Ok, Err, map, string_bytes, ⊤}
use Rattle.std.specs.Borrow.{Bor}
use Rattle.std.specs.Option.{option_map}
use Rattle.sl_base.specs.declared.refused.Refused.{Refused}
use Rattle.sl_base.specs.declared.refused.Refused.TheVariants.{Fault, Memory}
use Rattle.cli_words.specs.declared.usage.Usage.{Usage}
use Rattle.cli_words.specs.declared.parts.Setting.{Setting as GivenSetting}
use Rattle.cli_words.specs.declared.parts.Parts.{Parts as GivenParts}
use Rattle.cli_words.specs.declared.parts.Next.{Next as GivenNext}
use Rattle.cli_words.specs.declared.parts.Next.TheVariants as given
use Rattle.cli_words.specs.declared.orders.TraceOptions.{TraceOptions as GivenTraceOptions}
use Rattle.cli_words.specs.declared.orders.RecordOptions.{RecordOptions as GivenRecordOptions}
use Rattle.cli_words.specs.declared.orders.Order.{Order as GivenOrder}
use Rattle.cli_words.specs.declared.orders.Order.TheVariants as given_order
use Rattle.cli_words.specs.Orders.{TraceOptions, RecordOptions, Order, Trace, TraceAt, Replay, Check, Record, Recut, Asm, Show, Gen}
use Rattle.cli_words.specs.Parts.{Setting, Parts, Next, Any, ValueOf, PlainOnly, parts_from}

-- the bytes of each word
abbrev pub texts : {A : Type 0} → List (String A) → List (List ℕ)
texts words = map string_bytes words

abbrev pub words_view : List (Bor (List ℕ)) → List (List ℕ)
words_view words = map (λ word. word.now) words

abbrev pub setting_view : GivenSetting → Setting
setting_view setting = record { name = setting.name.now; value = setting.value.now }

abbrev pub settings_view : List GivenSetting → List Setting
settings_view settings = map setting_view settings

abbrev pub parts_view : GivenParts → Parts
parts_view parts =
    record { plain = words_view parts.plain.items; settings = settings_view parts.settings.items }

abbrev pub next_view : GivenNext → Next
next_view given.Any = Any
next_view (given.ValueOf name) = ValueOf name.now
next_view given.PlainOnly = PlainOnly

abbrev pub trace_view : GivenTraceOptions → TraceOptions
trace_view options = record {
  workers = options.workers;
  epochs = options.epochs;
  analyses = words_view options.analyses.items;
}

abbrev pub record_view : GivenRecordOptions → RecordOptions
record_view options = record {
  flat = options.flat;
  limit = options.limit;
  every = options.every;
  arguments = words_view options.arguments.items;
}

abbrev pub order_view : GivenOrder → Order
order_view (given_order.Trace recording script options) =
    Trace recording.now script.now (trace_view options)
order_view (given_order.TraceAt recording address options) =
    TraceAt recording.now address (trace_view options)
order_view (given_order.Replay recording) = Replay recording.now
order_view (given_order.Check recording) = Check recording.now
order_view (given_order.Record image output options) =
    Record image.now output.now (record_view options)
order_view (given_order.Recut recording output every) = Recut recording.now output.now every
order_view (given_order.Asm source output) = Asm source.now output.now
order_view (given_order.Show image address lines flat) = Show image.now address lines flat
order_view (given_order.Gen seed size) = Gen seed size

-- what a function returned, seen by view, is what the definition gives; memory alone may be wanting
abbrev pub Gives : {X A : Type 0} → (X → A) → Result X (Refused Usage) → Option A → Type 0
Gives view (Ok x) defined = defined ≡ Some (view x)
Gives view (Err (Fault usage)) defined = defined ≡ None
Gives view (Err Memory) defined = ⊤

-- the parts of words, and of the words after them
abbrev pub joined : Parts → Parts → Parts
joined front back =
    record { plain = front.plain ++ back.plain; settings = front.settings ++ back.settings }

abbrev pub all_parts : Parts → Next → List (List ℕ) → Option Parts
all_parts front next words = option_map (joined front) (parts_from next words)

-- one word was read: whatever words follow, the parts of all are those that were read and those
-- that follow
abbrev pub Reads : Parts → Next → List ℕ → Result GivenNext (Refused Usage) → Parts → Type 0
Reads old next word (Ok then) new =
    (words : List (List ℕ))
    → all_parts old next (word ∷ words) ≡ all_parts new (next_view then) words
Reads old next word (Err (Fault usage)) new =
    (words : List (List ℕ)) → parts_from next (word ∷ words) ≡ None
Reads old next word (Err Memory) new = ⊤
