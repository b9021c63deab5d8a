-- The commands: a row for each form of a command, with its plain words, its options, their ranges
-- and their defaults.
use Rattle.std.specs.Prelude.{◌≡◌, ◌≤◌, ⊤, IfSome, ℕ, ◌+◌, ◌-◌, ◌^◌, ◌==◌, ◌&&◌, not, Bool, true, nat_le, List, [], ◌∷◌, length, map, sum, codes, Option, Some, None, if◌then◌else◌}
use Rattle.std.specs.List.{list_any, list_all}
use Rattle.std.specs.Str.{bytes_eq}
use Rattle.std.specs.Option.{option_map, option_and_then}
use Rattle.cli_words.specs.Parts.{Setting, Parts, parts_of}
use Rattle.cli_words.specs.Numbers.{hex_value, number}

-- how a trace is made
pub record TraceOptions : Type 0 where
  pub workers : ℕ
  -- at most so many epochs, or one for each interval between checkpoints
  pub epochs : Option ℕ
  -- the words of the analyses
  pub analyses : List (List ℕ)

-- how a recording is made
pub record RecordOptions : Type 0 where
  -- where the bytes of a flat image go; None for an ELF file
  pub flat : Option ℕ
  -- the most instructions
  pub limit : ℕ
  -- the distance between checkpoints, in instructions
  pub every : ℕ
  pub arguments : List (List ℕ)

-- a command, as its words name it
pub data Order : Type 0 where
  Trace : (recording script : List ℕ) (options : TraceOptions) → Order
  -- with register a0 recorded wherever pc is at the address
  TraceAt : (recording : List ℕ) (address : ℕ) (options : TraceOptions) → Order
  Replay : (recording : List ℕ) → Order
  Check : (recording : List ℕ) → Order
  Record : (image output : List ℕ) (options : RecordOptions) → Order
  Recut : (recording output : List ℕ) (every : ℕ) → Order
  Asm : (source output : List ℕ) → Order
  Show : (image : List ℕ) (address lines : ℕ) (flat : Option ℕ) → Order
  Gen : (seed size : ℕ) → Order

infixl 10 ◌>>=◌
abbrev pub ◌>>=◌ : {A B : Type 0} → Option A → (A → Option B) → Option B
None >>= f = None
(Some x) >>= f = f x

-- ---- plain words

abbrev pub one : List (List ℕ) → Option (List ℕ)
one (a ∷ []) = Some a
one words = None

abbrev pub two : List (List ℕ) → Option (List ℕ × List ℕ)
two (a ∷ b ∷ []) = Some (a, b)
two words = None

abbrev pub three : List (List ℕ) → Option (List ℕ × List ℕ × List ℕ)
three (a ∷ b ∷ c ∷ []) = Some (a, b, c)
three words = None

-- ---- options

-- the value of the option of this name
abbrev pub value_of : List ℕ → List Setting → Option (List ℕ)
value_of name [] = None
value_of name (setting ∷ settings) =
    if bytes_eq setting.name name then Some setting.value else value_of name settings

-- the values of the options of this name
abbrev pub values_of : List ℕ → List Setting → List (List ℕ)
values_of name [] = []
values_of name (setting ∷ settings) =
    if bytes_eq setting.name name then setting.value ∷ values_of name settings
    else values_of name settings

-- each option has one of these names
abbrev pub is_among : List (List ℕ) → List ℕ → Bool
is_among names name = list_any (λ other. bytes_eq name other) names

abbrev pub are_among : List (List ℕ) → List Setting → Bool
are_among names settings = list_all (λ setting. is_among names setting.name) settings

-- an option that may be left out
abbrev pub optional : (List ℕ → Option ℕ) → Option (List ℕ) → Option (Option ℕ)
optional read None = Some None
optional read (Some word) = option_map Some (read word)

-- and one that stands for a number where it is left out
abbrev pub with_default : ℕ → (List ℕ → Option ℕ) → Option (List ℕ) → Option ℕ
with_default default read None = Some default
with_default default read (Some word) = read word

-- at most so many values
abbrev pub at_most : ℕ → List (List ℕ) → Option (List (List ℕ))
at_most most values = if nat_le (length values) most then Some values else None

-- `all`, where no analysis is named
abbrev pub or_all : List (List ℕ) → List (List ℕ)
or_all [] = codes "all" ∷ []
or_all (kind ∷ kinds) = kind ∷ kinds

abbrev pub analyses_of : List Setting → Option (List (List ℕ))
analyses_of settings = option_map or_all (at_most 32 (values_of (codes "--analyse") settings))

abbrev pub trace_options : List Setting → Option TraceOptions
trace_options settings = do
  workers ← with_default 1 (number 1 16) (value_of (codes "--workers") settings)
  epochs ← optional (number 1 4096) (value_of (codes "--epochs") settings)
  analyses ← analyses_of settings
  Some (record { workers = workers; epochs = epochs; analyses = analyses })

-- a number of instructions
abbrev pub INSTRUCTIONS : ℕ
INSTRUCTIONS = 2 ^ 40

abbrev pub every_of : List Setting → Option ℕ
every_of settings =
    with_default 1000000 (number 1 INSTRUCTIONS) (value_of (codes "--every") settings)

abbrev pub flat_of : List Setting → Option (Option ℕ)
flat_of settings = optional hex_value (value_of (codes "--flat") settings)

-- the arguments of a program: none holds a zero byte, and with a zero byte behind each they have at
-- most 65,536 bytes
abbrev pub has_no_zero : List ℕ → Bool
has_no_zero argument = list_all (λ c. not (c == 0)) argument

abbrev pub fit : List (List ℕ) → Bool
fit arguments =
    list_all has_no_zero arguments
    && nat_le (sum (map (λ argument. length argument + 1) arguments)) 65536

abbrev pub where_fit : List (List ℕ) → Option (List (List ℕ))
where_fit arguments = if fit arguments then Some arguments else None

abbrev pub arguments_of : List Setting → Option (List (List ℕ))
arguments_of settings = option_and_then where_fit (at_most 64 (values_of (codes "--arg") settings))

abbrev pub record_options : List Setting → Option RecordOptions
record_options settings = do
  flat ← flat_of settings
  limit ← with_default 1000000000 (number 1 INSTRUCTIONS) (value_of (codes "--limit") settings)
  every ← every_of settings
  arguments ← arguments_of settings
  Some (record { flat = flat; limit = limit; every = every; arguments = arguments })

-- ---- the rows

-- `trace RECORDING SCRIPT`, where the script is not named `at`
abbrev pub trace : List (List ℕ) → List Setting → Option Order
trace plain settings = do
  words ← two plain
  options ← trace_options settings
  if bytes_eq words.1 (codes "at") then None else Some (Trace words.0 words.1 options)

-- `trace RECORDING at HEX`
abbrev pub trace_at : List (List ℕ) → List Setting → Option Order
trace_at plain settings = do
  words ← three plain
  address ← hex_value words.2
  options ← trace_options settings
  if bytes_eq words.1 (codes "at") then Some (TraceAt words.0 address options) else None

-- `replay RECORDING`
abbrev pub replay : List (List ℕ) → Option Order
replay plain = option_map Replay (one plain)

-- `check RECORDING`
abbrev pub check : List (List ℕ) → Option Order
check plain = option_map Check (one plain)

-- `record IMAGE OUTPUT`
abbrev pub record_image : List (List ℕ) → List Setting → Option Order
record_image plain settings = do
  words ← two plain
  options ← record_options settings
  Some (Record words.0 words.1 options)

-- `recut RECORDING OUTPUT`
abbrev pub recut : List (List ℕ) → List Setting → Option Order
recut plain settings = do
  words ← two plain
  every ← every_of settings
  Some (Recut words.0 words.1 every)

-- `asm SOURCE OUTPUT`
abbrev pub asm : List (List ℕ) → Option Order
asm plain = option_map (λ words. Asm words.0 words.1) (two plain)

-- `show IMAGE HEX N`
abbrev pub show : List (List ℕ) → List Setting → Option Order
show plain settings = do
  words ← three plain
  address ← hex_value words.1
  lines ← number 1 4096 words.2
  flat ← flat_of settings
  Some (Show words.0 address lines flat)

-- `gen SEED SIZE`
abbrev pub gen : List (List ℕ) → Option Order
gen plain = do
  words ← two plain
  seed ← number 0 (2 ^ 32 - 1) words.0
  size ← number 1 1000000 words.1
  Some (Gen seed size)

-- the options that a command takes are the only ones
abbrev pub takes : List ℕ → List Setting → Bool
takes command settings =
    if bytes_eq command (codes "trace")
    then are_among (codes "--workers" ∷ codes "--epochs" ∷ codes "--analyse" ∷ []) settings
    else if bytes_eq command (codes "record")
    then are_among (codes "--flat" ∷ codes "--limit" ∷ codes "--every" ∷ codes "--arg" ∷ [])
    settings
    else if bytes_eq command (codes "recut") then are_among (codes "--every" ∷ []) settings
    else if bytes_eq command (codes "show") then are_among (codes "--flat" ∷ []) settings
    else are_among [] settings

-- the row of the command of this name
abbrev pub row_of : List ℕ → List (List ℕ) → List Setting → Option Order
row_of command plain settings =
    if bytes_eq command (codes "trace")
    then (if length plain == 2 then trace plain settings else trace_at plain settings)
    else if bytes_eq command (codes "replay") then replay plain
    else if bytes_eq command (codes "check") then check plain
    else if bytes_eq command (codes "record") then record_image plain settings
    else if bytes_eq command (codes "recut") then recut plain settings
    else if bytes_eq command (codes "asm") then asm plain
    else if bytes_eq command (codes "show") then show plain settings
    else if bytes_eq command (codes "gen") then gen plain
    else None

abbrev pub order_from : List ℕ → Parts → Option Order
order_from command parts =
    if takes command parts.settings then row_of command parts.plain parts.settings else None

-- the command that the words name, or None where they are in no row: the first word names it
abbrev pub order_of : List (List ℕ) → Option Order
order_of [] = None
order_of (command ∷ words) = option_and_then (order_from command) (parts_of words)

-- ---- what is known of the numbers of a command

abbrev pub FitsTrace : TraceOptions → Type 0
FitsTrace options =
    (1 ≤ options.workers)
    × (options.workers ≤ 16)
    × IfSome options.epochs (λ n. (1 ≤ n) × (n ≤ 4096))

abbrev pub IsDistance : ℕ → Type 0
IsDistance n = (1 ≤ n) × (n ≤ INSTRUCTIONS)

abbrev pub FitsRecord : RecordOptions → Type 0
FitsRecord options =
    IsDistance options.limit
    × IsDistance options.every
    × (length options.arguments ≤ 64)
    × (fit options.arguments ≡ true)

abbrev pub Fits : Order → Type 0
Fits (Trace recording script options) = FitsTrace options
Fits (TraceAt recording address options) = FitsTrace options
Fits (Replay recording) = ⊤
Fits (Check recording) = ⊤
Fits (Record image output options) = FitsRecord options
Fits (Recut recording output every) = IsDistance every
Fits (Asm source output) = ⊤
Fits (Show image address lines flat) = (1 ≤ lines) × (lines ≤ 4096)
Fits (Gen seed size) = (1 ≤ size) × (size ≤ 1000000)
