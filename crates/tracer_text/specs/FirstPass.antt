-- The first fault of a text's form: its bytes, its parentheses and its size.
use Rattle.std.specs.Prelude.{ℕ, ◌+◌, ◌-◌, ◌==◌, ◌&&◌, ◌||◌, not, nat_lt, Bool, List, [], ◌∷◌, length, take, slice_index, Option, Some, None, Result, Ok, Err, if◌then◌else◌}
use Rattle.tracer_text.specs.declared.fault.ScriptCause.{ScriptCause}
use Rattle.tracer_text.specs.declared.fault.ScriptCause.TheVariants.{Byte, Paren, TooLarge, TooDeep}
use Rattle.tracer_text.specs.declared.fault.ScriptFault.{ScriptFault}
use Rattle.tracer_text.specs.declared.token.Token.{Token}
use Rattle.tracer_text.specs.Tokens.{is_run_byte, tokens_of}

-- a script has at most so many bytes and nodes, and at most so many lists are open at one place
abbrev pub most_bytes : ℕ
most_bytes = 65536

abbrev pub most_nodes : ℕ
most_nodes = 4096

abbrev pub most_depth : ℕ
most_depth = 64

-- a byte that is no parenthesis and belongs to no name or number
abbrev pub is_stray : ℕ → Bool
is_stray b = not (is_run_byte b || b == 40 || b == 41)

-- The rule that a token breaks which begins with a byte at a place, behind so many nodes and with
-- so many lists open: the first of these.
abbrev pub cause_at : ℕ → ℕ → ℕ → ℕ → Option ScriptCause
cause_at place b nodes depth =
    if is_stray b then Some Byte
    else if b == 41 && depth == 0 then Some Paren
    else if place == most_bytes || not (b == 41) && nodes == most_nodes then Some TooLarge
    else if b == 40 && depth == most_depth then Some TooDeep
    else None

-- every token but a closing parenthesis begins a node
abbrev pub nodes_after : ℕ → ℕ → ℕ
nodes_after b nodes = if b == 41 then nodes else nodes + 1

abbrev pub depth_after : ℕ → ℕ → ℕ
depth_after b depth = if b == 40 then depth + 1 else if b == 41 then depth - 1 else depth

abbrev pub fault : ℕ → ScriptCause → ScriptFault
fault place cause = record { place = place; cause = cause }

-- the fault at the end of a text of so many bytes with so many lists open
abbrev pub fault_at_end : ℕ → ℕ → Option ScriptFault
fault_at_end len depth =
    if nat_lt most_bytes len then Some (fault most_bytes TooLarge)
    else if depth == 0 then None
    else Some (fault len Paren)

-- the first fault, which is a token's or comes later
abbrev pub first_of : ℕ → Option ScriptCause → Option ScriptFault → Option ScriptFault
first_of place (Some cause) later = Some (fault place cause)
first_of place None later = later

-- the first fault of these tokens, behind so many nodes and with so many lists open
abbrev pub fault_from : List ℕ → ℕ → ℕ → List Token → Option ScriptFault
fault_from text nodes depth [] = fault_at_end (length text) depth
fault_from text nodes depth (token ∷ tokens) =
    let b = slice_index text token.place in
    first_of token.place (cause_at token.place b nodes depth)
    (fault_from text (nodes_after b nodes) (depth_after b depth) tokens)

-- of a text no more is read than one byte too many
abbrev pub read_part : List ℕ → List ℕ
read_part text = take (most_bytes + 1) text

-- the first fault of the tokens of what is read
abbrev pub fault_of : List ℕ → Option ScriptFault
fault_of text = fault_from text 0 0 (tokens_of text)

-- the tokens, unless there is a fault
abbrev pub unless : {X : Type 0} → Option ScriptFault → X → Result X ScriptFault
unless None x = Ok x
unless (Some first) x = Err first

-- the tokens of a text, or its first fault
abbrev pub first_pass : List ℕ → Result (List Token) ScriptFault
first_pass text = unless (fault_of (read_part text)) (tokens_of (read_part text))
