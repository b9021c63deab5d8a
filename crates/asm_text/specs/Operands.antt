-- Operands, which commas set apart, and the forms that they have.
use Rattle.std.specs.Prelude.{ℕ, ◌-◌, ◌^◌, ◌==◌, Bool, List, [], ◌∷◌, length, take, map, slice_index, Option, Some, None, Result, Ok, Err, if◌then◌else◌}
use Rattle.std.specs.List.{slice_split, before_first, after_first}
use Rattle.std.specs.Option.{ok_or}
use Rattle.asm_text.specs.declared.fault.AsmCause.{AsmCause}
use Rattle.asm_text.specs.declared.fault.AsmCause.TheVariants.{Operand, Range}
use Rattle.asm_text.specs.declared.number.Number.{Number}
use Rattle.asm_text.specs.declared.operand.Target.{Target}
use Rattle.asm_text.specs.declared.operand.Target.TheVariants.{Offset, Label}
use Rattle.asm_text.specs.Bytes.{trimmed, is_name}
use Rattle.asm_text.specs.Numbers.{number_of, is_offset}
use Rattle.asm_text.specs.Names.{register_named}

-- a value goes on to what is made of it, and a cause stays
abbrev pub and_then : {A B : Type 0}
    → Result A AsmCause → (A → Result B AsmCause) → Result B AsmCause
and_then (Ok x) next = next x
and_then (Err cause) next = Err cause

abbrev pub is_comma : ℕ → Bool
is_comma b = b == 44

-- the operands, each less the blanks round it
unfoldable pub pieces : List ℕ → List (List ℕ)
pieces text = map trimmed (slice_split is_comma text)

-- ---- so many operands

abbrev pub one : List (List ℕ) → Result (List ℕ) AsmCause
one (a ∷ []) = Ok a
one other = Err Operand

abbrev pub two : List (List ℕ) → Result (List ℕ × List ℕ) AsmCause
two (a ∷ b ∷ []) = Ok (a, b)
two other = Err Operand

abbrev pub three : List (List ℕ) → Result (List ℕ × List ℕ × List ℕ) AsmCause
three (a ∷ b ∷ c ∷ []) = Ok (a, b, c)
three other = Err Operand

-- the last operand
abbrev pub last_of : List (List ℕ) → List ℕ
last_of [] = []
last_of (a ∷ []) = a
last_of (a ∷ b ∷ more) = last_of (b ∷ more)

-- ---- the forms of one operand

abbrev pub register : List ℕ → Result ℕ AsmCause
register piece = ok_or (register_named piece) Operand

abbrev pub number : List ℕ → Result Number AsmCause
number piece = ok_or (number_of piece) Operand

-- a name that is to be a label's
abbrev pub label : List ℕ → Result Target AsmCause
label piece = if is_name piece then Ok Label else Err Operand

-- a number as an offset of a jump that reaches so far
abbrev pub offset : ℕ → Number → Result Target AsmCause
offset reach n = if is_offset reach n then Ok (Offset n) else Err Range

-- an offset, or a label
abbrev pub target_from : ℕ → Option Number → List ℕ → Result Target AsmCause
target_from reach (Some n) piece = offset reach n
target_from reach None piece = label piece

abbrev pub target : ℕ → List ℕ → Result Target AsmCause
target reach piece = target_from reach (number_of piece) piece

-- a number, and a register in parentheses
abbrev pub in_parentheses : List ℕ → Result ℕ AsmCause
in_parentheses text =
    if slice_index text (length text - 1) == 41
    then register (trimmed (take (length text - 1) text))
    else Err Operand

abbrev pub opens : ℕ → Bool
opens b = b == 40

abbrev pub address : List ℕ → Result (Number × ℕ) AsmCause
address piece =
    and_then (number (trimmed (before_first opens piece))) (λ n.
    and_then (in_parentheses (after_first opens piece)) (λ base. Ok (n, base)))

-- ---- the forms of all operands

abbrev pub two_registers : List ℕ → Result (ℕ × ℕ) AsmCause
two_registers text =
    and_then (two (pieces text)) (λ p.
    and_then (register p.0) (λ a. and_then (register p.1) (λ b. Ok (a, b))))

abbrev pub three_registers : List ℕ → Result (ℕ × ℕ × ℕ) AsmCause
three_registers text =
    and_then (three (pieces text)) (λ p.
    and_then (register p.0) (λ a.
    and_then (register p.1) (λ b.
    and_then (register p.2) (λ c. Ok (a, b, c)))))

abbrev pub register_and_number : List ℕ → Result (ℕ × Number) AsmCause
register_and_number text =
    and_then (two (pieces text)) (λ p.
    and_then (register p.0) (λ a. and_then (number p.1) (λ n. Ok (a, n))))

abbrev pub registers_and_number : List ℕ → Result (ℕ × ℕ × Number) AsmCause
registers_and_number text =
    and_then (three (pieces text)) (λ p.
    and_then (register p.0) (λ a.
    and_then (register p.1) (λ b.
    and_then (number p.2) (λ n. Ok (a, b, n)))))

abbrev pub register_and_address : List ℕ → Result (ℕ × Number × ℕ) AsmCause
register_and_address text =
    and_then (two (pieces text)) (λ p.
    and_then (register p.0) (λ a. and_then (address p.1) (λ at. Ok (a, at.0, at.1))))

abbrev pub register_and_target : ℕ → List ℕ → Result (ℕ × Target) AsmCause
register_and_target reach text =
    and_then (two (pieces text)) (λ p.
    and_then (register p.0) (λ a. and_then (target reach p.1) (λ to. Ok (a, to))))

abbrev pub registers_and_target : ℕ → List ℕ → Result (ℕ × ℕ × Target) AsmCause
registers_and_target reach text =
    and_then (three (pieces text)) (λ p.
    and_then (register p.0) (λ a.
    and_then (register p.1) (λ b.
    and_then (target reach p.2) (λ to. Ok (a, b, to)))))

abbrev pub register_and_label : List ℕ → Result (ℕ × Target) AsmCause
register_and_label text =
    and_then (two (pieces text)) (λ p.
    and_then (register p.0) (λ a. and_then (label p.1) (λ to. Ok (a, to))))
