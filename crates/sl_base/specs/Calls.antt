-- System calls by their numbers and arguments, and the results that say errors.
use Rattle.std.specs.Prelude.{◌≡◌, ℕ, ◌-◌, ◌^◌, ◌⊎◌, Bool, nat_le, ◌==◌, slice_index}
use Rattle.sl_base.specs.declared.call.Call.{Call}

-- the numbers of the calls that the outside answers
abbrev pub read_number : ℕ
read_number = 63

abbrev pub write_number : ℕ
write_number = 64

abbrev pub getrandom_number : ℕ
getrandom_number = 278

-- register a0
abbrev pub first_argument : Call → ℕ
first_argument call = slice_index call.args 0

-- a call that the outside answers
abbrev pub IsAsked : Call → Type 0
IsAsked call =
    (call.number ≡ read_number) ⊎ (call.number ≡ write_number) ⊎ (call.number ≡ getrandom_number)

-- the result that says error number n: -n in 32 bits
abbrev pub error_result : ℕ → ℕ
error_result n = 2 ^ 32 - n

-- does a result say an error, of which the numbers go up to 4095
abbrev pub is_error : ℕ → Bool
is_error result = nat_le (error_result 4095) result

abbrev pub is_write : Call → Bool
is_write call = call.number == write_number
