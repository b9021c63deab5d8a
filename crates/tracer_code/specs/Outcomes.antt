-- How the end of a run tells an outcome.
use Rattle.std.specs.Prelude.{◌≡◌, ℕ, ◌==◌, if◌then◌else◌}
use Rattle.sl_model.specs.State.{State, register}
use Rattle.tracer_lang.specs.declared.record.TracerEnd.{TracerEnd}
use Rattle.tracer_lang.specs.declared.record.TracerEnd.TheVariants.{Done, OverBudget, TooDeep, LoadFault, StoreFault, TooManyStores, TooManyWords, Barred, User}
use Rattle.tracer_code.specs.declared.outcomes.TheConstants as number

-- the number of an outcome
abbrev pub end_number : TracerEnd → ℕ
end_number Done = number.DONE
end_number OverBudget = number.OVER_BUDGET
end_number TooDeep = number.TOO_DEEP
end_number (LoadFault address) = number.LOAD_FAULT
end_number (StoreFault address) = number.STORE_FAULT
end_number TooManyStores = number.TOO_MANY_STORES
end_number TooManyWords = number.TOO_MANY_WORDS
end_number (Barred code) = number.BARRED
end_number (User value) = number.USER

-- the value of an outcome, 0 where it has none
abbrev pub end_value : TracerEnd → ℕ
end_value Done = 0
end_value OverBudget = 0
end_value TooDeep = 0
end_value (LoadFault address) = address
end_value (StoreFault address) = address
end_value TooManyStores = 0
end_value TooManyWords = 0
end_value (Barred code) = code
end_value (User value) = value

-- the outcome that a number and a value tell
abbrev pub outcome_of : ℕ → ℕ → TracerEnd
outcome_of n value =
    if n == number.DONE then Done
    else if n == number.OVER_BUDGET then OverBudget
    else if n == number.TOO_DEEP then TooDeep
    else if n == number.LOAD_FAULT then LoadFault value
    else if n == number.STORE_FAULT then StoreFault value
    else if n == number.TOO_MANY_STORES then TooManyStores
    else if n == number.TOO_MANY_WORDS then TooManyWords
    else if n == number.BARRED then Barred value
    else User value

-- x10 holds the number of an outcome, and x11 its value
pub record TellsEnd (s : State) (end : TracerEnd) : Type 0 where
  pub number_told : register s 10 ≡ end_number end
  pub value_told : register s 11 ≡ end_value end
