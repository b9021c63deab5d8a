-- The registers that compiled code uses.
use Rattle.std.specs.Prelude.{ℕ}
use Rattle.tracer_compile.specs.declared.roles.Role.{Role}
use Rattle.tracer_compile.specs.declared.roles.Role.TheVariants.{Zero, Link, Top, First, Second, Third, Frame, Units, Value, Detail, Calls, Break, Fourth, Fifth, Sixth}

abbrev pub number_of : Role → ℕ
number_of Zero = 0
number_of Link = 1
number_of Top = 2
number_of First = 5
number_of Second = 6
number_of Third = 7
number_of Frame = 8
number_of Units = 9
number_of Value = 10
number_of Detail = 11
number_of Calls = 18
number_of Break = 19
number_of Fourth = 28
number_of Fifth = 29
number_of Sixth = 30
