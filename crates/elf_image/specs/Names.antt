-- Symbols by their names.
use Rattle.std.specs.Prelude.{ℕ, List, Option, find}
use Rattle.std.specs.Option.{option_map}
use Rattle.std.specs.Str.{bytes_eq}
use Rattle.sl_base.specs.declared.symbol.Symbol.{Symbol}

-- the value of the first symbol with a name
abbrev pub value_of : List ℕ → List Symbol → Option ℕ
value_of name symbols = option_map (λ s. s.value) (find (λ s. bytes_eq s.name name) symbols)
