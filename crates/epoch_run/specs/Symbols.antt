-- That a script is one over the symbols of an image, which has one proof at most.
use Rattle.std.specs.Prelude.{◌≡◌, ◌==◌, ◌%◌, ◌^◌, ◌&&◌, ◌||◌, ℕ, Bool, true, false, List, [], ◌∷◌}
use Rattle.std.specs.Coded.{Coded-set, coded_bool}
use Rattle.sl_base.specs.declared.symbol.Symbol.{Symbol}
use Rattle.tracer_lang.specs.declared.tree.Point.{Point}
use Rattle.tracer_lang.specs.declared.tree.Point.TheVariants.{Addr, Enter, Store}
use Rattle.tracer_lang.specs.Tree.{TracepointTree, ScriptTree}

-- an address is the value of a symbol, as a word
abbrev pub is_symbol_value : List Symbol → ℕ → Bool
is_symbol_value [] address = false
is_symbol_value (symbol ∷ symbols) address =
    symbol.value % 2 ^ 32 == address || is_symbol_value symbols address

-- a point that is told by a symbol stands at the value of one
abbrev pub is_point_over : List Symbol → Point → Bool
is_point_over symbols (Addr address) = true
is_point_over symbols (Enter address) = is_symbol_value symbols address
is_point_over symbols (Store address len) = true

abbrev pub are_points_over : List Symbol → List TracepointTree → Bool
are_points_over symbols [] = true
are_points_over symbols (t ∷ ts) = is_point_over symbols t.point && are_points_over symbols ts

-- each point of a script that is told by a symbol stands at the value of one
abbrev pub IsOver : List Symbol → ScriptTree → Type 0
IsOver symbols script = are_points_over symbols script.tracepoints ≡ true

pub IsOver-prop : (symbols : List Symbol) (script : ScriptTree) → IsProp (IsOver symbols script)
IsOver-prop symbols script = Coded-set coded_bool _ _
