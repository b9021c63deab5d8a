-- What a plan keeps of the points of its script, which has one proof at most.
use Rattle.std.specs.Prelude.{◌≡◌, ℕ, zero, suc, List}
use Rattle.std.specs.Coded.{Coded, Coded-set, code_by, coded×, coded_ℕ, coded_list}
use Rattle.std.proofs.Common.{refl}
use Rattle.tracer_lang.specs.declared.tree.Point.{Point}
use Rattle.tracer_lang.specs.declared.tree.Point.TheVariants.{Addr, Enter, Store}
use Rattle.tracer_lang.specs.declared.script.Script.{Script}
use Rattle.tracer_lang.specs.Script.{tree_of}
use Rattle.tracer_lang.specs.Firing.{points_of}

-- a point is stored as the number of its kind and its numbers

abbrev Numbers : Type 0
Numbers = ℕ × (ℕ × ℕ)

abbrev numbers_of : Point → Numbers
numbers_of (Addr address) = (0, (address, 0))
numbers_of (Enter address) = (1, (address, 0))
numbers_of (Store address len) = (2, (address, len))

abbrev point_by : ℕ → ℕ × ℕ → Point
point_by zero at = Addr at.0
point_by (suc zero) at = Enter at.0
point_by (suc (suc n)) at = Store at.0 at.1

abbrev point_with : Numbers → Point
point_with numbers = point_by numbers.0 numbers.1

point_with-numbers_of : (point : Point) → point_with (numbers_of point) ≡ point
point_with-numbers_of (Addr address) = refl
point_with-numbers_of (Enter address) = refl
point_with-numbers_of (Store address len) = refl

abbrev point_code : Coded Point
point_code =
    code_by Numbers (coded× coded_ℕ (coded× coded_ℕ coded_ℕ)) numbers_of point_with
    point_with-numbers_of

-- points are those of a script
abbrev pub AreWatched : List Point → Script → Type 0
AreWatched points script = points ≡ points_of (tree_of script)

pub AreWatched-prop :
    (points : List Point) (script : Script) → IsProp (AreWatched points script)
AreWatched-prop points script = Coded-set (coded_list point_code) _ _
