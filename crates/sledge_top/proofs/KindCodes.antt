-- What an analysis says of its word has one proof at most.
use Rattle.std.proofs.Common.{◌≡◌, ℕ, List, Some, zero, suc, refl}
use Rattle.std.specs.Coded.{Coded, Coded-set, code_by, coded×, coded_ℕ, coded_option}
use Rattle.analysers.specs.declared.kind.KindOf.{KindOf}
use Rattle.analysers.specs.declared.kind.KindOf.TheVariants.{All, Done, Point, Word, Changes, Rising, Open, Count, Sum, Least, Greatest, Hist, First, Last}
use Rattle.analysers.specs.Kinds.{kind_of}

-- an analysis is stored as the number of its variant and its numbers

abbrev Numbers : Type 0
Numbers = ℕ × (ℕ × ℕ)

abbrev numbers_of : KindOf → Numbers
numbers_of All = (0, (0, 0))
numbers_of Done = (1, (0, 0))
numbers_of (Point point) = (2, (point, 0))
numbers_of (Word place value) = (3, (place, value))
numbers_of (Changes place) = (4, (place, 0))
numbers_of (Rising place) = (5, (place, 0))
numbers_of (Open opens closes) = (6, (opens, closes))
numbers_of Count = (7, (0, 0))
numbers_of (Sum place) = (8, (place, 0))
numbers_of (Least place) = (9, (place, 0))
numbers_of (Greatest place) = (10, (place, 0))
numbers_of (Hist place) = (11, (place, 0))
numbers_of First = (12, (0, 0))
numbers_of Last = (13, (0, 0))

-- variants from number 7 on
abbrev later : ℕ → ℕ → KindOf
later zero place = Count
later (suc zero) place = Sum place
later (suc (suc zero)) place = Least place
later (suc (suc (suc zero))) place = Greatest place
later (suc (suc (suc (suc zero)))) place = Hist place
later (suc (suc (suc (suc (suc zero))))) place = First
later (suc (suc (suc (suc (suc (suc n)))))) place = Last

abbrev kind_by : ℕ → ℕ × ℕ → KindOf
kind_by zero at = All
kind_by (suc zero) at = Done
kind_by (suc (suc zero)) at = Point at.0
kind_by (suc (suc (suc zero))) at = Word at.0 at.1
kind_by (suc (suc (suc (suc zero)))) at = Changes at.0
kind_by (suc (suc (suc (suc (suc zero))))) at = Rising at.0
kind_by (suc (suc (suc (suc (suc (suc zero)))))) at = Open at.0 at.1
kind_by (suc (suc (suc (suc (suc (suc (suc n))))))) at = later n at.0

abbrev kind_with : Numbers → KindOf
kind_with numbers = kind_by numbers.0 numbers.1

kind_with-numbers_of : (kind : KindOf) → kind_with (numbers_of kind) ≡ kind
kind_with-numbers_of All = refl
kind_with-numbers_of Done = refl
kind_with-numbers_of (Point point) = refl
kind_with-numbers_of (Word place value) = refl
kind_with-numbers_of (Changes place) = refl
kind_with-numbers_of (Rising place) = refl
kind_with-numbers_of (Open opens closes) = refl
kind_with-numbers_of Count = refl
kind_with-numbers_of (Sum place) = refl
kind_with-numbers_of (Least place) = refl
kind_with-numbers_of (Greatest place) = refl
kind_with-numbers_of (Hist place) = refl
kind_with-numbers_of First = refl
kind_with-numbers_of Last = refl

abbrev kind_code : Coded KindOf
kind_code =
    code_by Numbers (coded× coded_ℕ (coded× coded_ℕ coded_ℕ)) numbers_of kind_with
    kind_with-numbers_of

pub reads_once : (word : List ℕ) (what : KindOf) → IsProp (kind_of word ≡ Some what)
reads_once word what = Coded-set (coded_option kind_code) _ _
