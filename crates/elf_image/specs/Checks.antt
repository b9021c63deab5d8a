-- Checks in an order, and the first of them that fails.
use Rattle.std.specs.Prelude.{◌≡◌, ℕ, Bool, true, List, [], ◌∷◌, Option, None, Some, Result, Ok, Err, ⊤, if◌then◌else◌}
use Rattle.std.specs.List.{AllByRecursion}
use Rattle.sl_base.specs.declared.refused.Refused.{Refused}
use Rattle.sl_base.specs.declared.refused.Refused.TheVariants as refused
use Rattle.elf_image.specs.declared.check.Check.{Check}
use Rattle.elf_image.specs.declared.fault.ImageFault.{ImageFault}
use Rattle.elf_image.specs.declared.fault.ImageCause.{ImageCause}

-- a check that a file passes or fails, with the place and the cause that are told where it fails
abbrev pub check : Bool → ℕ → ImageCause → Check
check passes place cause = record {
  passes = passes;
  fault = record { place = place; cause = cause };
}

abbrev pub AllPass : List Check → Type 0
AllPass checks = AllByRecursion (λ c. c.passes ≡ true) checks

-- the fault of the first check that fails
abbrev pub first_failing : List Check → Option ImageFault
first_failing [] = None
first_failing (c ∷ cs) = if c.passes then first_failing cs else Some c.fault

-- a call gives a value where all of the checks pass, and else the fault of the first that fails
abbrev pub Tells : {X : Type 0} → Result X ImageFault → List Check → Type 0
Tells (Ok x) checks = first_failing checks ≡ None
Tells (Err fault) checks = first_failing checks ≡ Some fault

-- a refusal is the fault of the first check that fails, or memory ran out
abbrev pub Refuses : Refused ImageFault → List Check → Type 0
Refuses refused.Memory checks = ⊤
Refuses (refused.Fault fault) checks = first_failing checks ≡ Some fault

-- the same of a call that may run out of memory
abbrev pub TellsUnlessMemory : {X : Type 0} → Result X (Refused ImageFault) → List Check → Type 0
TellsUnlessMemory (Ok x) checks = first_failing checks ≡ None
TellsUnlessMemory (Err e) checks = Refuses e checks

-- the call did not run out of memory
abbrev pub IsSure : {X : Type 0} → Result X (Refused ImageFault) → Type 0
IsSure (Ok x) = ⊤
IsSure (Err refused.Memory) = ⊥
IsSure (Err (refused.Fault fault)) = ⊤
