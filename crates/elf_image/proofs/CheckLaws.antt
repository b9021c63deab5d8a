-- Checks of one list behind those of another.
use Rattle.std.specs.Prelude.{Result, Ok, Err}
use Rattle.std.specs.List.{AllByRecursion}
use Rattle.std.proofs.Common.{◌≡◌, Bool, true, false, cond, List, [], ◌∷◌, ◌++◌, Some, None, refl, ◌∙◌}
use Rattle.sl_base.specs.declared.refused.Refused.{Refused}
use Rattle.sl_base.specs.declared.refused.Refused.TheVariants as refused
use Rattle.elf_image.specs.declared.check.Check.{Check}
use Rattle.elf_image.specs.declared.fault.ImageFault.{ImageFault}
use Rattle.elf_image.specs.Checks.{AllPass, first_failing, Refuses, TellsUnlessMemory}

-- where the first checks pass, the others decide
pub first_failing-later : (xs ys : List Check) → first_failing xs ≡ None → first_failing (xs ++ ys) ≡ first_failing ys
first_failing-later [] ys none = refl
first_failing-later (x ∷ xs) ys none = chosen x.passes refl none (λ rest. first_failing-later xs ys rest)
  where
    chosen : (b : Bool) → x.passes ≡ b → cond b (first_failing xs) (Some x.fault) ≡ None → (first_failing xs ≡ None → first_failing (xs ++ ys) ≡ first_failing ys) → cond x.passes (first_failing (xs ++ ys)) (Some x.fault) ≡ first_failing ys
    chosen true is rest later = rw is (later rest)
    chosen false is rest later = absurd cc

-- and else the first that fails
pub first_failing-early : (xs ys : List Check) (fault : ImageFault) → first_failing xs ≡ Some fault → first_failing (xs ++ ys) ≡ Some fault
first_failing-early [] ys fault some = absurd cc
first_failing-early (x ∷ xs) ys fault some = chosen x.passes refl some (λ rest. first_failing-early xs ys fault rest)
  where
    chosen : (b : Bool) → x.passes ≡ b → cond b (first_failing xs) (Some x.fault) ≡ Some fault → (first_failing xs ≡ Some fault → first_failing (xs ++ ys) ≡ Some fault) → cond x.passes (first_failing (xs ++ ys)) (Some x.fault) ≡ Some fault
    chosen true is rest later = rw is (later rest)
    chosen false is rest later = rw is rest

pub refuses_early : (e : Refused ImageFault) (xs ys : List Check) → Refuses e xs → Refuses e (xs ++ ys)
refuses_early refused.Memory xs ys is = tt
refuses_early (refused.Fault fault) xs ys is = first_failing-early xs ys fault is

pub refuses_later : (e : Refused ImageFault) (xs ys : List Check) → first_failing xs ≡ None → Refuses e ys → Refuses e (xs ++ ys)
refuses_later refused.Memory xs ys none is = tt
refuses_later (refused.Fault fault) xs ys none is = first_failing-later xs ys none ∙ is

pub tells_later : {X : Type 0} (r : Result X (Refused ImageFault)) (xs ys : List Check) → first_failing xs ≡ None → TellsUnlessMemory r ys → TellsUnlessMemory r (xs ++ ys)
tells_later (Ok x) xs ys none is = first_failing-later xs ys none ∙ is
tells_later (Err e) xs ys none is = refuses_later e xs ys none is

-- ---- no check fails where all pass

pub none_fails : (checks : List Check) → AllPass checks → first_failing checks ≡ None
none_fails [] all = refl
none_fails (c ∷ cs) all = rw all.0 (none_fails cs all.1)

pub all_pass : (checks : List Check) → first_failing checks ≡ None → AllPass checks
all_pass [] none = tt
all_pass (c ∷ cs) none = chosen c.passes refl none (λ rest. all_pass cs rest)
  where
    chosen : (b : Bool) → c.passes ≡ b → cond b (first_failing cs) (Some c.fault) ≡ None → (first_failing cs ≡ None → AllPass cs) → AllByRecursion (λ d. d.passes ≡ true) (c ∷ cs)
    chosen true is rest later = (is, later rest)
    chosen false is rest later = absurd cc

pub AllPass-append : (xs ys : List Check) → AllPass (xs ++ ys) → AllPass xs × AllPass ys
AllPass-append [] ys all = (tt, all)
AllPass-append (x ∷ xs) ys all =
    let rest = AllPass-append xs ys all.1 in
    ((all.0, rest.0), rest.1)

pub AllPass-both : (xs ys : List Check) → AllPass xs → AllPass ys → AllPass (xs ++ ys)
AllPass-both [] ys first second = second
AllPass-both (x ∷ xs) ys first second = (first.0, AllPass-both xs ys first.1 second)
