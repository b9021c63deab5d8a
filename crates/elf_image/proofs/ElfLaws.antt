-- A file is an image or has a first fault, and an image that is read can be loaded.
use Rattle.std.specs.Prelude.{Result, Ok, Err, IfOk}
use Rattle.std.proofs.Common.{◌≡◌, ℕ, List, Option, Some, None, refl, sym, ap, subst, ◌∙◌, ◌⊎◌, inl, inr, ⊎_elim}
use Rattle.sl_base.specs.declared.refused.Refused.{Refused}
use Rattle.sl_base.specs.declared.refused.Refused.TheVariants as refused
use Rattle.elf_image.specs.declared.image.Image.{Image}
use Rattle.elf_image.specs.declared.fault.ImageFault.{ImageFault}
use Rattle.elf_image.specs.Checks.{TellsUnlessMemory}
use Rattle.elf_image.specs.Reading.{Gives}
use Rattle.elf_image.specs.Elf.{checks, IsImage, first_fault, image_of, unless, reading}
use Rattle.elf_image.specs.Loadable.{IsLoadable}
use Rattle.elf_image.proofs.Bytes.{AreBytes}
use Rattle.elf_image.proofs.LoadedLaws.{IsLoadable-image}
use Rattle.elf_image.proofs.CheckLaws.{none_fails, all_pass}

-- ---- one of the two

some_or_none : (o : Option ImageFault) → (o ≡ None) ⊎ ((fault : ImageFault) × (o ≡ Some fault))
some_or_none None = inl refl
some_or_none (Some fault) = inr (fault, refl)

pub is_image : (file : List ℕ) → first_fault file ≡ None → IsImage file (image_of file)
is_image file none = record { checked = all_pass (checks file) none; entry = refl; segments = refl; symbols = refl }

pub no_fault : (file : List ℕ) (image : Image) → IsImage file image → first_fault file ≡ None
no_fault file image is = none_fails (checks file) is.checked

pub only_image : (file : List ℕ) (image : Image) → IsImage file image → image ≡ image_of file
only_image file image is = λ i. record { entry = is.entry i; segments = is.segments i; symbols = is.symbols i }

pub image_or_fault : (file : List ℕ) → ((image : Image) × IsImage file image) ⊎ ((fault : ImageFault) × (first_fault file ≡ Some fault))
image_or_fault file = ⊎_elim (λ none. inl (image_of file, is_image file none)) (λ some. inr some) (some_or_none (first_fault file))

pub not_both : (file : List ℕ) (image : Image) (fault : ImageFault) → IsImage file image → first_fault file ≡ Some fault → ⊥
not_both file image fault is some = let none = no_fault file image is in cc

-- ---- what a reader gives

pub gives : (file : List ℕ) (r : Result Image (Refused ImageFault)) → TellsUnlessMemory r (checks file) → IfOk r (λ image. image ≡ image_of file) → Gives (λ image. image) r (reading file)
gives file (Ok image) told is = rw (told, is) refl
gives file (Err refused.Memory) told is = tt
gives file (Err (refused.Fault fault)) told is = rw told refl

pub found : (file : List ℕ) (r : Result Image (Refused ImageFault)) → TellsUnlessMemory r (checks file) → IfOk r (λ image. image ≡ image_of file) → IfOk r (IsImage file)
found file (Ok image) told is = subst (IsImage file) (sym is) (is_image file told)
found file (Err e) told is = tt

pub only : (file : List ℕ) (r : Result Image (Refused ImageFault)) (image : Image) → TellsUnlessMemory r (checks file) → IfOk r (λ image. image ≡ image_of file) → IsImage file image → Gives (λ image. image) r (Ok image)
only file r image told is one =
    subst (λ (given : Result Image ImageFault). Gives (λ image. image) r given) (ap (λ o. unless o (image_of file)) (no_fault file image one) ∙ ap Ok (sym (only_image file image one))) (gives file r told is)

pub loadable : (file : List ℕ) (r : Result Image (Refused ImageFault)) → AreBytes file → IfOk r (IsImage file) → IfOk r IsLoadable
loadable file (Ok image) bytes is = IsLoadable-image file bytes image is
loadable file (Err e) bytes is = tt
