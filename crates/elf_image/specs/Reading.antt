-- What a reader of images gives: an image, or the first fault.
use Rattle.std.specs.Prelude.{◌≡◌, Result, Ok, Err, ⊤}
use Rattle.sl_base.specs.declared.refused.Refused.{Refused}
use Rattle.sl_base.specs.declared.refused.Refused.TheVariants as refused
use Rattle.elf_image.specs.declared.fault.ImageFault.{ImageFault}

-- what a call returned, where it was refused, is what reading gives, unless memory was wanting
abbrev pub Fails : {A : Type 0} → Refused ImageFault → Result A ImageFault → Type 0
Fails refused.Memory reading = ⊤
Fails (refused.Fault fault) reading = reading ≡ Err fault

-- what a call returned, seen by view, is what reading gives, unless memory was wanting
abbrev pub Gives : {X A : Type 0}
    → (X → A) → Result X (Refused ImageFault) → Result A ImageFault → Type 0
Gives view (Ok x) reading = reading ≡ Ok (view x)
Gives view (Err e) reading = Fails e reading
