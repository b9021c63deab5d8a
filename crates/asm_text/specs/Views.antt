-- What a function returned, seen by a view.
use Rattle.std.specs.Prelude.{◌≡◌, Result, Ok, Err}
use Rattle.asm_text.specs.declared.fault.AsmCause.{AsmCause}

-- it is what the definition gives
abbrev pub Gives : {X A : Type 0} → (X → A) → Result X AsmCause → Result A AsmCause → Type 0
Gives view (Ok x) defined = defined ≡ Ok (view x)
Gives view (Err cause) defined = defined ≡ Err cause
