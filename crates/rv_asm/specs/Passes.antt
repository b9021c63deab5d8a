-- What the second pass tells.
use Rattle.std.specs.Prelude.{◌≡◌, ⊤, ℕ, Option, Some, None, Result, Ok, Err}
use Rattle.sl_base.specs.declared.refused.Refused.{Refused}
use Rattle.sl_base.specs.declared.refused.Refused.TheVariants as refused
use Rattle.asm_text.specs.declared.fault.AsmCause.{AsmCause}
use Rattle.asm_text.specs.declared.fault.AsmFault.{AsmFault}
use Rattle.rv_asm.specs.Lines.{told}

abbrev pub Refuses : Refused AsmFault → Option AsmFault → Type 0
Refuses refused.Memory due = ⊤
Refuses (refused.Fault fault) due = due ≡ Some fault

-- a fault is the first one, and without one a value is given; memory alone may be wanting
abbrev pub TellsFault : {X : Type 0} → Result X (Refused AsmFault) → Option AsmFault → Type 0
TellsFault (Ok x) due = due ≡ None
TellsFault (Err refusal) due = Refuses refusal due

-- the same of one line's cause
abbrev pub TellsCause : {X : Type 0} → Result X (Refused AsmFault) → ℕ → Option AsmCause → Type 0
TellsCause result line cause = TellsFault result (told line cause None)
