-- What a call that takes no memory owes.
use Rattle.std.specs.Prelude.{Result, Ok, Err, ⊤}
use Rattle.sl_base.specs.declared.refused.Refused.{Refused}
use Rattle.sl_base.specs.declared.refused.Refused.TheVariants as refused
use Rattle.rec_format.specs.declared.fault.RecFault.{RecFault}

-- it is not refused for want of memory
abbrev pub IsSure : {X : Type 0} → Result X (Refused RecFault) → Type 0
IsSure (Ok x) = ⊤
IsSure (Err refused.Memory) = ⊥
IsSure (Err (refused.Fault fault)) = ⊤
