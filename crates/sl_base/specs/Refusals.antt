-- What a call that may be refused says of the value, or the fault, that is due.
use Rattle.std.specs.Prelude.{◌≡◌, ⊤, Result, Ok, Err}
use Rattle.sl_base.specs.declared.refused.Refused.{Refused}
use Rattle.sl_base.specs.declared.refused.Refused.TheVariants as refused

-- a refusal is for the fault that is due, or memory was wanting
abbrev pub Fails : {X F : Type 0} → Refused F → Result X F → Type 0
Fails refused.Memory due = ⊤
Fails (refused.Fault fault) due = due ≡ Err fault

-- what a call returned is what is due, unless memory was wanting
abbrev pub Tells : {X F : Type 0} → Result X (Refused F) → Result X F → Type 0
Tells (Ok x) due = due ≡ Ok x
Tells (Err refusal) due = Fails refusal due

-- the same, where what it returned is seen by a view
abbrev pub Gives : {X Y F : Type 0} → (X → Y) → Result X (Refused F) → Result Y F → Type 0
Gives view (Ok x) due = due ≡ Ok (view x)
Gives view (Err refusal) due = Fails refusal due
