-- Laws of the first of two things, where there is one.
use Rattle.std.specs.Option.{option_or}
use Rattle.std.proofs.Common.{◌≡◌, Option, Some, None, refl}

pub option_or-none : {A : Type 0} (x : Option A) → option_or x None ≡ x
option_or-none None = refl
option_or-none (Some x) = refl

pub option_or-assoc : {A : Type 0} (x y z : Option A) → option_or (option_or x y) z ≡ option_or x (option_or y z)
option_or-assoc None y z = refl
option_or-assoc (Some x) y z = refl

-- where there is none, there is neither
pub first_none : {A : Type 0} (x y : Option A) → option_or x y ≡ None → x ≡ None
first_none None y none = refl
first_none (Some x) y none = none

pub second_none : {A : Type 0} (x y : Option A) → option_or x y ≡ None → y ≡ None
second_none None y none = none
second_none (Some x) y none = absurd cc
