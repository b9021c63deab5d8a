-- One write after another.
use Rattle.std.proofs.Common.{ℕ, ◌+◌, ◌++◌, List, length, take, drop, Option, arith, length-append, sym, subst}
use Rattle.std.proofs.Math.Seq.{take-add, take-append-add}
use Rattle.std.proofs.KnownBytes.{Appends-trans}
use Rattle.outside.specs.Written.{Adds, AddsPrefix}

-- the first n bytes, and then m more of the rest, are the first n + m
pub Adds-take : (a b c : Option (List ℕ)) (n m : ℕ) (bytes : List ℕ) → Adds a b (take n bytes) → Adds b c (take m (drop n bytes)) → Adds a c (take (n + m) bytes)
Adds-take a b c n m bytes first second = subst (Adds a c) (sym (take-add n m bytes)) (Appends-trans a b c _ _ first second)

-- all of the first bytes, and then some of the others
pub Adds-AddsPrefix : (a b c : Option (List ℕ)) (first second : List ℕ) → Adds a b first → AddsPrefix b c second → AddsPrefix a c (first ++ second)
Adds-AddsPrefix a b c first second whole some =
    let joined = Appends-trans a b c first (take some.0 second) whole some.2 in (
      length first + some.0,
      omega (arith, some.1, length-append first second),
      subst (Adds a c) (sym (take-append-add first second some.0)) joined,
    )
