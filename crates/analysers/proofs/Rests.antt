-- The rest of a list, as a slice to its end gives it.
use Rattle.std.proofs.Common.{◌≡◌, ℕ, ◌-◌, List, length, take, drop, length-drop, arith}
use Rattle.std.proofs.lemmas.List.{take_all}

pub rest_whole : {X : Type 0} (xs : List X) (n : ℕ) → take (length xs - n) (drop n xs) ≡ drop n xs
rest_whole xs n = take_all (length xs - n) (drop n xs) (omega (arith, length-drop n xs))
