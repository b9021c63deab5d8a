-- Points that are chained by their numbers.
use Rattle.std.specs.Prelude.{◌≡◌, ℕ, zero, suc, ◌+◌, ◌-◌, ◌*◌, ◌/◌, ◌%◌, ◌^◌, ◌<◌, ◌≤◌, min, nat_eq}
use Rattle.std.specs.Prelude.{if◌then◌else◌, Bool, Option, Some, None, List, length, slice_index_or}
use Rattle.std.specs.List.{filter, range_with_len}
use Rattle.tracer_lang.specs.declared.tree.Point.{Point}
use Rattle.tracer_lang.specs.declared.tree.Point.TheVariants.{Addr, Enter, Store}
use Rattle.tracer_lang.specs.Firing.{fires_at}
use Rattle.tracepoints.specs.declared.chain.TheConstants.{MULTIPLIER, WATCHED}

-- the chain of an address
unfoldable pub chain_at : ℕ → ℕ
chain_at address = address * MULTIPLIER % 2 ^ 32 / 2 ^ 20

-- the chain of a point
abbrev pub chain_of : Point → ℕ
chain_of (Addr address) = chain_at address
chain_of (Enter address) = chain_at address
chain_of (Store address len) = WATCHED

-- the point of a number
abbrev pub point_at : List Point → ℕ → Point
point_at points i = slice_index_or points i (Addr 0)

-- whether it stands on a chain
abbrev pub is_on : List Point → ℕ → ℕ → Bool
is_on points chain i = nat_eq (chain_of (point_at points i)) chain

-- the least of so many numbers from n on that a test takes
abbrev pub soonest : (ℕ → Bool) → ℕ → ℕ → Option ℕ
soonest test n zero = None
soonest test n (suc count) = if test n then Some n else soonest test (n + 1) count

-- the first point of a chain from the point of a number on
abbrev pub first_of : List Point → ℕ → ℕ → Option ℕ
first_of points n chain = soonest (is_on points chain) n (length points - n)

-- the lower of two numbers, where there is one
abbrev pub earlier : Option ℕ → Option ℕ → Option ℕ
earlier (Some one) (Some other) = Some (min one other)
earlier (Some one) None = Some one
earlier None other = other

-- Each chain begins with its first point from the point of a number on, and each point from there
-- on leads to the next one of its chain. So it stands on that chain once, and on no other.
pub record AreChains (points : List Point) (n : ℕ) (heads next : List (Option ℕ)) : Type 0 where
  pub begins : (chain : ℕ) → chain ≤ WATCHED
      → slice_index_or heads chain None ≡ first_of points n chain
  pub linked : (i : ℕ) → n ≤ i → i < length points
      → slice_index_or next i None ≡ first_of points (i + 1) (chain_of (point_at points i))
  pub chains : length heads ≡ WATCHED + 1
  pub places : length next ≡ 64

-- which points fire where pc is an address and the instruction there is this store or none
abbrev pub firing_at : List Point → ℕ → Option (ℕ × ℕ) → List ℕ
firing_at points pc store =
    filter (λ i. fires_at pc store (point_at points i)) (range_with_len 0 (length points))
