-- A walk along the chain of an address, and beside it that of the watched ranges.
use Rattle.std.proofs.Common.{◌≡◌, ◌≢◌, ℕ, zero, suc, ◌+◌, ◌-◌, ◌<◌, ◌≤◌, List, [], ◌∷◌, ◌++◌, length}
use Rattle.std.proofs.Common.{Bool, true, false, cond, Some, None, refl, ap, ◌∙◌, sym, arith}
use Rattle.std.proofs.Common.{eqb, ⊎_elim, min}
use Rattle.std.specs.Prelude.{Option, ◌==◌, ◌||◌, is_some}
use Rattle.std.proofs.lemmas.Bool.{eq-eqb}
use Rattle.std.proofs.lemmas.Bool.Decides.{eqb_tells, nat_tests}
use Rattle.tracer_lang.specs.declared.tree.Point.{Point}
use Rattle.tracer_lang.specs.declared.tree.Point.TheVariants.{Addr, Enter, Store}
use Rattle.tracer_lang.specs.Firing.{fires_at}
use Rattle.tracepoints.specs.Chains.{chain_at, chain_of, point_at, is_on, soonest, first_of, earlier}
use Rattle.tracepoints.specs.Chains.{firing_at}
use Rattle.tracepoints.proofs.Soonest.{IsQuiet, soonest-found, soonest-none, soonest-quiet}
use Rattle.tracepoints.proofs.Chains.{first_of-skip}
use Rattle.tracepoints.proofs.Firing.{firing_below, firing_more, firing_skip}

-- ---- what is on neither chain

-- the chain of the watched ranges, where the instruction is a store, else one without points
abbrev pub watching : Option (ℕ × ℕ) → ℕ
watching None = 4097
watching (Some store) = 4096

pub chain_at-below : (address : ℕ) → chain_at address < 4096
unfolding chain_at
chain_at-below address = omega arith

other_address : (pc address : ℕ) → eqb (chain_at address) (chain_at pc) ≡ false
    → (pc == address) ≡ false
other_address pc address apart = ⊎_elim
    (λ (here : (eqb pc address ≡ true) × (pc ≡ address)).
    let same : eqb (chain_at address) (chain_at pc) ≡ true =
    rw here.1 (eq-eqb (chain_at address) (chain_at address) refl) in
    absurd cc)
    (λ (other : (eqb pc address ≡ false) × (pc ≢ address)). other.0)
    (eqb_tells pc address)

silent_at : (pc : ℕ) (store : Option (ℕ × ℕ)) (point : Point)
    → eqb (chain_of point) (chain_at pc) ≡ false → eqb (chain_of point) (watching store) ≡ false
    → fires_at pc store point ≡ false
silent_at pc store (Addr address) apart unwatched = other_address pc address apart
silent_at pc store (Enter address) apart unwatched = other_address pc address apart
silent_at pc None (Store address len) apart unwatched = refl
silent_at pc (Some store) (Store address len) apart unwatched = absurd cc

-- what is on neither chain does not fire
silent : (points : List Point) (pc : ℕ) (store : Option (ℕ × ℕ)) (n end : ℕ)
    → IsQuiet (is_on points (chain_at pc)) n end → IsQuiet (is_on points (watching store)) n end
    → (i : ℕ) → n ≤ i → i < end → fires_at pc store (point_at points i) ≡ false
silent points pc store n end apart unwatched i low high =
    silent_at pc store (point_at points i) (apart i low high) (unwatched i low high)

below_nothing : (chain : ℕ) → chain < 4096 → eqb chain 4097 ≡ false
below_nothing chain low = grind (arith, nat_tests)

no_point : (point : Point) → eqb (chain_of point) 4097 ≡ false
no_point (Addr address) = below_nothing (chain_at address) (chain_at-below address)
no_point (Enter address) = below_nothing (chain_at address) (chain_at-below address)
no_point (Store address len) = refl

pub first_of-nothing : (points : List Point) (n : ℕ) → first_of points n 4097 ≡ None
first_of-nothing points n =
    soonest-quiet (is_on points 4097) n (length points - n) (λ i low high.
    no_point (point_at points i))

-- ---- the earlier one of two

-- both tests are quiet below a number
record IsNext (test other : ℕ → Bool) (n count i : ℕ) : Type 0 where
  low : n ≤ i
  high : i < n + count
  quiet : IsQuiet test n i
  silent : IsQuiet other n i

next_by : (test other : ℕ → Bool) (n count i : ℕ) (one two : Option ℕ)
    → soonest test n count ≡ one → soonest other n count ≡ two → earlier one two ≡ Some i
    → IsNext test other n count i
next_by test other n count i None None none nothing is = absurd cc
next_by test other n count i (Some a) None found nothing is =
    let same : a ≡ i = cc in
    let here = soonest-found test n count a found in
    record {
      low = omega (arith, here.low);
      high = omega (arith, here.high);
      quiet = λ j from to. here.before j from (omega (arith, to));
      silent = λ j from to.
          soonest-none other n count nothing j from (omega (arith, to, here.high));
    }
next_by test other n count i None (Some b) none found is =
    let same : b ≡ i = cc in
    let here = soonest-found other n count b found in
    record {
      low = omega (arith, here.low);
      high = omega (arith, here.high);
      quiet = λ j from to. soonest-none test n count none j from (omega (arith, to, here.high));
      silent = λ j from to. here.before j from (omega (arith, to));
    }
next_by test other n count i (Some a) (Some b) found also is =
    let same : min a b ≡ i = cc in
    let one = soonest-found test n count a found in
    let two = soonest-found other n count b also in
    record {
      low = omega (arith, one.low, two.low);
      high = omega (arith, one.high, two.high);
      quiet = λ j from to. one.before j from (omega (arith, to));
      silent = λ j from to. two.before j from (omega (arith, to));
    }

none_by : (one two : Option ℕ) → earlier one two ≡ None → (one ≡ None) × (two ≡ None)
none_by None two none = (refl, none)
none_by (Some a) None none = absurd cc
none_by (Some a) (Some b) none = absurd cc

-- ---- the walk

-- Both chains have come to the point of a number.
pub record Stands (points : List Point) (pc : ℕ) (store : Option (ℕ × ℕ)) (n : ℕ)
    (at watched : Option ℕ) : Type 0 where
  pub within : n ≤ length points
  pub chain : at ≡ first_of points n (chain_at pc)
  pub watch : watched ≡ first_of points n (watching store)

-- They go on at the earlier point, and nothing fires before it.
pub record GoesOn (points : List Point) (pc : ℕ) (store : Option (ℕ × ℕ)) (n i : ℕ)
    (at watched : Option ℕ) : Type 0 where
  pub low : n ≤ i
  pub within : i < length points
  pub stands : Stands points pc store i at watched
  pub same : firing_below points pc store i ≡ firing_below points pc store n

pub goes_on : {points : List Point} {pc : ℕ} {store : Option (ℕ × ℕ)} {n i : ℕ}
    {at watched : Option ℕ} → Stands points pc store n at watched
    → earlier at watched ≡ Some i → GoesOn points pc store n i at watched
goes_on {points} {pc} {store} {n} {i} {at} {watched} stands is =
    let within : n ≤ length points = stands.within in
    let next : IsNext (is_on points (chain_at pc)) (is_on points (watching store)) n
    (length points - n) i =
    next_by _ _ n (length points - n) i at watched (sym stands.chain) (sym stands.watch) is in
    let low : n ≤ i = next.low in
    let below : i < length points = omega (arith, next.high) in
    let along : n + (i - n) ≡ i = omega arith in
    record {
      low = low;
      within = below;
      stands = record {
        within = omega arith;
        chain = stands.chain ∙ first_of-skip points n i (chain_at pc) low (omega arith) next.quiet;
        watch = stands.watch
            ∙ first_of-skip points n i (watching store) low (omega arith) next.silent;
      };
      same = sym (ap (firing_below points pc store) along)
          ∙ firing_skip points pc store n (i - n) (λ j from to.
          silent points pc store n i next.quiet next.silent j from (omega (arith, to, low)));
    }

-- nothing fires any more
pub stands-end : {points : List Point} {pc : ℕ} {store : Option (ℕ × ℕ)} {n : ℕ}
    {at watched : Option ℕ} → Stands points pc store n at watched → earlier at watched ≡ None
    → firing_below points pc store n ≡ firing_at points pc store
stands-end {points} {pc} {store} {n} {at} {watched} stands none =
    let within : n ≤ length points = stands.within in
    let both = none_by at watched none in
    let count : ℕ = length points - n in
    let all : n + count ≡ length points = omega arith in
    sym (firing_skip points pc store n count
    (silent points pc store n (n + count)
    (soonest-none _ n count (sym stands.chain ∙ both.0))
    (soonest-none _ n count (sym stands.watch ∙ both.1))))
    ∙ ap (firing_below points pc store) all

-- how many points are left where a walk goes on at one
abbrev pub left : ℕ → Option ℕ → ℕ
left len None = 0
left len (Some i) = len - i

left_by : {points : List Point} {pc : ℕ} {store : Option (ℕ × ℕ)} {n : ℕ}
    {at watched : Option ℕ} (o : Option ℕ) → Stands points pc store n at watched
    → earlier at watched ≡ o → left (length points) o ≤ length points - n
left_by None stands is = omega arith
left_by (Some i) stands is =
    let next = goes_on stands is in
    omega (arith, next.low)

-- fewer are left behind a point than at it
pub left-behind : {points : List Point} {pc : ℕ} {store : Option (ℕ × ℕ)} {n i : ℕ}
    {at watched after then : Option ℕ} → GoesOn points pc store n i at watched
    → earlier at watched ≡ Some i → Stands points pc store (i + 1) after then
    → left (length points) (earlier after then) < left (length points) (earlier at watched)
left-behind {points} {i = i} {at = at} {watched = watched} {after = after} {then = then} here is
    behind =
    let most : left (length points) (earlier after then) ≤ length points - (i + 1) =
    left_by (earlier after then) behind refl in
    let now : left (length points) (earlier at watched) ≡ length points - i =
    ap (left (length points)) is in
    omega (arith, here.within)

-- ---- where nothing may fire, and where no range is watched

watching_none : (points : List Point) (store : Option (ℕ × ℕ))
    → first_of points 0 4096 ≡ None → None ≡ first_of points 0 (watching store)
watching_none points None none = sym (first_of-nothing points 0)
watching_none points (Some store) none = sym none

pub quiet : (points : List Point) (pc : ℕ) (store : Option (ℕ × ℕ))
    → first_of points 0 (chain_at pc) ≡ None → first_of points 0 4096 ≡ None
    → firing_at points pc store ≡ []
quiet points pc store none unwatched =
    let stands : Stands points pc store 0 None None = record {
      within = omega arith;
      chain = sym none;
      watch = watching_none points store unwatched;
    } in
    sym (stands-end stands refl)

same_at : (pc : ℕ) (store other : Option (ℕ × ℕ)) (point : Point)
    → eqb (chain_of point) 4096 ≡ false → fires_at pc store point ≡ fires_at pc other point
same_at pc store other (Addr address) apart = refl
same_at pc store other (Enter address) apart = refl
same_at pc store other (Store address len) apart = absurd cc

same_below : (points : List Point) (pc : ℕ) (store other : Option (ℕ × ℕ)) (n : ℕ)
    → ((i : ℕ) → i < n → fires_at pc store (point_at points i) ≡ fires_at pc other (point_at points i))
    → firing_below points pc store n ≡ firing_below points pc other n
same_below points pc store other zero same = refl
same_below points pc store other (suc n) same =
    let longer : suc n ≡ n + 1 = omega arith in
    let fires = fires_at pc other (point_at points n) in
    ap (firing_below points pc store) longer
    ∙ firing_more points pc store n fires (same n (omega arith))
    ∙ ap (λ xs. xs ++ cond fires (n ∷ []) [])
    (same_below points pc store other n (λ i low. same i (omega (arith, low))))
    ∙ sym (firing_more points pc other n fires refl)
    ∙ sym (ap (firing_below points pc other) longer)

-- where no range is watched the instruction doesn't matter
pub unwatched : (points : List Point) (pc : ℕ) (store other : Option (ℕ × ℕ))
    → first_of points 0 4096 ≡ None → firing_at points pc store ≡ firing_at points pc other
unwatched points pc store other none =
    let count = length points - 0 in
    same_below points pc store other (length points) (λ i low.
    same_at pc store other (point_at points i)
    (soonest-none (is_on points 4096) 0 count none i (omega arith) (omega (arith, low))))

pub none_where : (o : Option ℕ) → is_some o ≡ false → o ≡ None
none_where None none = refl
none_where (Some i) none = absurd cc

pub none_both : (one other : Option ℕ) → (is_some one || is_some other) ≡ false
    → (one ≡ None) × (other ≡ None)
none_both None other none = (refl, none_where other none)
none_both (Some i) other none = absurd cc
