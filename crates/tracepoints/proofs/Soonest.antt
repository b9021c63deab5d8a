-- The least of so many numbers that a test takes.
use Rattle.std.proofs.Common.{◌≡◌, ℕ, zero, suc, ◌+◌, ◌<◌, ◌≤◌, Bool, true, false, cond, Some, None}
use Rattle.std.proofs.Common.{refl, arith, ⊎_elim}
use Rattle.std.proofs.lemmas.Bool.{cases_eq}
use Rattle.tracepoints.specs.Chains.{soonest}

-- a number is the least one
pub record IsSoonest (test : ℕ → Bool) (n count i : ℕ) : Type 0 where
  pub low : n ≤ i
  pub high : i < n + count
  pub taken : test i ≡ true
  pub before : (j : ℕ) → n ≤ j → j < i → test j ≡ false

-- no number is taken
abbrev pub IsQuiet : (ℕ → Bool) → ℕ → ℕ → Type 0
IsQuiet test n end = (i : ℕ) → n ≤ i → i < end → test i ≡ false

quiet_from : (test : ℕ → Bool) (n end : ℕ) → test n ≡ false → IsQuiet test (n + 1) end
    → IsQuiet test n end
quiet_from test n end here behind i low high = ⊎_elim
    (λ (same : i ≡ n). rw same here)
    (λ (apart : i ≡ n → ⊥). behind i (omega (arith, apart)) high)
    (cases_eq i n)

found_by : (test : ℕ → Bool) (n count i : ℕ) (b : Bool) → test n ≡ b
    → (soonest test (n + 1) count ≡ Some i → IsSoonest test (n + 1) count i)
    → cond b (Some n) (soonest test (n + 1) count) ≡ Some i → IsSoonest test n (suc count) i
found_by test n count i true is behind found =
    let same : n ≡ i = cc in
    record {
      low = omega arith;
      high = omega arith;
      taken = rw (← same) is;
      before = λ j low high. absurd (omega (arith, low, high, same));
    }
found_by test n count i false is behind found =
    let later = behind found in
    record {
      low = omega (arith, later.low);
      high = omega (arith, later.high);
      taken = later.taken;
      before = quiet_from test n i is later.before;
    }

pub soonest-found : (test : ℕ → Bool) (n count i : ℕ) → soonest test n count ≡ Some i
    → IsSoonest test n count i
soonest-found test n zero i found = absurd cc
soonest-found test n (suc count) i found =
    found_by test n count i (test n) refl (soonest-found test (n + 1) count i) found

none_by : (test : ℕ → Bool) (n count : ℕ) (b : Bool) → test n ≡ b
    → cond b (Some n) (soonest test (n + 1) count) ≡ None
    → (test n ≡ false) × (soonest test (n + 1) count ≡ None)
none_by test n count true is none = absurd cc
none_by test n count false is none = (is, none)

pub soonest-none : (test : ℕ → Bool) (n count : ℕ) → soonest test n count ≡ None
    → IsQuiet test n (n + count)
soonest-none test n zero none = λ i low high. absurd (omega (arith, low, high))
soonest-none test n (suc count) none =
    let both = none_by test n count (test n) refl none in
    quiet_from test n (n + suc count) both.0 (λ i low high.
    soonest-none test (n + 1) count both.1 i low (omega arith))

-- numbers that are not taken are passed over
pub soonest-skip : (test : ℕ → Bool) (n d count : ℕ) → IsQuiet test n (n + d)
    → soonest test n (d + count) ≡ soonest test (n + d) count
soonest-skip test n zero count quiet =
    let here : n + 0 ≡ n = omega arith in
    let all : 0 + count ≡ count = omega arith in
    rw (here, all) refl
soonest-skip test n (suc d) count quiet =
    let behind : n + suc d ≡ n + 1 + d = omega arith in
    let all : suc d + count ≡ suc (d + count) = omega arith in
    rw (all, quiet n (omega arith) (omega arith), behind)
    (soonest-skip test (n + 1) d count (λ i low high.
    quiet i (omega (arith, low)) (omega (arith, high))))

-- where no number is taken none is found
pub soonest-quiet : (test : ℕ → Bool) (n count : ℕ) → IsQuiet test n (n + count)
    → soonest test n count ≡ None
soonest-quiet test n zero quiet = refl
soonest-quiet test n (suc count) quiet =
    rw (quiet n (omega arith) (omega arith))
    (soonest-quiet test (n + 1) count (λ i low high.
    quiet i (omega (arith, low)) (omega (arith, high))))
