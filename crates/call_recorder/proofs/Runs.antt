-- Runs: what each state of one has, and the states between.
use Rattle.std.specs.Prelude.{◌||◌, ◌&&◌, nat_le, nat_lt, is_some, unwrap_or, ◌/◌, ◌^◌, ◌*◌}
use Rattle.std.specs.FinMap.{get}
use Rattle.std.proofs.Common.{◌≡◌, ℕ, zero, suc, ◌+◌, ◌-◌, ◌<◌, ◌≤◌, Bool, true, false, Option, Some, None, refl, sym, ap, subst, ◌∙◌, arith, le-leb, lt-ltb, leb-true}
use Rattle.std.proofs.lemmas.Bool.{or_cases, or_right, and_parts, and_from, ltb-true}
use Rattle.sl_model.specs.State.{State, Fits, IsOpening}
use Rattle.sl_model.proofs.Mapping.{is_among}
use Rattle.call_log.specs.declared.breaks.BreakKind.{BreakKind}
use Rattle.rec_format.specs.declared.recording.Recording.{Recording}
use Rattle.rec_format.proofs.InRun.{IsInRun, IsInRun-opened, is_mapped}
use Rattle.replay.specs.Run.{Onward, Goes, Breaks, onward, state_after, run_from}
use Rattle.replay.proofs.InRun.{IsInRun-onward, Fits-onward}
use Rattle.call_recorder.specs.Recut.{state_at}

same_state : (s t : State) → Some s ≡ Some t → s ≡ t
same_state s t same = cc

pub run-zero : (rec : Recording) (s : State) → run_from rec s 0 ≡ Some s
unfolding run_from
run-zero rec s = refl

pub run-goes : (rec : Recording) (s t : State) (n : ℕ) → onward rec s ≡ Goes t → run_from rec s (suc n) ≡ run_from rec t n
unfolding run_from
run-goes rec s t n goes = ap (state_after (λ u. run_from rec u n)) goes

run-breaks : (rec : Recording) (s : State) (n : ℕ) (kind : BreakKind) → onward rec s ≡ Breaks kind → run_from rec s (suc n) ≡ None
unfolding run_from
run-breaks rec s n kind breaks = ap (state_after (λ u. run_from rec u n)) breaks

-- a run of some instructions has a first one
pub record First (rec : Recording) (s : State) (n : ℕ) (last : State) : Type 0 where
  pub next : State
  pub goes : onward rec s ≡ Goes next
  pub rest : run_from rec next n ≡ Some last

pub first : (rec : Recording) (s : State) (n : ℕ) (last : State) → run_from rec s (suc n) ≡ Some last → First rec s n last
first rec s n last runs = by (onward rec s) refl
  where
    by : (on : Onward) → onward rec s ≡ on → First rec s n last
    by (Goes t) is = record { next = t; goes = is; rest = sym (run-goes rec s t n is) ∙ runs }
    by (Breaks kind) is =
        let none = sym (run-breaks rec s n kind is) ∙ runs in
        absurd cc

-- one more instruction
pub run-next : (rec : Recording) (n : ℕ) (s t u : State) → run_from rec s n ≡ Some t → onward rec t ≡ Goes u → run_from rec s (n + 1) ≡ Some u
run-next rec zero s t u runs goes =
    let same : s ≡ t = same_state s t (sym (run-zero rec s) ∙ runs) in
    run-goes rec s u 0 (ap (onward rec) same ∙ goes) ∙ run-zero rec u
run-next rec (suc n) s t u runs goes =
    let one = first rec s n t runs in
    let next : suc n + 1 ≡ suc (n + 1) = omega arith in
    ap (run_from rec s) next ∙ run-goes rec s one.next (n + 1) one.goes ∙ run-next rec n one.next t u one.rest goes

-- so many, and then more
pub run-add : (rec : Recording) (m k : ℕ) (s t : State) → run_from rec s m ≡ Some t → run_from rec s (m + k) ≡ run_from rec t k
run-add rec zero k s t runs =
    let none : zero + k ≡ k = omega arith in
    let same : s ≡ t = same_state s t (sym (run-zero rec s) ∙ runs) in
    ap (run_from rec s) none ∙ ap (λ u. run_from rec u k) same
run-add rec (suc m) k s t runs =
    let one = first rec s m t runs in
    let sum : suc m + k ≡ suc (m + k) = omega arith in
    ap (run_from rec s) sum ∙ run-goes rec s one.next (m + k) one.goes ∙ run-add rec m k one.next t one.rest

-- a run comes to each place before its end
pub record Between (rec : Recording) (s : State) (m k : ℕ) (last : State) : Type 0 where
  pub at : State
  pub run : run_from rec s m ≡ Some at
  pub rest : run_from rec at k ≡ Some last

pub between : (rec : Recording) (m k : ℕ) (s last : State) → run_from rec s (m + k) ≡ Some last → Between rec s m k last
between rec zero k s last runs =
    let none : zero + k ≡ k = omega arith in
    record { at = s; run = run-zero rec s; rest = sym (ap (run_from rec s) none) ∙ runs }
between rec (suc m) k s last runs =
    let sum : suc m + k ≡ suc (m + k) = omega arith in
    let one = first rec s (m + k) last (sym (ap (run_from rec s) sum) ∙ runs) in
    let rest = between rec m k one.next last one.rest in
    record { at = rest.at; run = run-goes rec s one.next m one.goes ∙ rest.run; rest = rest.rest }

pub state_at-run : (rec : Recording) (opened : State) (n : ℕ) (s : State) → run_from rec opened n ≡ Some s → state_at rec opened n ≡ s
state_at-run rec opened n s runs = ap (λ (o : Option State). unwrap_or o opened) runs

-- and so each state before the end of a run is one of it
pub comes_to : (rec : Recording) (opened : State) (m n : ℕ) (last : State) → m ≤ n → run_from rec opened n ≡ Some last → run_from rec opened m ≡ Some (state_at rec opened m)
comes_to rec opened m n last le runs =
    let sum : m + (n - m) ≡ n = omega arith in
    let at = between rec m (n - m) opened last (ap (run_from rec opened) sum ∙ runs) in
    at.run ∙ ap Some (sym (state_at-run rec opened m at.at at.run))

-- ---- what each state has

pub record OnTheRun (opened s t : State) (n : ℕ) : Type 0 where
  pub in_run : IsInRun opened t
  pub fits : Fits t
  pub count : t.count ≡ s.count + n
  pub grows : s.brk_end ≤ t.brk_end

pub along : (rec : Recording) (opened : State) (n : ℕ) (s t : State) → IsOpening opened → IsInRun opened s → Fits s → run_from rec s n ≡ Some t → OnTheRun opened s t n
along rec opened zero s t opens runs fits comes =
    let same : s ≡ t = same_state s t (sym (run-zero rec s) ∙ comes) in
    subst (λ u. OnTheRun opened s u 0) same (record { in_run = runs; fits = fits; count = omega arith; grows = omega arith })
along rec opened (suc n) s t opens runs fits comes =
    let one = first rec s n t comes in
    let next = IsInRun-onward rec opened s one.next opens runs one.goes in
    let rest = along rec opened n one.next t opens next.in_run (Fits-onward rec s one.next fits one.goes) one.rest in
    record { in_run = rest.in_run; fits = rest.fits; count = omega (arith, rest.count, next.count); grows = omega (arith, rest.grows, next.end_grows) }

-- from the start
pub from_start : (rec : Recording) (opened : State) (n : ℕ) (t : State) → IsOpening opened → run_from rec opened n ≡ Some t → OnTheRun opened opened t n
from_start rec opened n t opens comes = along rec opened n opened t opens (IsInRun-opened opened opens) opens.fits comes

pub count-run : (rec : Recording) (opened : State) (n : ℕ) (t : State) → IsOpening opened → run_from rec opened n ≡ Some t → t.count ≡ n
count-run rec opened n t opens comes = omega (arith, (from_start rec opened n t opens comes).count, opens.count)

-- pages stay mapped
among_more : (a b c q : ℕ) → b ≤ c → is_among (a / 4096) (b / 4096) q ≡ true → is_among (a / 4096) (c / 4096) q ≡ true
among_more a b c q le is =
    let both = and_parts (nat_le (a / 4096) q) (nat_lt q (b / 4096)) is in
    let high : q < b / 4096 = ltb-true q (b / 4096) both.1 in
    let higher : q < c / 4096 = omega arith in
    and_from (nat_le (a / 4096) q) (nat_lt q (c / 4096)) both.0 (lt-ltb q (c / 4096) higher)

or_more : (a b c : Bool) → (b ≡ true → c ≡ true) → (a || b) ≡ true → (a || c) ≡ true
or_more true b c more is = refl
or_more false b c more is = more is

pub stay_mapped : (opened s t : State) (q : ℕ) → IsInRun opened s → IsInRun opened t → s.brk_end ≤ t.brk_end → is_some (get s.pages q) ≡ true → is_some (get t.pages q) ≡ true
stay_mapped opened s t q first second le is =
    second.mapped q
    ∙ or_more (is_some (get opened.pages q)) (is_among (opened.layout.brk_start / 4096) (s.brk_end / 4096) q) (is_among (opened.layout.brk_start / 4096) (t.brk_end / 4096) q) (among_more opened.layout.brk_start s.brk_end t.brk_end q le) (sym (first.mapped q) ∙ is)

pub below_end : (s : State) (q : ℕ) → Fits s → is_some (get s.pages q) ≡ true → q < 2 ^ 20
below_end s q fits is = omega (arith, fits.pages_below q is)
