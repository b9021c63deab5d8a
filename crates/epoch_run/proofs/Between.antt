-- The checkpoints of an epoch that is cut in two at another checkpoint.
use Rattle.std.specs.Prelude.{if◌then◌else◌}
use Rattle.std.specs.Option.{option_or}
use Rattle.std.proofs.Common.{◌≡◌, ℕ, zero, suc, ◌+◌, ◌-◌, ◌<◌, ◌≤◌, ◌==◌, List, [], ◌∷◌, ◌++◌, length, take, drop, Option, None, get_or, refl, sym, ap, ◌∙◌, arith, drop-drop, take-add, get_or-take, get_or-drop, length-take, length-drop, ne_eqb, eq-eqb}
use Rattle.std.proofs.lemmas.List.{drop_more}
use Rattle.sl_model.specs.Pages.{Pages}
use Rattle.sl_model.specs.State.{State}
use Rattle.call_log.specs.declared.breaks.BreakKind.{BreakKind}
use Rattle.call_log.proofs.Options.{option_or-none, option_or-assoc}
use Rattle.rec_format.specs.Rules.{IsRecordingValue}
use Rattle.rec_format.specs.declared.recording.Recording.{Recording}
use Rattle.rec_format.specs.declared.recording.CheckpointData.{CheckpointData}
use Rattle.replay.specs.Breaks.{listed_break}
use Rattle.rec_format.specs.Recorded.{end_place, checkpoint_at, recorded_count}
use Rattle.rec_format.specs.Compared.{checkpoint_break}
use Rattle.epoch_run.specs.Epochs.{between}
use Rattle.rec_format.proofs.Counts.{checkpoint_at-suc, recorded_count-suc, counts_rise}

-- ---- what stands between two checkpoints

pub length-between : (rec : Recording) (a b : ℕ) → a < b → b ≤ end_place rec → length (between rec a b) ≡ b - 1 - a
length-between rec a b below within = length-take (b - 1 - a) (drop a rec.checkpoints) ∙ rw (length-drop a rec.checkpoints) (omega arith)

get_or-between : (rec : Recording) (a b i : ℕ) → i < b - 1 - a → get_or (between rec a b) i rec.last ≡ get_or rec.checkpoints (a + i) rec.last
get_or-between rec a b i within = get_or-take (b - 1 - a) (drop a rec.checkpoints) i rec.last within ∙ get_or-drop a rec.checkpoints i rec.last

-- the count of one of them
count-between : (rec : Recording) (a b i : ℕ) → i < b - 1 - a → (get_or (between rec a b) i rec.last).count ≡ recorded_count rec (suc (a + i))
count-between rec a b i within = ap (λ (c : CheckpointData). c.count) (get_or-between rec a b i within) ∙ sym (recorded_count-suc rec (a + i))

-- an epoch's checkpoints are those before a checkpoint in between, this one, and those after it
pub between-split : (rec : Recording) (a b c : ℕ) → a < b → b < c → c ≤ end_place rec → between rec a c ≡ between rec a b ++ checkpoint_at rec b ∷ between rec b c
between-split rec a zero c below above within = absurd (omega arith)
between-split rec a (suc b) c below above within =
    let first : ℕ = suc b - 1 - a in
    let rest : ℕ = c - 1 - suc b in
    let sum : c - 1 - a ≡ first + suc rest = omega arith in
    let reached : a + first ≡ b = omega arith in
    let listed : b < length rec.checkpoints = omega arith in
    let behind : b + 1 ≡ suc b = omega arith in
    let whole : drop b rec.checkpoints ≡ get_or rec.checkpoints b rec.last ∷ drop (suc b) rec.checkpoints = drop_more rec.checkpoints b rec.last listed ∙ ap (λ n. get_or rec.checkpoints b rec.last ∷ drop n rec.checkpoints) behind in
    let tail : drop first (drop a rec.checkpoints) ≡ checkpoint_at rec (suc b) ∷ drop (suc b) rec.checkpoints =
    drop-drop first a rec.checkpoints ∙ ap (λ n. drop n rec.checkpoints) reached ∙ whole ∙ ap (λ c. c ∷ drop (suc b) rec.checkpoints) (sym (checkpoint_at-suc rec b)) in
    ap (λ n. take n (drop a rec.checkpoints)) sum ∙ take-add first (suc rest) (drop a rec.checkpoints) ∙ ap (λ xs. take first (drop a rec.checkpoints) ++ take (suc rest) xs) tail

-- ---- what of them is compared at a state

pub listed_break-append : (opened : Pages) (rec : Recording) (k : ℕ) (xs ys : List CheckpointData) (s : State)
    → listed_break opened rec k (xs ++ ys) s ≡ option_or (listed_break opened rec k xs s) (listed_break opened rec (k + length xs) ys s)
listed_break-append opened rec k [] ys s = ap (λ n. listed_break opened rec n ys s) (omega arith)
listed_break-append opened rec k (x ∷ xs) ys s =
    let here : Option BreakKind = if x.count == s.count then checkpoint_break opened rec k x s else None in
    let next : k + 1 + length xs ≡ k + suc (length xs) = omega arith in
    ap (λ o. option_or here o) (listed_break-append opened rec (k + 1) xs ys s ∙ ap (λ n. option_or (listed_break opened rec (k + 1) xs s) (listed_break opened rec n ys s)) next)
    ∙ sym (option_or-assoc here (listed_break opened rec (k + 1) xs s) (listed_break opened rec (k + suc (length xs)) ys s))

pub none_listed : (opened : Pages) (rec : Recording) (k : ℕ) (xs : List CheckpointData) (s : State) → ((i : ℕ) → i < length xs → (get_or xs i rec.last).count ≡ s.count → ⊥) → listed_break opened rec k xs s ≡ None
none_listed opened rec k [] s apart = refl
none_listed opened rec k (x ∷ xs) s apart =
    rw (ne_eqb x.count s.count (apart 0 (omega arith))) (none_listed opened rec (k + 1) xs s (λ i within. apart (suc i) (omega arith)))

-- those before a checkpoint are not compared from its count on
none_before : (opened : Pages) (rec : Recording) (a b : ℕ) (s : State) → IsRecordingValue rec → 0 < length rec.checkpoints → a < b → b ≤ end_place rec → recorded_count rec b ≤ s.count
    → listed_break opened rec (a + 1) (between rec a b) s ≡ None
none_before opened rec a b s is some below within late = none_listed opened rec (a + 1) (between rec a b) s (λ i inside same.
    let place : i < b - 1 - a = omega (arith, length-between rec a b below within) in
    let rises = counts_rise rec (suc (a + i)) b is some (omega arith) within in
    absurd (omega (arith, count-between rec a b i place)))

-- those after a checkpoint are not compared up to its count
none_after : (opened : Pages) (rec : Recording) (b c : ℕ) (s : State) → IsRecordingValue rec → 0 < length rec.checkpoints → b < c → c ≤ end_place rec → s.count ≤ recorded_count rec b
    → listed_break opened rec (b + 1) (between rec b c) s ≡ None
none_after opened rec b c s is some below within early = none_listed opened rec (b + 1) (between rec b c) s (λ i inside same.
    let place : i < c - 1 - b = omega (arith, length-between rec b c below within) in
    let rises = counts_rise rec b (suc (b + i)) is some (omega arith) (omega arith) in
    absurd (omega (arith, count-between rec b c i place)))

-- ---- an epoch from a to c that is cut at b

-- what a checkpoint gives at a state, where it stands at the state's count
abbrev at_its_count : Pages → Recording → ℕ → State → Option BreakKind
at_its_count opened rec b s = if (checkpoint_at rec b).count == s.count then checkpoint_break opened rec b (checkpoint_at rec b) s else None

listed-split : (opened : Pages) (rec : Recording) (a b c : ℕ) (s : State) → a < b → b < c → c ≤ end_place rec
    → listed_break opened rec (a + 1) (between rec a c) s ≡ option_or (listed_break opened rec (a + 1) (between rec a b) s) (option_or (at_its_count opened rec b s) (listed_break opened rec (b + 1) (between rec b c) s))
listed-split opened rec a b c s below above within =
    let number : a + 1 + length (between rec a b) ≡ b = omega (arith, length-between rec a b below (omega arith)) in
    ap (λ xs. listed_break opened rec (a + 1) xs s) (between-split rec a b c below above within)
    ∙ listed_break-append opened rec (a + 1) (between rec a b) (checkpoint_at rec b ∷ between rec b c) s
    ∙ ap (λ n. option_or (listed_break opened rec (a + 1) (between rec a b) s) (listed_break opened rec n (checkpoint_at rec b ∷ between rec b c) s)) number

count_is : (rec : Recording) (b : ℕ) → 0 < b → (checkpoint_at rec b).count ≡ recorded_count rec b
count_is rec zero some = absurd (omega arith)
count_is rec (suc b) some = refl

not_at_its_count : (opened : Pages) (rec : Recording) (b : ℕ) (s : State) → 0 < b → (recorded_count rec b ≡ s.count → ⊥) → at_its_count opened rec b s ≡ None
not_at_its_count opened rec b s some apart = rw (count_is rec b some, ne_eqb (recorded_count rec b) s.count apart) refl

-- before b's count the first part alone counts
pub listed-before : (opened : Pages) (rec : Recording) (a b c : ℕ) (s : State) → IsRecordingValue rec → a < b → b < c → c ≤ end_place rec → s.count < recorded_count rec b
    → listed_break opened rec (a + 1) (between rec a c) s ≡ listed_break opened rec (a + 1) (between rec a b) s
listed-before opened rec a b c s is below above within early =
    let first : Option BreakKind = listed_break opened rec (a + 1) (between rec a b) s in
    listed-split opened rec a b c s below above within
    ∙ ap (λ o. option_or first (option_or o (listed_break opened rec (b + 1) (between rec b c) s))) (not_at_its_count opened rec b s (omega arith) (λ same. absurd (omega arith)))
    ∙ ap (λ o. option_or first o) (none_after opened rec b c s is (omega arith) above within (omega arith))
    ∙ option_or-none first

-- at b's count checkpoint b alone
pub listed-at : (opened : Pages) (rec : Recording) (a b c : ℕ) (s : State) → IsRecordingValue rec → a < b → b < c → c ≤ end_place rec → s.count ≡ recorded_count rec b
    → listed_break opened rec (a + 1) (between rec a c) s ≡ checkpoint_break opened rec b (checkpoint_at rec b) s
listed-at opened rec a b c s is below above within same =
    let second : Option BreakKind = listed_break opened rec (b + 1) (between rec b c) s in
    let it : Option BreakKind = checkpoint_break opened rec b (checkpoint_at rec b) s in
    let here : at_its_count opened rec b s ≡ it = rw (count_is rec b (omega arith), eq-eqb (recorded_count rec b) s.count (sym same)) refl in
    listed-split opened rec a b c s below above within
    ∙ ap (λ o. option_or o (option_or (at_its_count opened rec b s) second)) (none_before opened rec a b s is (omega arith) below (omega arith) (omega arith))
    ∙ ap (λ o. option_or o second) here
    ∙ ap (λ o. option_or it o) (none_after opened rec b c s is (omega arith) above within (omega arith))
    ∙ option_or-none it

-- after it the second part alone
pub listed-after : (opened : Pages) (rec : Recording) (a b c : ℕ) (s : State) → IsRecordingValue rec → a < b → b < c → c ≤ end_place rec → recorded_count rec b < s.count
    → listed_break opened rec (a + 1) (between rec a c) s ≡ listed_break opened rec (b + 1) (between rec b c) s
listed-after opened rec a b c s is below above within late =
    let second : Option BreakKind = listed_break opened rec (b + 1) (between rec b c) s in
    listed-split opened rec a b c s below above within
    ∙ ap (λ o. option_or o (option_or (at_its_count opened rec b s) second)) (none_before opened rec a b s is (omega arith) below (omega arith) (omega arith))
    ∙ ap (λ o. option_or o second) (not_at_its_count opened rec b s (omega arith) (λ same. absurd (omega arith)))

-- at b's count the second part compares none
pub listed-none : (opened : Pages) (rec : Recording) (b c : ℕ) (s : State) → IsRecordingValue rec → 0 < b → b < c → c ≤ end_place rec → s.count ≡ recorded_count rec b → listed_break opened rec (b + 1) (between rec b c) s ≡ None
listed-none opened rec b c s is some above within same = none_after opened rec b c s is (omega arith) above within (omega arith)
