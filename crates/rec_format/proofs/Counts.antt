-- Counts of a recording's checkpoints, which rise.
use Rattle.std.specs.Prelude.{unwrap_or}
use Rattle.std.proofs.Common.{◌≡◌, ℕ, zero, suc, ◌-◌, ◌<◌, ◌≤◌, ⊎_elim, List, [], ◌∷◌, length, map, Option, Some, None, get_or, slice_get, ap, ◌∙◌, arith}
use Rattle.std.proofs.lemmas.Option.{unwrap_or-slice_get}
use Rattle.std.proofs.lemmas.List.{get_or_past}
use Rattle.std.proofs.lemmas.Bool.{cases_lt}
use Rattle.rec_format.specs.Rules.{IsRecordingValue, Rise, IsAbove, last_or, count_of}
use Rattle.rec_format.specs.declared.recording.Recording.{Recording}
use Rattle.rec_format.specs.declared.recording.CheckpointData.{CheckpointData}
use Rattle.rec_format.specs.Recorded.{end_place, checkpoint_at, recorded_count}

-- ---- counts that rise along a list

rise_first : (before : ℕ) (cs : List CheckpointData) → Rise (Some before) (map count_of cs) → (i : ℕ) (d : CheckpointData) → i < length cs → before < (get_or cs i d).count
rise_first before [] rise i d within = absurd (omega arith)
rise_first before (c ∷ cs) rise zero d within = rise.0
rise_first before (c ∷ cs) rise (suc i) d within =
    let later : c.count < (get_or cs i d).count = rise_first c.count cs rise.1 i d (omega arith) in
    let first : before < c.count = rise.0 in
    omega arith

rise_between : (before : Option ℕ) (cs : List CheckpointData) → Rise before (map count_of cs) → (i j : ℕ) (d : CheckpointData) → i < j → j < length cs → (get_or cs i d).count < (get_or cs j d).count
rise_between before [] rise i j d below within = absurd (omega arith)
rise_between before (c ∷ cs) rise i zero d below within = absurd (omega arith)
rise_between before (c ∷ cs) rise zero (suc j) d below within = rise_first c.count cs rise.1 j d (omega arith)
rise_between before (c ∷ cs) rise (suc i) (suc j) d below within = rise_between (Some c.count) cs rise.1 i j d (omega arith) (omega arith)

last_above : (before n : ℕ) (cs : List CheckpointData) → Rise (Some before) (map count_of cs) → IsAbove (last_or (Some before) count_of cs) n → before < n
last_above before n [] rise above = above
last_above before n (c ∷ cs) rise above =
    let rest : c.count < n = last_above c.count n cs rise.1 above in
    let first : before < c.count = rise.0 in
    omega arith

rise_last : (before prior : Option ℕ) (cs : List CheckpointData) (n : ℕ) → Rise before (map count_of cs) → IsAbove (last_or prior count_of cs) n → (i : ℕ) (d : CheckpointData) → i < length cs → (get_or cs i d).count < n
rise_last before prior [] n rise above i d within = absurd (omega arith)
rise_last before prior (c ∷ cs) n rise above zero d within = last_above c.count n cs rise.1 above
rise_last before prior (c ∷ cs) n rise above (suc i) d within = rise_last (Some c.count) (Some c.count) cs n rise.1 above i d (omega arith)

-- ---- the checkpoints by their numbers

pub checkpoint_at-suc : (rec : Recording) (k : ℕ) → checkpoint_at rec (suc k) ≡ get_or rec.checkpoints k rec.last
checkpoint_at-suc rec k =
    let same : suc k - 1 ≡ k = omega arith in
    ap (λ i. unwrap_or (slice_get rec.checkpoints i) rec.last) same ∙ unwrap_or-slice_get rec.checkpoints k rec.last

pub recorded_count-suc : (rec : Recording) (k : ℕ) → recorded_count rec (suc k) ≡ (get_or rec.checkpoints k rec.last).count
recorded_count-suc rec k = ap (λ (c : CheckpointData). c.count) (checkpoint_at-suc rec k)

rises_to : (rec : Recording) (a b : ℕ) → IsRecordingValue rec → 0 < length rec.checkpoints → a < suc b → b < length rec.checkpoints → recorded_count rec a < (get_or rec.checkpoints b rec.last).count
rises_to rec zero b is some below within = rise_first 0 rec.checkpoints is.counts_rise b rec.last within
rises_to rec (suc a) b is some below within =
    rw (recorded_count-suc rec a) (rise_between (Some 0) rec.checkpoints is.counts_rise a b rec.last (omega arith) within)

rises_to_end : (rec : Recording) (a : ℕ) → IsRecordingValue rec → 0 < length rec.checkpoints → a < end_place rec → recorded_count rec a < rec.last.count
rises_to_end rec zero is some below =
    let first = rise_first 0 rec.checkpoints is.counts_rise 0 rec.last some in
    let end = rise_last (Some 0) None rec.checkpoints rec.last.count is.counts_rise is.last_is_above 0 rec.last some in
    omega arith
rises_to_end rec (suc a) is some below =
    rw (recorded_count-suc rec a) (rise_last (Some 0) None rec.checkpoints rec.last.count is.counts_rise is.last_is_above a rec.last (omega arith))

-- where a checkpoint is listed, the counts of all rise, those of the opening state and of the end with them
pub counts_rise : (rec : Recording) (a b : ℕ) → IsRecordingValue rec → 0 < length rec.checkpoints → a < b → b ≤ end_place rec → recorded_count rec a < recorded_count rec b
counts_rise rec a zero is some below within = absurd (omega arith)
counts_rise rec a (suc b) is some below within = ⊎_elim
    (λ (listed : b < length rec.checkpoints). rw (recorded_count-suc rec b) (rises_to rec a b is some below listed))
    (λ (past : length rec.checkpoints ≤ b).
    let last : (get_or rec.checkpoints b rec.last).count ≡ rec.last.count = ap (λ (c : CheckpointData). c.count) (get_or_past rec.checkpoints b rec.last past) in
    rw (recorded_count-suc rec b, last) (rises_to_end rec a is some (omega arith)))
    (cases_lt b (length rec.checkpoints))
