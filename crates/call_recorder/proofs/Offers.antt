-- The checkpoints that are kept, as states are offered one after the other.
use Rattle.std.specs.Prelude.{if◌then◌else◌, ◌&&◌, ◌*◌, ◌^◌, is_some, unwrap_or, nat_le, nat_lt, IsSome, Contains}
use Rattle.std.specs.List.{AllByRecursion}
use Rattle.std.specs.Str.{bytes_eq}
use Rattle.std.specs.FinMap.{get}
use Rattle.std.proofs.Common.{◌≡◌, ℕ, zero, suc, ◌+◌, ◌-◌, ◌<◌, ◌≤◌, ◌⊎◌, inl, inr, ⊎_elim, Bool, true, false, List, [], ◌∷◌, ◌++◌, length, take, Option, Some, None, refl, sym, ap, subst, ◌∙◌, arith, append_assoc, length-append, leb-true, le-leb}
use Rattle.std.proofs.lemmas.Bool.{cases_lt, and_parts, ltb-true, ltb-false}
use Rattle.std.proofs.lemmas.List.{append-nil, length_push, take_all, take-append-le, length-take}
use Rattle.std.proofs.lemmas.Slice.Eq.{bytes_eq-Decides}
use Rattle.std.proofs.lemmas.List.Elements.{Contains-append_left}
use Rattle.sl_model.specs.Pages.{Pages}
use Rattle.sl_model.specs.Mapping.{zero_page}
use Rattle.sl_model.specs.State.{State}
use Rattle.sl_model.specs.Marks.{MarksGoOn}
use Rattle.sl_model.specs.declared.layout.TheConstants.{PROGRAM_PAGES}
use Rattle.page_frames.specs.MarkedPages.{MarkedPages, IsKept}
use Rattle.rec_format.specs.declared.recording.CheckpointData.{CheckpointData}
use Rattle.rec_format.specs.declared.limits.TheConstants.{MOST_CHECKPOINTS}
use Rattle.rec_format.specs.Rules.{IsCheckpoint}
use Rattle.rec_format.specs.Recorded.{last_listing}
use Rattle.rec_format.specs.Spelling.{checkpoint}
use Rattle.rec_format.proofs.Fronts.{All-join, All-front, All-back}
use Rattle.rec_format.proofs.Lengths.{length-checkpoint}
use Rattle.call_recorder.specs.Listing.{page_in, listed_over, changed_page, changed_pages, checkpoint_of, checkpoints_of, within_bytes, kept_of, MOST_CHECKPOINT_BYTES}
use Rattle.call_recorder.specs.declared.kept.Kept.{Kept}
use Rattle.call_recorder.specs.Kept.{recorded_in, memory_after, OnlyMarked, ChangesAreMarked, HasRoom, AreKept, AreDone, AreFinished, EndsAt}
use Rattle.call_recorder.proofs.PageLists.{last_changed}

-- ---- checkpoints of states

pub length-checkpoints_of : (recorded : ℕ → List ℕ) (states : List State) → length (checkpoints_of recorded states) ≡ length states
length-checkpoints_of recorded [] = refl
length-checkpoints_of recorded (s ∷ states) = ap suc (length-checkpoints_of (page_in s.pages) states)

pub checkpoints_of-append : (pages : Pages) (states more : List State) → checkpoints_of (page_in pages) (states ++ more) ≡ checkpoints_of (page_in pages) states ++ checkpoints_of (page_in (memory_after pages states)) more
checkpoints_of-append pages [] more = refl
checkpoints_of-append pages (s ∷ states) more = ap (λ (l : List CheckpointData). checkpoint_of (page_in pages) s ∷ l) (checkpoints_of-append s.pages states more)

pub take_checkpoints : (recorded : ℕ → List ℕ) (n : ℕ) (all : List State) → take n (checkpoints_of recorded all) ≡ checkpoints_of recorded (take n all)
take_checkpoints recorded zero all = refl
take_checkpoints recorded (suc n) [] = refl
take_checkpoints recorded (suc n) (s ∷ all) = ap (λ (l : List CheckpointData). checkpoint_of recorded s ∷ l) (take_checkpoints (page_in s.pages) n all)

pub memory_after-push : (pages : Pages) (states : List State) (s : State) → memory_after pages (states ++ s ∷ []) ≡ s.pages
memory_after-push pages [] s = refl
memory_after-push pages (t ∷ states) s = memory_after-push t.pages states s

pub counts_below : (n : ℕ) (recorded : ℕ → List ℕ) (states : List State) → AllByRecursion (λ t. t.count < n) states → AllByRecursion (λ c. c.count < n) (checkpoints_of recorded states)
counts_below n recorded [] below = tt
counts_below n recorded (s ∷ states) below = (below.0, counts_below n (page_in s.pages) states below.1)

-- ---- as many as go

abbrev room_if : Bool → CheckpointData → List CheckpointData → List CheckpointData
room_if b c rest = if b then c ∷ rest else []

within-all : (P : CheckpointData → Type 0) (room : ℕ) (cs : List CheckpointData) → AllByRecursion P cs → AllByRecursion P (within_bytes room cs)
unfolding within_bytes
within-all P room [] all = tt
within-all P room (c ∷ cs) all = chosen (nat_le (length (checkpoint c)) room) (within-all P (room - length (checkpoint c)) cs all.1)
  where
    chosen : (b : Bool) → AllByRecursion P (within_bytes (room - length (checkpoint c)) cs) → AllByRecursion P (room_if b c (within_bytes (room - length (checkpoint c)) cs))
    chosen true rest = (all.0, rest)
    chosen false rest = tt

all-take : (P : CheckpointData → Type 0) (n : ℕ) (cs : List CheckpointData) → AllByRecursion P cs → AllByRecursion P (take n cs)
all-take P zero cs all = tt
all-take P (suc n) [] all = tt
all-take P (suc n) (c ∷ cs) all = (all.0, all-take P n cs all.1)

length-within : (room : ℕ) (cs : List CheckpointData) → length (within_bytes room cs) ≤ length cs
unfolding within_bytes
length-within room [] = omega arith
length-within room (c ∷ cs) = chosen (nat_le (length (checkpoint c)) room) (length-within (room - length (checkpoint c)) cs)
  where
    chosen : (b : Bool) → length (within_bytes (room - length (checkpoint c)) cs) ≤ length cs → length (room_if b c (within_bytes (room - length (checkpoint c)) cs)) ≤ suc (length cs)
    chosen true le = omega arith
    chosen false le = omega arith

-- they are the first ones
within-front : (room : ℕ) (cs : List CheckpointData) → within_bytes room cs ≡ take (length (within_bytes room cs)) cs
unfolding within_bytes
within-front room [] = refl
within-front room (c ∷ cs) = chosen (nat_le (length (checkpoint c)) room) (within-front (room - length (checkpoint c)) cs)
  where
    chosen : (b : Bool) → within_bytes (room - length (checkpoint c)) cs ≡ take (length (within_bytes (room - length (checkpoint c)) cs)) cs
        → room_if b c (within_bytes (room - length (checkpoint c)) cs) ≡ take (length (room_if b c (within_bytes (room - length (checkpoint c)) cs))) (c ∷ cs)
    chosen true rest = ap (λ (l : List CheckpointData). c ∷ l) rest
    chosen false rest = refl

take-front : (n m : ℕ) (xs ys : List CheckpointData) → ys ≡ take m xs → take n ys ≡ take (length (take n ys)) xs
take-front n m xs ys is = by n m xs ys is
  where
    by : (n m : ℕ) (xs ys : List CheckpointData) → ys ≡ take m xs → take n ys ≡ take (length (take n ys)) xs
    by zero m xs ys is = refl
    by (suc n) m xs [] is = refl
    by (suc n) zero xs (y ∷ ys) is = absurd cc
    by (suc n) (suc m) [] (y ∷ ys) is = absurd cc
    by (suc n) (suc m) (x ∷ xs) (y ∷ ys) is =
        let head : y ≡ x = cc in
        let rest : ys ≡ take m xs = cc in
        ap (λ (z : CheckpointData). z ∷ take n ys) head ∙ ap (λ (l : List CheckpointData). x ∷ l) (by n m xs ys rest)

-- what goes with one more: as before, or all of them
record GoAll (room : ℕ) (cs : List CheckpointData) (c : CheckpointData) : Type 0 where
  pub more : within_bytes room (cs ++ c ∷ []) ≡ cs ++ c ∷ []
  pub before : within_bytes room cs ≡ cs

one_more_within : (room : ℕ) (cs : List CheckpointData) (c : CheckpointData) → (within_bytes room (cs ++ c ∷ []) ≡ within_bytes room cs) ⊎ GoAll room cs c
unfolding within_bytes
one_more_within room [] c = chosen (nat_le (length (checkpoint c)) room) refl
  where
    chosen : (b : Bool) → nat_le (length (checkpoint c)) room ≡ b → (within_bytes room (c ∷ []) ≡ []) ⊎ GoAll room [] c
    chosen true is = inr (record { more = ap (λ b. room_if b c []) is; before = refl })
    chosen false is = inl (ap (λ b. room_if b c []) is)
one_more_within room (x ∷ cs) c = chosen (nat_le (length (checkpoint x)) room) refl (one_more_within (room - length (checkpoint x)) cs c)
  where
    left : ℕ
    left = room - length (checkpoint x)

    chosen : (b : Bool) → nat_le (length (checkpoint x)) room ≡ b → (within_bytes (room - length (checkpoint x)) (cs ++ c ∷ []) ≡ within_bytes (room - length (checkpoint x)) cs) ⊎ GoAll (room - length (checkpoint x)) cs c
        → (within_bytes room (x ∷ (cs ++ c ∷ [])) ≡ within_bytes room (x ∷ cs)) ⊎ GoAll room (x ∷ cs) c
    chosen true is rest = ⊎_elim
        (λ (same : within_bytes (room - length (checkpoint x)) (cs ++ c ∷ []) ≡ within_bytes (room - length (checkpoint x)) cs). inl (ap (λ rest. room_if (nat_le (length (checkpoint x)) room) x rest) same))
        (λ (all : GoAll (room - length (checkpoint x)) cs c). inr (record {
          more = ap (λ b. room_if b x (within_bytes (room - length (checkpoint x)) (cs ++ c ∷ []))) is ∙ ap (λ (l : List CheckpointData). x ∷ l) all.more;
          before = ap (λ b. room_if b x (within_bytes (room - length (checkpoint x)) cs)) is ∙ ap (λ (l : List CheckpointData). x ∷ l) all.before;
        }))
        rest
    chosen false is rest = inl (ap (λ b. room_if b x (within_bytes (room - length (checkpoint x)) (cs ++ c ∷ []))) is ∙ sym (ap (λ b. room_if b x (within_bytes (room - length (checkpoint x)) cs)) is))

pub record AreAllKept (cs : List CheckpointData) (c : CheckpointData) : Type 0 where
  pub more : kept_of (cs ++ c ∷ []) ≡ cs ++ c ∷ []
  pub before : kept_of cs ≡ cs

kept_by : (n : ℕ) → n ≡ MOST_CHECKPOINTS → (cs : List CheckpointData) → kept_of cs ≡ take n (within_bytes MOST_CHECKPOINT_BYTES cs)
kept_by n is cs = ap (λ k. take k (within_bytes MOST_CHECKPOINT_BYTES cs)) (sym is)

pub one_more_kept : (cs : List CheckpointData) (c : CheckpointData) → (kept_of (cs ++ c ∷ []) ≡ kept_of cs) ⊎ AreAllKept cs c
one_more_kept cs c = with_most MOST_CHECKPOINTS refl
  where
    with_most : (n : ℕ) → n ≡ MOST_CHECKPOINTS → (kept_of (cs ++ c ∷ []) ≡ kept_of cs) ⊎ AreAllKept cs c
    with_most n is = ⊎_elim
        (λ (same : within_bytes MOST_CHECKPOINT_BYTES (cs ++ c ∷ []) ≡ within_bytes MOST_CHECKPOINT_BYTES cs). inl (ap (take MOST_CHECKPOINTS) same))
        (λ (all : GoAll MOST_CHECKPOINT_BYTES cs c). ⊎_elim
        (λ (below : length cs < n).
        let long : length (cs ++ c ∷ []) ≤ n = omega (arith, length_push cs c) in
        inr (record {
          more = kept_by n is (cs ++ c ∷ []) ∙ ap (take n) all.more ∙ take_all n (cs ++ c ∷ []) long;
          before = kept_by n is cs ∙ ap (take n) all.before ∙ take_all n cs (omega arith);
        }))
        (λ (full : n ≤ length cs).
        inl (kept_by n is (cs ++ c ∷ []) ∙ ap (take n) all.more ∙ take-append-le n cs (c ∷ []) full ∙ sym (kept_by n is cs ∙ ap (take n) all.before)))
        (cases_lt (length cs) n))
        (one_more_within MOST_CHECKPOINT_BYTES cs c)

pub few_kept : (cs : List CheckpointData) → (length (kept_of cs) ≤ 4095) × (length (kept_of cs) ≤ length cs)
few_kept cs = with_most MOST_CHECKPOINTS refl
  where
    with_most : (n : ℕ) → n ≡ MOST_CHECKPOINTS → (length (kept_of cs) ≤ 4095) × (length (kept_of cs) ≤ length cs)
    with_most n is =
        let e = ap length (kept_by n is cs) in
        let t = length-take n (within_bytes MOST_CHECKPOINT_BYTES cs) in
        let w = length-within MOST_CHECKPOINT_BYTES cs in
        (omega arith, omega arith)

pub kept-front : (cs : List CheckpointData) → kept_of cs ≡ take (length (kept_of cs)) cs
kept-front cs = take-front MOST_CHECKPOINTS (length (within_bytes MOST_CHECKPOINT_BYTES cs)) cs (within_bytes MOST_CHECKPOINT_BYTES cs) (within-front MOST_CHECKPOINT_BYTES cs)

pub all_kept : (P : CheckpointData → Type 0) (cs : List CheckpointData) → AllByRecursion P cs → AllByRecursion P (kept_of cs)
all_kept P cs all = all-take P MOST_CHECKPOINTS (within_bytes MOST_CHECKPOINT_BYTES cs) (within-all P MOST_CHECKPOINT_BYTES cs all)

-- where all fit, all are kept
all_are_kept : (cs : List CheckpointData) (room : ℕ) → ((more : List CheckpointData) → within_bytes MOST_CHECKPOINT_BYTES (cs ++ more) ≡ cs ++ within_bytes room more) → length cs ≤ 4095 → cs ≡ kept_of cs
unfolding within_bytes
all_are_kept cs room goes few = with_most MOST_CHECKPOINTS refl
  where
    with_most : (n : ℕ) → n ≡ MOST_CHECKPOINTS → cs ≡ kept_of cs
    with_most n is =
        let within : within_bytes MOST_CHECKPOINT_BYTES cs ≡ cs = sym (ap (within_bytes MOST_CHECKPOINT_BYTES) (append-nil cs)) ∙ goes [] ∙ append-nil cs in
        sym (kept_by n is cs ∙ ap (take n) within ∙ take_all n cs (omega arith))

-- ---- memory

-- what is recorded in place of a memory's pages
recorded_is : (kept : Kept) (pages : Pages) → ((q : ℕ) → recorded_in kept.memory q ≡ page_in pages q) → recorded_in kept.memory ≡ page_in pages
recorded_is kept pages same = λ i q. same q i

unchanged : (recorded : List ℕ) (q : ℕ) (before now : Option (List ℕ)) → recorded ≡ unwrap_or before zero_page → now ≡ before → listed_over recorded q now ≡ []
unchanged recorded q before None is same = refl
unchanged recorded q None (Some page) is same = absurd cc
unchanged recorded q (Some old) (Some page) is same =
    let e : recorded ≡ page = cc in
    let yes : bytes_eq recorded page ≡ true = (bytes_eq-Decides recorded page).1 e in
    rw yes refl

pub only_marked : (opened : Pages) (states : List State) (kept : Kept) (f : MarkedPages) → AreKept opened states kept f → OnlyMarked (recorded_in kept.memory) f
only_marked opened states kept f are q = ⊎_elim
    (λ (same : get f.pages q ≡ get (memory_after opened (take (length kept.checkpoints) states)) q). inl (unchanged (recorded_in kept.memory q) q (get (memory_after opened (take (length kept.checkpoints) states)) q) (get f.pages q) (are.recorded q) same))
    (λ (marked : Contains f.dirty q). inr marked)
    (are.marked q)

-- the marks go on
pub goes_on : (opened : Pages) (states : List State) (kept : Kept) (f g : MarkedPages) → IsKept f → IsKept g → MarksGoOn true f.pages f.dirty g.pages g.dirty → AreKept opened states kept f → AreKept opened states kept g
goes_on opened states kept f g before now marks are = record {
  listed = are.listed;
  each = are.each;
  recorded = are.recorded;
  marked = λ q. ⊎_elim
      (λ (low : q < PROGRAM_PAGES). ⊎_elim
      (λ (same : get g.pages q ≡ get f.pages q). ⊎_elim
      (λ (still : get f.pages q ≡ get (memory_after opened (take (length kept.checkpoints) states)) q). inl (same ∙ still))
      (λ (was : Contains f.dirty q). inr (rw marks.keeps.1 (Contains-append_left f.dirty marks.keeps.0 q was)))
      (are.marked q))
      (λ (marked : Contains g.dirty q). inr marked)
      (marks.marks refl q low))
      (λ (high : PROGRAM_PAGES ≤ q). ⊎_elim
      (λ (still : get f.pages q ≡ get (memory_after opened (take (length kept.checkpoints) states)) q). inl (none (get g.pages q) (λ some. absurd (omega (arith, now.below q some, high))) ∙ sym (none (get f.pages q) (λ some. absurd (omega (arith, before.below q some, high)))) ∙ still))
      (λ (was : Contains f.dirty q). inr (rw marks.keeps.1 (Contains-append_left f.dirty marks.keeps.0 q was)))
      (are.marked q))
      (cases_lt q PROGRAM_PAGES);
  going = are.going;
  full = are.full;
}
  where
    none : (page : Option (List ℕ)) → (IsSome page → ⊥) → page ≡ None
    none None never = refl
    none (Some page) never = absurd (never refl)

-- ---- an offer

few : (opened : Pages) (states : List State) (kept : Kept) (f : MarkedPages) → AreKept opened states kept f → length kept.checkpoints ≤ length states
few opened states kept f are =
    let e = ap length are.listed in
    let k = few_kept (checkpoints_of (page_in opened) states) in
    let at_most = k.1 in
    omega (arith, length-checkpoints_of (page_in opened) states)

-- the states up to the last that is kept stay the same
same_front : (opened : Pages) (states more : List State) (n : ℕ) → n ≤ length states → memory_after opened (take n (states ++ more)) ≡ memory_after opened (take n states)
same_front opened states more n le = ap (memory_after opened) (take-append-le n states more le)

-- once one had no room, nothing is kept
pub offered_full : (opened : Pages) (states : List State) (s : State) (kept : Kept) (f : MarkedPages) → kept.is_full ≡ true → AreKept opened states kept f → AreKept opened (states ++ s ∷ []) kept f
offered_full opened states s kept f full are =
    let stays = same_front opened states (s ∷ []) (length kept.checkpoints) (few opened states kept f are) in
    record {
      listed = sym (are.full full (s ∷ []));
      each = are.each;
      recorded = λ q. are.recorded q ∙ sym (ap (λ (p : Pages). page_in p q) stays);
      marked = subst (λ (p : Pages). ChangesAreMarked p f) (sym stays) are.marked;
      going = λ going. absurd cc;
      full = λ is more. ap (λ (l : List State). kept_of (checkpoints_of (page_in opened) l)) (append_assoc states (s ∷ []) more) ∙ are.full full (s ∷ more);
    }

-- the checkpoint of a state that is offered, and that each one before had room
pub record IsOffered (opened : Pages) (states : List State) (s : State) (kept : Kept) (f : MarkedPages) (c : CheckpointData) : Type 0 where
  pub going : kept.is_full ≡ false
  pub are : AreKept opened states kept f
  pub memory : f.pages ≡ s.pages
  pub frames : IsKept f
  pub checkpoint : c ≡ checkpoint_of (recorded_in kept.memory) s
  pub is : IsCheckpoint c

module _ (opened : Pages) (states : List State) (s : State) (kept : Kept) (f : MarkedPages) (c : CheckpointData) (offer : IsOffered opened states s kept f c) where
  all_so_far : kept.checkpoints ≡ checkpoints_of (page_in opened) states
  all_so_far = (offer.are.going offer.going).all

  same_length : length kept.checkpoints ≡ length states
  same_length = ap length all_so_far ∙ length-checkpoints_of (page_in opened) states

  memory_is : memory_after opened (take (length kept.checkpoints) states) ≡ memory_after opened states
  memory_is = ap (memory_after opened) (take_all (length kept.checkpoints) states (omega (arith, same_length)))

  recorded_all : recorded_in kept.memory ≡ page_in (memory_after opened states)
  recorded_all = recorded_is kept (memory_after opened states) (λ q. offer.are.recorded q ∙ ap (λ (p : Pages). page_in p q) memory_is)

  checkpoint_is : checkpoint_of (page_in (memory_after opened states)) s ≡ c
  checkpoint_is = ap (λ (r : ℕ → List ℕ). checkpoint_of r s) (sym recorded_all) ∙ sym offer.checkpoint

  size_is : length (checkpoint c) ≡ 152 + 4100 * length c.pages
  size_is = length-checkpoint c offer.is

  with_more : (more : List State) → checkpoints_of (page_in opened) (states ++ s ∷ more) ≡ kept.checkpoints ++ c ∷ checkpoints_of (page_in s.pages) more
  with_more more =
      checkpoints_of-append opened states (s ∷ more)
      ∙ ap (λ (d : CheckpointData). checkpoints_of (page_in opened) states ++ d ∷ checkpoints_of (page_in s.pages) more) checkpoint_is
      ∙ ap (λ (l : List CheckpointData). l ++ c ∷ checkpoints_of (page_in s.pages) more) (sym all_so_far)

  at_most : length kept.checkpoints ≤ 4095
  at_most =
      let e = ap length offer.are.listed in
      let k = (few_kept (checkpoints_of (page_in opened) states)).0 in
      omega arith

  no_room : (n size room : ℕ) → (nat_lt n 4095 && nat_le size room) ≡ false → (4095 ≤ n) ⊎ (nat_le size room ≡ false)
  no_room n size room none = chosen (nat_lt n 4095) refl none
    where
      chosen : (b : Bool) → nat_lt n 4095 ≡ b → (b && nat_le size room) ≡ false → (4095 ≤ n) ⊎ (nat_le size room ≡ false)
      chosen true is none = inr none
      chosen false is none = inl (ltb-false n 4095 is)

  rejects : (nat_lt (length kept.checkpoints) 4095 && nat_le (152 + 4100 * length c.pages) kept.room) ≡ false → (rest : List CheckpointData) → kept_of (kept.checkpoints ++ c ∷ rest) ≡ kept.checkpoints
  unfolding within_bytes
  rejects none rest = with_most MOST_CHECKPOINTS refl
    where
      none_fits : nat_le (152 + 4100 * length c.pages) kept.room ≡ false → within_bytes kept.room (c ∷ rest) ≡ []
      none_fits small = ap (λ size. room_if (nat_le size kept.room) c (within_bytes (kept.room - size) rest)) size_is ∙ ap (λ b. room_if b c (within_bytes (kept.room - (152 + 4100 * length c.pages)) rest)) small

      with_most : (n : ℕ) → n ≡ MOST_CHECKPOINTS → kept_of (kept.checkpoints ++ c ∷ rest) ≡ kept.checkpoints
      with_most n is =
          let most = at_most in
          kept_by n is (kept.checkpoints ++ c ∷ rest)
          ∙ ap (take n) ((offer.are.going offer.going).fits (c ∷ rest))
          ∙ ⊎_elim
          (λ (full : 4095 ≤ length kept.checkpoints). take-append-le n kept.checkpoints (within_bytes kept.room (c ∷ rest)) (omega arith) ∙ take_all n kept.checkpoints (omega arith))
          (λ (small : nat_le (152 + 4100 * length c.pages) kept.room ≡ false).
          ap (λ (l : List CheckpointData). take n (kept.checkpoints ++ l)) (none_fits small) ∙ ap (take n) (append-nil kept.checkpoints) ∙ take_all n kept.checkpoints (omega arith))
          (no_room (length kept.checkpoints) (152 + 4100 * length c.pages) kept.room none)

  pub offered_rejected : (nat_lt (length kept.checkpoints) 4095 && nat_le (152 + 4100 * length c.pages) kept.room) ≡ false → AreKept opened (states ++ s ∷ []) (record kept { is_full = true }) f
  offered_rejected none =
      let stays = same_front opened states (s ∷ []) (length kept.checkpoints) (few opened states kept f offer.are) in
      record {
        listed = sym (ap kept_of (with_more []) ∙ rejects none []);
        each = offer.are.each;
        recorded = λ q. offer.are.recorded q ∙ sym (ap (λ (p : Pages). page_in p q) stays);
        marked = subst (λ (p : Pages). ChangesAreMarked p f) (sym stays) offer.are.marked;
        going = λ going. absurd cc;
        full = λ is more. ap (λ (l : List State). kept_of (checkpoints_of (page_in opened) l)) (append_assoc states (s ∷ []) more) ∙ ap kept_of (with_more more) ∙ rejects none (checkpoints_of (page_in s.pages) more);
      }

  -- ---- where it is kept

  has_room : (n size room : ℕ) → (nat_lt n 4095 && nat_le size room) ≡ true → (n < 4095) × (size ≤ room)
  has_room n size room is =
      let both = and_parts (nat_lt n 4095) (nat_le size room) is in
      (ltb-true n 4095 both.0, leb-true size room both.1)

  zeros_unless : (page old : Option (List ℕ)) (recorded : List ℕ) → recorded ≡ unwrap_or old zero_page → (page ≡ old) ⊎ IsSome page → unwrap_or page recorded ≡ unwrap_or page zero_page
  zeros_unless (Some page) old recorded is either = refl
  zeros_unless None None recorded is either = is
  zeros_unless None (Some old) recorded is either = ⊎_elim (λ (same : None ≡ Some old). absurd cc) (λ (some : false ≡ true). absurd cc) either

  now_recorded : (q : ℕ) → last_listing (recorded_in kept.memory q) c.pages q ≡ page_in s.pages q
  now_recorded q =
      let mem : Pages = memory_after opened (take (length kept.checkpoints) states) in
      let there : get f.pages q ≡ get s.pages q = ap (λ (p : Pages). get p q) offer.memory in
      ap (λ (d : CheckpointData). last_listing (recorded_in kept.memory q) d.pages q) offer.checkpoint
      ∙ last_changed (recorded_in kept.memory) s.pages q (λ some. omega (arith, offer.frames.below q (ap is_some there ∙ some)))
      ∙ zeros_unless (get s.pages q) (get mem q) (recorded_in kept.memory q) (offer.are.recorded q)
      (⊎_elim (λ (same : get f.pages q ≡ get mem q). inl (sym there ∙ same)) (λ (marked : Contains f.dirty q). inr (sym (ap is_some there) ∙ offer.frames.mapped q marked)) (offer.are.marked q))

  pub offered_kept : (nat_lt (length kept.checkpoints) 4095 && nat_le (152 + 4100 * length c.pages) kept.room) ≡ true → (new : Kept) (g : MarkedPages) → g.pages ≡ f.pages
      → ((q : ℕ) → recorded_in new.memory q ≡ last_listing (recorded_in kept.memory q) c.pages q) → new.checkpoints ≡ kept.checkpoints ++ c ∷ [] → new.room ≡ kept.room - (152 + 4100 * length c.pages) → new.is_full ≡ kept.is_full
      → AreKept opened (states ++ s ∷ []) new g
  unfolding within_bytes
  offered_kept has new g same memory added room going =
      let fits = has_room (length kept.checkpoints) (152 + 4100 * length c.pages) kept.room has in
      let number = fits.0 in
      let long : length new.checkpoints ≡ length (states ++ s ∷ []) = ap length added ∙ omega (arith, length_push kept.checkpoints c, length_push states s, same_length) in
      let last : memory_after opened (take (length new.checkpoints) (states ++ s ∷ [])) ≡ s.pages = ap (memory_after opened) (take_all (length new.checkpoints) (states ++ s ∷ []) (omega (arith, long))) ∙ memory_after-push opened states s in
      let all : new.checkpoints ≡ checkpoints_of (page_in opened) (states ++ s ∷ []) = added ∙ sym (with_more []) in
      let goes : (more : List CheckpointData) → within_bytes MOST_CHECKPOINT_BYTES (new.checkpoints ++ more) ≡ new.checkpoints ++ within_bytes new.room more = λ more.
      ap (λ (l : List CheckpointData). within_bytes MOST_CHECKPOINT_BYTES (l ++ more)) added
      ∙ ap (within_bytes MOST_CHECKPOINT_BYTES) (append_assoc kept.checkpoints (c ∷ []) more)
      ∙ (offer.are.going offer.going).fits (c ∷ more)
      ∙ ap (λ (l : List CheckpointData). kept.checkpoints ++ l) (ap (λ size. room_if (nat_le size kept.room) c (within_bytes (kept.room - size) more)) size_is ∙ ap (λ b. room_if b c (within_bytes (kept.room - (152 + 4100 * length c.pages)) more)) (le-leb (152 + 4100 * length c.pages) kept.room fits.1))
      ∙ sym (append_assoc kept.checkpoints (c ∷ []) (within_bytes (kept.room - (152 + 4100 * length c.pages)) more))
      ∙ ap (λ (l : List CheckpointData). l ++ within_bytes (kept.room - (152 + 4100 * length c.pages)) more) (sym added)
      ∙ ap (λ r. new.checkpoints ++ within_bytes r more) (sym room) in
      record {
        listed = all_are_kept new.checkpoints new.room goes (omega (arith, ap length added, length_push kept.checkpoints c)) ∙ ap kept_of all;
        each = rw added (All-join IsCheckpoint kept.checkpoints (c ∷ []) offer.are.each (offer.is, tt));
        recorded = λ q. memory q ∙ now_recorded q ∙ sym (ap (λ (p : Pages). page_in p q) last);
        marked = λ q. inl (ap (λ (p : Pages). get p q) (same ∙ offer.memory ∙ sym last));
        going = λ is. record { all = all; fits = goes };
        full = λ full. let no = offer.going in absurd cc;
      }
