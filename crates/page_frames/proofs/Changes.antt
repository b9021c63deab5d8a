-- How a table of frames changes.
use Rattle.std.proofs.Common.{◌≡◌, ℕ, zero, suc, ◌+◌, ◌%◌, ◌<◌, ◌≤◌, List, [], ◌∷◌, length}
use Rattle.std.proofs.Common.{Bool, true, false, cond, Some, None, refl, ap, ◌∙◌, sym, arith}
use Rattle.std.proofs.Common.{eqb, ⊎_elim, ◌≢◌, slice_get, slice_set, length-append, replicate}
use Rattle.std.specs.Prelude.{Option, IfSome, IsSome, is_some, slice_index_or}
use Rattle.std.specs.Option.{option_map, option_and_then}
use Rattle.std.specs.Ordering.{nat_cmp}
use Rattle.std.specs.Vec.{with_item}
use Rattle.std.specs.Cmp.{nat_cmp_total}
use Rattle.std.specs.FinMap.{get, len, empty, len-insert, len-empty, contains_key}
use Rattle.std.proofs.lemmas.Bool.{cases_eq}
use Rattle.std.proofs.lemmas.Bool.Decides.{eqb_tells}
use Rattle.std.proofs.lemmas.Option.{slice_get_within, IfSome_then}
use Rattle.std.proofs.lemmas.List.{get_or-set_same, get_or-set_other, get_or-replicate}
use Rattle.std.proofs.lemmas.List.{length-replicate}
use Rattle.std.proofs.Math.ListN.{length-set}
use Rattle.sl_model.specs.Pages.{IsPage}
use Rattle.sl_model.specs.declared.layout.TheConstants.{PROGRAM_PAGES, MOST_PAGES}
use Rattle.page_frames.specs.declared.frame.Frame.{Frame}
use Rattle.page_frames.specs.declared.table.Table.{Table}
use Rattle.page_frames.specs.Linked.{is_of_page, is_in_bucket, index_of, first_of, frame_of}
use Rattle.page_frames.specs.Linked.{with_frame, pages_below, pages_of, IsFrame, IsTable, IsGrown, Puts}
use Rattle.page_frames.proofs.Newest.{newest-same, newest-found}
use Rattle.page_frames.proofs.Tables.{slice_get-set_same, slice_get-set_other, slice_get-append_left}
use Rattle.page_frames.proofs.Tables.{index-written, first-written, found, frame_at}
use Rattle.page_frames.proofs.Tables.{frame-linked, get-pages_below, read_at}

-- ---- frames that agree below a bound

Agree : List Frame → List Frame → ℕ → Type 0
Agree frames others n = (i : ℕ) → i < n → slice_get others i ≡ slice_get frames i

index-agree : (frames others : List Frame) (n q : ℕ) → Agree frames others n
    → index_of others n q ≡ index_of frames n q
unfolding Agree
index-agree frames others n q agree = newest-same _ _ n (λ i lt. ap (is_of_page q) (agree i lt))

first-agree : (frames others : List Frame) (n b : ℕ) → Agree frames others n
    → first_of others n b ≡ first_of frames n b
unfolding Agree
first-agree frames others n b agree = newest-same _ _ n (λ i lt. ap (is_in_bucket b) (agree i lt))

pages-agree : (frames others : List Frame) (n : ℕ) → Agree frames others n
    → pages_below others n ≡ pages_below frames n
unfolding Agree
pages-agree frames others zero agree = refl
pages-agree frames others (suc n) agree =
    rw (agree n (omega arith), pages-agree frames others n (λ i lt. agree i (omega arith))) refl

IsFrame-agree : (frames others : List Frame) (i : ℕ) (f : Frame) → Agree frames others i
    → IsFrame frames i f → IsFrame others i f
IsFrame-agree frames others i f agree is = record {
  next = is.next ∙ sym (first-agree frames others i (f.page % 4096) agree);
  alone = index-agree frames others i f.page agree ∙ is.alone;
  whole = is.whole;
  below = is.below;
}

linked_same : (frames others : List Frame) (i : ℕ) → Agree frames others i
    → slice_get others i ≡ slice_get frames i → IfSome (slice_get frames i) (IsFrame frames i)
    → IfSome (slice_get others i) (IsFrame others i)
linked_same frames others i agree here linked =
    rw here (IfSome_then (slice_get frames i) linked (λ f is. IsFrame-agree frames others i f agree is))

found_agree : (frames others : List Frame) (n q : ℕ) → Agree frames others n → (o : Option ℕ)
    → index_of frames n q ≡ o → option_and_then (λ i. slice_get others i) o
    ≡ option_and_then (λ i. slice_get frames i) o
unfolding Agree
found_agree frames others n q agree None is = refl
found_agree frames others n q agree (Some i) is =
    agree i (newest-found (λ i. is_of_page q (slice_get frames i)) n i is).0

frame-agree : (frames others : List Frame) (n q : ℕ) → Agree frames others n
    → option_and_then (λ i. slice_get others i) (index_of others n q)
    ≡ option_and_then (λ i. slice_get frames i) (index_of frames n q)
frame-agree frames others n q agree =
    ap (option_and_then (λ i. slice_get others i)) (index-agree frames others n q agree)
    ∙ found_agree frames others n q agree (index_of frames n q) refl

-- ---- more spare frames

grown : (t u : Table) → IsGrown t u → IsTable t → Agree t.frames.items u.frames.items t.used
unfolding Agree
grown t u more is i lt =
    rw more.frames.1 (slice_get-append_left t.frames.items more.frames.0 i (omega (arith, is.within)))

pub IsTable-grown : (t u : Table) → IsGrown t u → IsTable t → IsTable u
unfolding Agree
IsTable-grown t u more is =
    let agree = grown t u more is in
    record {
      heads = λ b lt. rw (more.heads, more.used)
          (is.heads b lt ∙ sym (first-agree t.frames.items u.frames.items t.used b agree));
      linked = λ i lt.
          let below : i < t.used = omega (arith, more.used) in
          linked_same t.frames.items u.frames.items i (λ j before. agree j (omega arith))
          (agree i below) (is.linked i below);
      buckets = rw more.heads is.buckets;
      within = omega (
        arith,
        is.within,
        more.used,
        ap length more.frames.1,
        length-append t.frames.items more.frames.0,
      );
      few = rw more.used is.few;
    }

pub frame_of-grown : (t u : Table) → IsGrown t u → IsTable t → (q : ℕ) → frame_of u q ≡ frame_of t q
frame_of-grown t u more is q =
    rw more.used (frame-agree t.frames.items u.frames.items t.used q (grown t u more is))

pub pages_of-grown : (t u : Table) → IsGrown t u → IsTable t → pages_of u ≡ pages_of t
pages_of-grown t u more is =
    rw more.used (pages-agree t.frames.items u.frames.items t.used (grown t u more is))

-- ---- a frame that is written in its place

pub record IsWritten (t : Table) (i : ℕ) (old new : Frame) (u : Table) : Type 0 where
  pub at : slice_get t.frames.items i ≡ Some old
  pub frames : u.frames.items ≡ slice_set t.frames.items i new
  pub heads : u.heads ≡ t.heads
  pub used : u.used ≡ t.used
  pub page : new.page ≡ old.page
  pub next : new.next ≡ old.next

linked_new : (frames others : List Frame) (i : ℕ) (old new : Frame)
    → ((b : ℕ) → first_of others i b ≡ first_of frames i b)
    → ((q : ℕ) → index_of others i q ≡ index_of frames i q)
    → new.page ≡ old.page → new.next ≡ old.next → IsPage new.bytes → IsFrame frames i old
    → IsFrame others i new
linked_new frames others i old new first index page next whole is = record {
  next = next ∙ is.next ∙ sym (first (old.page % 4096)) ∙ ap (λ p. first_of others i (p % 4096)) (sym page);
  alone = ap (index_of others i) page ∙ index old.page ∙ is.alone;
  whole = whole;
  below = rw page is.below;
}

linked_other : (frames others : List Frame) (j : ℕ)
    → ((b : ℕ) → first_of others j b ≡ first_of frames j b)
    → ((q : ℕ) → index_of others j q ≡ index_of frames j q)
    → (f : Frame) → IsFrame frames j f → IsFrame others j f
linked_other frames others j first index f is =
    linked_new frames others j f f first index refl refl is.whole is

linked_written : (t : Table) (i : ℕ) (old new : Frame) → IsTable t → slice_get t.frames.items i ≡ Some old
    → new.page ≡ old.page → new.next ≡ old.next → IsPage new.bytes → (j : ℕ) → j < t.used
    → IfSome (slice_get (slice_set t.frames.items i new) j) (IsFrame (slice_set t.frames.items i new) j)
linked_written t i old new is at page next whole j lt =
    let frames = t.frames.items in
    let others = slice_set frames i new in
    let first = first-written frames i old new at page j in
    let index = index-written frames i old new at page j in
    ⊎_elim
    (λ (same : j ≡ i).
    rw (same, slice_get-set_same frames i new (slice_get_within frames i old at))
    (linked_new frames others i old new (first-written frames i old new at page i)
    (index-written frames i old new at page i) page next whole
    (frame-linked t i old is (omega (arith, same)) at)))
    (λ (apart : j ≡ i → ⊥). rw (slice_get-set_other frames i j new apart)
    (IfSome_then (slice_get frames j) (is.linked j lt) (linked_other frames others j first index)))
    (cases_eq j i)

pub IsTable-written : (t u : Table) (i : ℕ) (old new : Frame) → IsWritten t i old new u → IsTable t
    → IsPage new.bytes → IsTable u
IsTable-written t u i old new written is whole = record {
  heads = λ b lt. rw (written.heads, written.frames, written.used)
      (is.heads b lt ∙ sym (first-written t.frames.items i old new written.at written.page t.used b));
  linked = λ j lt. rw written.frames
      (linked_written t i old new is written.at written.page written.next whole j (omega (arith, written.used)));
  buckets = rw written.heads is.buckets;
  within = rw (written.frames, written.used) (omega (arith, is.within, length-set t.frames.items i new));
  few = rw written.used is.few;
}

other_frame : (frames : List Frame) (n page q i : ℕ) (old new : Frame) → index_of frames n page ≡ Some i
    → slice_get frames i ≡ Some old → (page ≡ q → ⊥) → (o : Option ℕ) → index_of frames n q ≡ o
    → option_and_then (λ j. slice_get (slice_set frames i new) j) o
    ≡ option_and_then (λ j. slice_get frames j) o
other_frame frames n page q i old new index at apart None is = refl
other_frame frames n page q i old new index at apart (Some j) is =
    slice_get-set_other frames i j new (λ (same : j ≡ i).
    let here = found frames n page i old index at in
    let there = found frames n q j old is (ap (slice_get frames) same ∙ at) in
    apart (sym here.number ∙ there.number))

pub Puts-written : (t u : Table) (page i : ℕ) (old new : Frame) → IsWritten t i old new u
    → index_of t.frames.items t.used page ≡ Some i → Puts t page new u
Puts-written t u page i old new written index = record {
  got = λ q.
      let frames = t.frames.items in
      let others = slice_set frames i new in
      let same_index : index_of others t.used q ≡ index_of frames t.used q =
      index-written frames i old new written.at written.page t.used q in
      rw (written.frames, written.used)
      (ap (option_and_then (λ j. slice_get others j)) same_index ∙ ⊎_elim
      (λ (same : (eqb page q ≡ true) × (page ≡ q)).
      rw (same.0, ← same.1, index) (slice_get-set_same frames i new (slice_get_within frames i old written.at)))
      (λ (differ : (eqb page q ≡ false) × (page ≢ q)).
      rw differ.0 (other_frame frames t.used page q i old new index written.at differ.1 (index_of frames t.used q) refl))
      (eqb_tells page q));
}

-- ---- a spare frame that comes into use

pub record IsAdded (t : Table) (page : ℕ) (new : Frame) (u : Table) : Type 0 where
  pub frames : u.frames.items ≡ slice_set t.frames.items t.used new
  pub heads : u.heads ≡ slice_set t.heads (page % 4096) (Some t.used)
  pub used : u.used ≡ suc t.used
  pub number : new.page ≡ page
  pub next : new.next ≡ slice_index_or t.heads (page % 4096) None
  pub spare : t.used < length t.frames.items

added_agree : (frames : List Frame) (n : ℕ) (new : Frame) → Agree frames (slice_set frames n new) n
unfolding Agree
added_agree frames n new i lt = slice_get-set_other frames n i new (λ same. omega arith)

unmapped_by : (frames : List Frame) (n page : ℕ) (o : Option ℕ) → index_of frames n page ≡ o
    → option_and_then (λ i. slice_get frames i) o ≡ None → o ≡ None
unmapped_by frames n page None is none = refl
unmapped_by frames n page (Some i) is none =
    let some = frame_at frames n page i is in
    absurd (contradiction (slice_get frames i) none some)
  where
    contradiction : (o : Option Frame) → o ≡ None → IsSome o → ⊥
    contradiction None none some = cc
    contradiction (Some f) none some = cc

-- a page with no frame has no index
pub unmapped : (t : Table) (page : ℕ) → frame_of t page ≡ None
    → index_of t.frames.items t.used page ≡ None
unmapped t page none =
    unmapped_by t.frames.items t.used page (index_of t.frames.items t.used page) refl none

head_by : (heads : List (Option ℕ)) (frames : List Frame) (n page b : ℕ) (new : Frame) (o : Option Frame)
    → o ≡ Some new → new.page ≡ page → page % 4096 < length heads
    → slice_index_or heads b None ≡ first_of frames n b
    → slice_index_or (slice_set heads (page % 4096) (Some n)) b None
    ≡ cond (is_in_bucket b o) (Some n) (first_of frames n b)
head_by heads frames n page b new o is same within before = ⊎_elim
    (λ (here : (eqb (page % 4096) b ≡ true) × (page % 4096 ≡ b)).
    let yes : is_in_bucket b o ≡ true = rw (is, same) here.0 in
    rw (yes, ← here.1) (get_or-set_same heads (page % 4096) (Some n) None within))
    (λ (apart : (eqb (page % 4096) b ≡ false) × (page % 4096 ≢ b)).
    let no : is_in_bucket b o ≡ false = rw (is, same) apart.0 in
    rw no (get_or-set_other heads (page % 4096) b (Some n) None (λ e. apart.1 (sym e)) ∙ before))
    (eqb_tells (page % 4096) b)

linked_added : (t : Table) (page : ℕ) (new : Frame) → IsTable t → new.page ≡ page
    → new.next ≡ first_of t.frames.items t.used (page % 4096) → frame_of t page ≡ None
    → t.used < length t.frames.items → IsPage new.bytes → page < PROGRAM_PAGES
    → (i : ℕ) → i < suc t.used
    → IfSome (slice_get (slice_set t.frames.items t.used new) i) (IsFrame (slice_set t.frames.items t.used new) i)
unfolding Agree
linked_added t page new is same next none spare whole below i lt =
    let frames = t.frames.items in
    let others = slice_set frames t.used new in
    let agree = added_agree frames t.used new in
    ⊎_elim
    (λ (here : i ≡ t.used). rw (here, slice_get-set_same frames t.used new spare) (record {
      next = next ∙ ap (λ p. first_of frames t.used (p % 4096)) (sym same)
          ∙ sym (first-agree frames others t.used (new.page % 4096) agree);
      alone = index-agree frames others t.used new.page agree ∙ ap (index_of frames t.used) same ∙ unmapped t page none;
      whole = whole;
      below = rw same below;
    }))
    (λ (apart : i ≡ t.used → ⊥).
    let before : i < t.used = omega (arith, apart) in
    linked_same frames others i (λ j lower. agree j (omega arith)) (agree i before) (is.linked i before))
    (cases_eq i t.used)

pub IsTable-added : (t u : Table) (page : ℕ) (new : Frame) → IsAdded t page new u → IsTable t
    → frame_of t page ≡ None → IsPage new.bytes → page < PROGRAM_PAGES → t.used < MOST_PAGES → IsTable u
IsTable-added t u page new added is none whole below few =
    let frames = t.frames.items in
    let others = slice_set frames t.used new in
    let agree = added_agree frames t.used new in
    record {
      heads = λ b lt. rw (added.heads, added.frames, added.used)
          (head_by t.heads others t.used page b new (slice_get others t.used)
          (slice_get-set_same frames t.used new added.spare) added.number (omega (arith, is.buckets))
          (is.heads b lt ∙ sym (first-agree frames others t.used b agree)));
      linked = λ i lt. rw added.frames
          (linked_added t page new is added.number (added.next ∙ is.heads (page % 4096) (omega arith)) none
          added.spare whole below i (omega (arith, added.used)));
      buckets = rw added.heads (length-set t.heads (page % 4096) (Some t.used) ∙ is.buckets);
      within = rw (added.frames, added.used) (omega (arith, added.spare, length-set frames t.used new));
      few = rw added.used (omega arith);
    }

got_by : (frames others : List Frame) (n q page : ℕ) (new : Frame) (o : Option Frame) → o ≡ Some new
    → slice_get others n ≡ Some new → new.page ≡ page
    → option_and_then (λ i. slice_get others i) (index_of others n q)
    ≡ option_and_then (λ i. slice_get frames i) (index_of frames n q)
    → option_and_then (λ i. slice_get others i) (cond (is_of_page q o) (Some n) (index_of others n q))
    ≡ cond (eqb page q) (Some new) (option_and_then (λ i. slice_get frames i) (index_of frames n q))
got_by frames others n q page new o is at same before =
    let test : is_of_page q o ≡ eqb page q = rw (is, same) refl in
    rw test (by (eqb page q))
  where
    by : (b : Bool) → option_and_then (λ i. slice_get others i) (cond b (Some n) (index_of others n q))
        ≡ cond b (Some new) (option_and_then (λ i. slice_get frames i) (index_of frames n q))
    by true = at
    by false = before

pub Puts-added : (t u : Table) (page : ℕ) (new : Frame) → IsAdded t page new u → Puts t page new u
Puts-added t u page new added = record {
  got = λ q.
      let frames = t.frames.items in
      let others = slice_set frames t.used new in
      let at = slice_get-set_same frames t.used new added.spare in
      rw (added.frames, added.used)
      (got_by frames others t.used q page new (slice_get others t.used) at at added.number
      (frame-agree frames others t.used q (added_agree frames t.used new)));
}

-- ---- no frame in use

pub IsTable-empty : (t : Table) → t.heads ≡ replicate 4096 None → t.used ≡ 0 → IsTable t
IsTable-empty t heads none = record {
  heads = λ b lt. rw (heads, none) (get_or-replicate 4096 b None None lt);
  linked = λ i lt. absurd (omega arith);
  buckets = rw heads (length-replicate {A = Option ℕ} 4096 None);
  within = omega arith;
  few = omega arith;
}

pub pages_of-empty : (t : Table) → t.used ≡ 0 → pages_of t ≡ empty
pages_of-empty t none = rw none refl

pub frame_of-empty : (t : Table) (q : ℕ) → t.used ≡ 0 → frame_of t q ≡ None
frame_of-empty t q none = rw none refl

-- ---- how many pages there are

counted_by : (frames : List Frame) (n : ℕ) (o : Option Frame) → slice_get frames n ≡ o → IsSome o
    → IfSome o (IsFrame frames n) → len (pages_below frames n) ≡ n
    → len (with_frame o (pages_below frames n)) ≡ suc n
counted_by frames n None is some linked before = absurd cc
counted_by frames n (Some f) is some linked before =
    let none : get (pages_below frames n) f.page ≡ None =
    get-pages_below frames n f.page ∙ ap (λ o. option_map (λ f. f.bytes) (option_and_then (λ i. slice_get frames i) o)) linked.alone in
    let absent : contains_key (pages_below frames n) f.page ≡ false = ap is_some none in
    len-insert nat_cmp_total (pages_below frames n) f.page f.bytes
    ∙ ap (λ (b : Bool). cond b (len (pages_below frames n)) (len (pages_below frames n) + 1)) absent
    ∙ omega (arith, before)

in_use : (frames : List Frame) (i : ℕ) → i < length frames → IsSome (slice_get frames i)
in_use [] i lt = absurd (omega arith)
in_use (f ∷ fs) zero lt = refl
in_use (f ∷ fs) (suc i) lt = in_use fs i (omega arith)

counted : (frames : List Frame) (n : ℕ) → n ≤ length frames
    → ((i : ℕ) → i < n → IfSome (slice_get frames i) (IsFrame frames i))
    → len (pages_below frames n) ≡ n
counted frames zero within linked = len-empty nat_cmp (List ℕ)
counted frames (suc n) within linked =
    counted_by frames n (slice_get frames n) refl (in_use frames n (omega arith)) (linked n (omega arith))
    (counted frames n (omega arith) (λ i lt. linked i (omega arith)))

-- there are as many pages as frames in use
pub len-pages_of : (t : Table) → IsTable t → len (pages_of t) ≡ t.used
len-pages_of t is = counted t.frames.items t.used is.within is.linked

-- ---- an index that was found

found_slot : (t : Table) (page index : ℕ) → Some index ≡ index_of t.frames.items t.used page
    → index < t.used
found_slot t page index is =
    (newest-found (λ i. is_of_page page (slice_get t.frames.items i)) t.used index (sym is)).0

pub frame-read : (t : Table) (page index : ℕ) (f : Frame) → IsTable t
    → Some index ≡ index_of t.frames.items t.used page → f ≡ slice_index_or t.frames.items index f
    → Some f ≡ frame_of t page
frame-read t page index f is index_is at =
    rw (← index_is) (sym (read_at t index f is (found_slot t page index index_is) at))

pub IsWritten-at : (t : Table) (page index : ℕ) (old new : Frame) → IsTable t
    → Some index ≡ index_of t.frames.items t.used page
    → old ≡ slice_index_or t.frames.items index old → new.page ≡ old.page → new.next ≡ old.next
    → IsWritten t index old new (record t { frames = with_item t.frames index new })
IsWritten-at t page index old new is index_is at number next = record {
  at = read_at t index old is (found_slot t page index index_is) at;
  frames = refl;
  heads = refl;
  used = refl;
  page = number;
  next = next;
}
