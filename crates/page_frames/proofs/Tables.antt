-- Frames that are linked by their indexes.
use Rattle.std.proofs.Common.{◌≡◌, ℕ, zero, suc, ◌%◌, ◌<◌, ◌≤◌, List, [], ◌∷◌, ◌++◌, length}
use Rattle.std.proofs.Common.{Bool, true, false, cond, Some, None, refl, ap, ◌∙◌, sym, arith}
use Rattle.std.proofs.Common.{eqb, ⊎_elim, slice_get, slice_set}
use Rattle.std.specs.Prelude.{Option, IfSome, IsSome, slice_index_or}
use Rattle.std.specs.Option.{option_map, option_and_then}
use Rattle.std.specs.Ordering.{nat_cmp}
use Rattle.std.specs.FinMap.{get, insert, get-empty, gets}
use Rattle.std.proofs.lemmas.Bool.{cases_eq}
use Rattle.std.proofs.lemmas.Grind.{common_steps}
use Rattle.std.proofs.lemmas.Option.{slice_get-get_or, slice_get_within, slice_get_past, get_or_from_slice_get, slice_get_read}
use Rattle.sl_model.specs.Pages.{Pages}
use Rattle.page_frames.specs.declared.frame.Frame.{Frame}
use Rattle.page_frames.specs.declared.table.Table.{Table}
use Rattle.page_frames.specs.Linked.{is_of_page, is_in_bucket, index_of, first_of, frame_of}
use Rattle.page_frames.specs.Linked.{with_frame, pages_below, pages_of, IsFrame, IsTable}
use Rattle.page_frames.proofs.Newest.{newest-same, newest-found, newest-start, past}

-- ---- lists of frames

pub slice_get-set_same : (frames : List Frame) (i : ℕ) (new : Frame) → i < length frames
    → slice_get (slice_set frames i new) i ≡ Some new
slice_get-set_same [] i new within = absurd (omega arith)
slice_get-set_same (f ∷ fs) zero new within = refl
slice_get-set_same (f ∷ fs) (suc i) new within = slice_get-set_same fs i new (omega arith)

pub slice_get-set_other : (frames : List Frame) (i j : ℕ) (new : Frame) → (j ≡ i → ⊥)
    → slice_get (slice_set frames i new) j ≡ slice_get frames j
slice_get-set_other [] i j new apart = refl
slice_get-set_other (f ∷ fs) zero zero new apart = absurd (apart refl)
slice_get-set_other (f ∷ fs) zero (suc j) new apart = refl
slice_get-set_other (f ∷ fs) (suc i) zero new apart = refl
slice_get-set_other (f ∷ fs) (suc i) (suc j) new apart =
    slice_get-set_other fs i j new (λ same. apart (omega (arith, same)))

pub slice_get-append_left : (frames more : List Frame) (i : ℕ) → i < length frames
    → slice_get (frames ++ more) i ≡ slice_get frames i
slice_get-append_left [] more i within = absurd (omega arith)
slice_get-append_left (f ∷ fs) more zero within = refl
slice_get-append_left (f ∷ fs) more (suc i) within = slice_get-append_left fs more i (omega arith)

-- ---- the pages and the frames

equal : (x y : ℕ) → eqb x y ≡ true → x ≡ y
equal x y h = grind (arith, common_steps)

get-insert_page : (pages : Pages) (number : ℕ) (page : List ℕ) (q : ℕ)
    → get (insert pages number page) q ≡ cond (eqb number q) (Some page) (get pages q)
get-insert_page pages number page q = grind (arith, gets, common_steps)

chosen : (b : Bool) (frames : List Frame) (n : ℕ) (f : Frame) (o : Option ℕ) → slice_get frames n ≡ Some f
    → cond b (Some f.bytes) (option_map (λ f. f.bytes) (option_and_then (λ i. slice_get frames i) o))
    ≡ option_map (λ f. f.bytes) (option_and_then (λ i. slice_get frames i) (cond b (Some n) o))
chosen true frames n f o is = rw is refl
chosen false frames n f o is = refl

seen_by : (frames : List Frame) (n q : ℕ) (pages : Pages) (o : Option Frame) → slice_get frames n ≡ o
    → get pages q ≡ option_map (λ f. f.bytes) (option_and_then (λ i. slice_get frames i) (index_of frames n q))
    → get (with_frame o pages) q
    ≡ option_map (λ f. f.bytes) (option_and_then (λ i. slice_get frames i)
    (cond (is_of_page q o) (Some n) (index_of frames n q)))
seen_by frames n q pages None is below = below
seen_by frames n q pages (Some f) is below =
    get-insert_page pages f.page f.bytes q ∙ ap (cond (eqb f.page q) (Some f.bytes)) below
    ∙ chosen (eqb f.page q) frames n f (index_of frames n q) is

pub get-pages_below : (frames : List Frame) (n q : ℕ) → get (pages_below frames n) q
    ≡ option_map (λ f. f.bytes) (option_and_then (λ i. slice_get frames i) (index_of frames n q))
get-pages_below frames zero q = get-empty nat_cmp q
get-pages_below frames (suc n) q =
    seen_by frames n q (pages_below frames n) (slice_get frames n) refl (get-pages_below frames n q)

-- a page holds the bytes of its frame
pub get-pages_of : (t : Table) (q : ℕ) → get (pages_of t) q ≡ option_map (λ f. f.bytes) (frame_of t q)
get-pages_of t q = get-pages_below t.frames.items t.used q

-- the frame of a page has its number
of_page : (page : ℕ) (o : Option Frame) (f : Frame) → o ≡ Some f → is_of_page page o ≡ true → f.page ≡ page
of_page page None f is taken = absurd cc
of_page page (Some g) f is taken =
    let same : g ≡ f = cc in
    rw (← same) (equal g.page page taken)

pub record Found (frames : List Frame) (n page i : ℕ) (f : Frame) : Type 0 where
  pub below : i < n
  pub number : f.page ≡ page

pub found : (frames : List Frame) (n page i : ℕ) (f : Frame) → index_of frames n page ≡ Some i
    → slice_get frames i ≡ Some f → Found frames n page i f
found frames n page i f is at =
    let both = newest-found (λ i. is_of_page page (slice_get frames i)) n i is in
    record { below = both.0; number = of_page page (slice_get frames i) f at both.1 }

indexed_by : (frames : List Frame) (page i : ℕ) → (o : Option Frame) → slice_get frames i ≡ o
    → is_of_page page o ≡ true → IsSome o
indexed_by frames page i None is taken = absurd cc
indexed_by frames page i (Some f) is taken = refl

-- a page with an index has a frame
pub frame_at : (frames : List Frame) (n page i : ℕ) → index_of frames n page ≡ Some i
    → IsSome (slice_get frames i)
frame_at frames n page i is =
    indexed_by frames page i (slice_get frames i) refl
    (newest-found (λ i. is_of_page page (slice_get frames i)) n i is).1

-- ---- a frame that is written in its place

kept_page : (old new : Frame) (o : Option Frame) (q : ℕ) → o ≡ Some old → new.page ≡ old.page
    → is_of_page q (Some new) ≡ is_of_page q o
kept_page old new o q is same = rw is (ap (λ p. eqb p q) same)

kept_bucket : (old new : Frame) (o : Option Frame) (b : ℕ) → o ≡ Some old → new.page ≡ old.page
    → is_in_bucket b (Some new) ≡ is_in_bucket b o
kept_bucket old new o b is same = rw is (ap (λ p. eqb (p % 4096) b) same)

page_tests : (frames : List Frame) (i : ℕ) (old new : Frame) → slice_get frames i ≡ Some old
    → new.page ≡ old.page → (q j : ℕ)
    → is_of_page q (slice_get (slice_set frames i new) j) ≡ is_of_page q (slice_get frames j)
page_tests frames i old new is same q j = ⊎_elim
    (λ (here : j ≡ i). rw (here, slice_get-set_same frames i new (slice_get_within frames i old is))
    (kept_page old new (slice_get frames i) q is same))
    (λ (apart : j ≡ i → ⊥). ap (is_of_page q) (slice_get-set_other frames i j new apart))
    (cases_eq j i)

bucket_tests : (frames : List Frame) (i : ℕ) (old new : Frame) → slice_get frames i ≡ Some old
    → new.page ≡ old.page → (b j : ℕ)
    → is_in_bucket b (slice_get (slice_set frames i new) j) ≡ is_in_bucket b (slice_get frames j)
bucket_tests frames i old new is same b j = ⊎_elim
    (λ (here : j ≡ i). rw (here, slice_get-set_same frames i new (slice_get_within frames i old is))
    (kept_bucket old new (slice_get frames i) b is same))
    (λ (apart : j ≡ i → ⊥). ap (is_in_bucket b) (slice_get-set_other frames i j new apart))
    (cases_eq j i)

pub index-written : (frames : List Frame) (i : ℕ) (old new : Frame) → slice_get frames i ≡ Some old
    → new.page ≡ old.page → (n q : ℕ) → index_of (slice_set frames i new) n q ≡ index_of frames n q
index-written frames i old new is same n q =
    newest-same _ _ n (λ j lt. page_tests frames i old new is same q j)

pub first-written : (frames : List Frame) (i : ℕ) (old new : Frame) → slice_get frames i ≡ Some old
    → new.page ≡ old.page → (n b : ℕ) → first_of (slice_set frames i new) n b ≡ first_of frames n b
first-written frames i old new is same n b =
    newest-same _ _ n (λ j lt. bucket_tests frames i old new is same b j)

-- ---- a walk along a bucket

-- a page stands in the bucket of its number
of_bucket : (page : ℕ) (o : Option Frame) → is_of_page page o ≡ true
    → is_in_bucket (page % 4096) o ≡ true
of_bucket page None taken = taken
of_bucket page (Some f) taken =
    let same : f.page ≡ page = equal f.page page taken in
    rw same (grind (arith, common_steps))

first_found : (frames : List Frame) (n b : ℕ) (o : Option ℕ) → first_of frames n b ≡ o
    → (past o ≤ n) × IfSome o (λ i. is_in_bucket b (slice_get frames i) ≡ true)
first_found frames n b None is = (omega arith, tt)
first_found frames n b (Some i) is =
    let both = newest-found (λ i. is_in_bucket b (slice_get frames i)) n i is in
    (omega (arith, both.0), both.1)

-- where a walk along a bucket begins or goes on
pub record Stands (frames : List Frame) (n page : ℕ) (at : Option ℕ) : Type 0 where
  pub same : index_of frames (past at) page ≡ index_of frames n page
  pub within : past at ≤ n
  pub bucket : IfSome at (λ i. is_in_bucket (page % 4096) (slice_get frames i) ≡ true)

pub stands-first : (frames : List Frame) (n page : ℕ) (at : Option ℕ)
    → at ≡ first_of frames n (page % 4096) → Stands frames n page at
stands-first frames n page at is =
    let parts = first_found frames n (page % 4096) at (sym is) in
    record {
      same = ap (λ o. index_of frames (past o) page) is
          ∙ sym (newest-start (λ i. is_of_page page (slice_get frames i))
          (λ i. is_in_bucket (page % 4096) (slice_get frames i)) n
          (λ i lt. of_bucket page (slice_get frames i)));
      within = parts.0;
      bucket = parts.1;
    }

in_bucket : (f : Frame) (o : Option Frame) (b : ℕ) → o ≡ Some f → is_in_bucket b o ≡ true
    → f.page % 4096 ≡ b
in_bucket f o b is taken = equal (f.page % 4096) b (rw is at taken)

linked_at : (frames : List Frame) (i : ℕ) (f : Frame) (o : Option Frame) → o ≡ Some f
    → IfSome o (IsFrame frames i) → IsFrame frames i f
linked_at frames i f o is linked = rw is at linked

-- what is known of a frame in use
pub frame-linked : (t : Table) (i : ℕ) (f : Frame) → IsTable t → i < t.used
    → slice_get t.frames.items i ≡ Some f → IsFrame t.frames.items i f
frame-linked t i f is lt at =
    linked_at t.frames.items i f (slice_get t.frames.items i) at (is.linked i lt)

-- an index that is read
pub read_at : (t : Table) (i : ℕ) (f : Frame) → IsTable t → i < t.used
    → f ≡ slice_index_or t.frames.items i f → slice_get t.frames.items i ≡ Some f
read_at t i f is lt at =
    slice_get_read t.frames.items (length t.frames.items) i f refl (omega (arith, is.within)) at

not_here : (frames : List Frame) (i page : ℕ) (f : Frame) (o : Option Frame) → o ≡ Some f
    → (f.page ≡ page → ⊥)
    → cond (is_of_page page o) (Some i) (index_of frames i page) ≡ index_of frames i page
not_here frames i page f o is apart =
    let no : is_of_page page o ≡ false = rw is (grind (arith, common_steps, apart)) in
    rw no refl

-- the walk goes on behind a frame of another page
pub stands-next : (t : Table) (page i : ℕ) (f : Frame) → IsTable t
    → Stands t.frames.items t.used page (Some i) → slice_get t.frames.items i ≡ Some f
    → (f.page ≡ page → ⊥) → Stands t.frames.items t.used page f.next
stands-next t page i f is stands at apart =
    let here = frame-linked t i f is (omega (arith, stands.within)) at in
    let bucket : f.page % 4096 ≡ page % 4096 =
    in_bucket f (slice_get t.frames.items i) (page % 4096) at stands.bucket in
    let next : f.next ≡ first_of t.frames.items i (page % 4096) =
    here.next ∙ ap (first_of t.frames.items i) bucket in
    let on = stands-first t.frames.items i page f.next next in
    record {
      same = on.same ∙ sym (not_here t.frames.items i page f (slice_get t.frames.items i) at apart)
          ∙ stands.same;
      within = omega (arith, on.within, stands.within);
      bucket = on.bucket;
    }

-- it goes to a lower index
pub next_lower : (t : Table) (page i : ℕ) (f : Frame) → IsTable t
    → Stands t.frames.items t.used page (Some i) → slice_get t.frames.items i ≡ Some f
    → past f.next < suc i
next_lower t page i f is stands at =
    let here = frame-linked t i f is (omega (arith, stands.within)) at in
    let lower = (first_found t.frames.items i (f.page % 4096) f.next (sym here.next)).0 in
    omega (arith, lower)

here_by : (frames : List Frame) (i page : ℕ) (f : Frame) (o : Option Frame) → o ≡ Some f
    → f.page ≡ page → cond (is_of_page page o) (Some i) (index_of frames i page) ≡ Some i
here_by frames i page f o is same =
    let yes : is_of_page page o ≡ true = rw is (grind (arith, common_steps, same)) in
    rw yes refl

-- the walk ends at the frame of the page
pub stands-here : (frames : List Frame) (n page i : ℕ) (f : Frame)
    → Stands frames n page (Some i) → slice_get frames i ≡ Some f → f.page ≡ page
    → index_of frames n page ≡ Some i
stands-here frames n page i f stands at same =
    sym stands.same ∙ here_by frames i page f (slice_get frames i) at same

pub ruleset get_pages = (get-pages_of, slice_get_read)
