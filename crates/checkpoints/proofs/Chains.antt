-- Listings of pages that are chained by their indexes.
use Rattle.std.proofs.Common.{◌≡◌, ◌≢◌, ℕ, zero, suc, ◌%◌, ◌<◌, ◌≤◌, List, [], ◌∷◌, ◌++◌, length}
use Rattle.std.proofs.Common.{Bool, true, false, cond, Some, None, refl, ap, ◌∙◌, sym, subst, arith}
use Rattle.std.proofs.Common.{eqb, ⊎_elim, slice_get, slice_set, length-append, replicate}
use Rattle.std.specs.Prelude.{Option, IfSome, is_some, not, ◌&&◌, nat_lt, slice_index_or}
use Rattle.std.proofs.lemmas.Bool.{cases_eq}
use Rattle.std.proofs.lemmas.Bool.Decides.{eqb_tells}
use Rattle.std.proofs.lemmas.Grind.{common_steps}
use Rattle.std.proofs.lemmas.Option.{slice_get_within, slice_get_read}
use Rattle.std.proofs.lemmas.List.{get_or-set_same, get_or-set_other, get_or-replicate, length-replicate}
use Rattle.std.proofs.Math.ListN.{length-set}
use Rattle.page_frames.specs.Linked.{newest}
use Rattle.page_frames.proofs.Newest.{newest-same, newest-found, newest-start, past}
use Rattle.checkpoints.specs.declared.versions.Version.{Version}
use Rattle.checkpoints.specs.Versions.{is_of_page, is_in_bucket, version_of, first_of, IsLinked, IsChain}

-- ---- an item behind others

pub slice_get-left : {X : Type 0} (xs ys : List X) (i : ℕ) → i < length xs
    → slice_get (xs ++ ys) i ≡ slice_get xs i
slice_get-left [] ys i lt = absurd (omega arith)
slice_get-left (x ∷ xs) ys zero lt = refl
slice_get-left (x ∷ xs) ys (suc i) lt = slice_get-left xs ys i (omega arith)

pub slice_get-last : {X : Type 0} (xs : List X) (y : X) → slice_get (xs ++ y ∷ []) (length xs) ≡ Some y
slice_get-last [] y = refl
slice_get-last (x ∷ xs) y = slice_get-last xs y

equal : (x y : ℕ) → eqb x y ≡ true → x ≡ y
equal x y h = grind (arith, common_steps)

pub turned : (a b : Bool) → a ≡ not b → b ≡ not a
turned a true e = rw e refl
turned a false e = rw e refl

version-left : (items more : List Version) (n page : ℕ) → n ≤ length items
    → version_of (items ++ more) n page ≡ version_of items n page
version-left items more n page within =
    newest-same _ _ n (λ i lt. ap (is_of_page page) (slice_get-left items more i (omega (arith, within))))

first-left : (items more : List Version) (n bucket : ℕ) → n ≤ length items
    → first_of (items ++ more) n bucket ≡ first_of items n bucket
first-left items more n bucket within =
    newest-same _ _ n (λ i lt. ap (is_in_bucket bucket) (slice_get-left items more i (omega (arith, within))))

-- ---- a further listing

head_by : (heads : List (Option ℕ)) (items : List Version) (b n : ℕ) (v : Version) (o : Option Version)
    → o ≡ Some v → v.page % 4096 < length heads
    → slice_index_or heads b None ≡ first_of items n b
    → slice_index_or (slice_set heads (v.page % 4096) (Some n)) b None
    ≡ cond (is_in_bucket b o) (Some n) (first_of items n b)
head_by heads items b n v o is within before = ⊎_elim
    (λ (here : (eqb (v.page % 4096) b ≡ true) × (v.page % 4096 ≡ b)).
    let yes : is_in_bucket b o ≡ true = rw is here.0 in
    rw (yes, ← here.1) (get_or-set_same heads (v.page % 4096) (Some n) None within))
    (λ (apart : (eqb (v.page % 4096) b ≡ false) × (v.page % 4096 ≢ b)).
    let no : is_in_bucket b o ≡ false = rw is apart.0 in
    rw no (get_or-set_other heads (v.page % 4096) b (Some n) None (λ e. apart.1 (sym e)) ∙ before))
    (eqb_tells (v.page % 4096) b)

linked_added : (items : List Version) (v w : Version) (i : ℕ)
    → ((j : ℕ) (u : Version) → slice_get items j ≡ Some u → IsLinked items j u)
    → v.older ≡ first_of items (length items) (v.page % 4096)
    → v.is_first ≡ not (is_some (version_of items (length items) v.page))
    → slice_get (items ++ v ∷ []) i ≡ Some w → IsLinked (items ++ v ∷ []) i w
linked_added items v w i linked older is_first at = ⊎_elim
    (λ (here : i ≡ length items).
    let same : v ≡ w = let e = sym (slice_get-last items v) ∙ ap (slice_get (items ++ v ∷ [])) (sym here) ∙ at in cc in
    subst (IsLinked (items ++ v ∷ []) i) same (rw here (record {
      older = older ∙ sym (first-left items (v ∷ []) (length items) (v.page % 4096) (omega arith));
      first = is_first ∙ sym (ap (λ o. not (is_some o)) (version-left items (v ∷ []) (length items) v.page (omega arith)));
    })))
    (λ (apart : i ≡ length items → ⊥).
    let within : i < length (items ++ v ∷ []) = slice_get_within (items ++ v ∷ []) i w at in
    let before : i < length items = omega (arith, within, length-append items (v ∷ []), apart) in
    let was = linked i w (sym (slice_get-left items (v ∷ []) i before) ∙ at) in
    record {
      older = was.older ∙ sym (first-left items (v ∷ []) i (w.page % 4096) (omega arith));
      first = was.first ∙ sym (ap (λ o. not (is_some o)) (version-left items (v ∷ []) i w.page (omega arith)));
    })
    (cases_eq i (length items))

pub IsChain-added : (heads : List (Option ℕ)) (items : List Version) (v : Version) → IsChain heads items
    → v.older ≡ slice_index_or heads (v.page % 4096) None
    → v.is_first ≡ not (is_some (version_of items (length items) v.page))
    → IsChain (slice_set heads (v.page % 4096) (Some (length items))) (items ++ v ∷ [])
IsChain-added heads items v is older is_first =
    let more = items ++ v ∷ [] in
    let long : length more ≡ suc (length items) = omega (arith, length-append items (v ∷ [])) in
    record {
      begins = λ b lt. head_by heads more b (length items) v (slice_get more (length items)) (slice_get-last items v)
          (omega (arith, is.buckets))
          (is.begins b lt ∙ sym (first-left items (v ∷ []) (length items) b (omega arith)))
          ∙ ap (λ n. first_of more n b) (sym long);
      linked = λ i w at. linked_added items v w i is.linked
          (older ∙ is.begins (v.page % 4096) (omega arith)) is_first at;
      buckets = length-set heads (v.page % 4096) (Some (length items)) ∙ is.buckets;
    }

pub IsChain-empty : (heads : List (Option ℕ)) (items : List Version) → heads ≡ replicate 4096 None → items ≡ []
    → IsChain heads items
IsChain-empty heads items none empty = record {
  begins = λ b lt. rw (none, empty) (get_or-replicate 4096 b None None lt);
  linked = λ i v at. let e = ap (λ l. slice_get l i) (sym empty) ∙ at in absurd cc;
  buckets = rw none (length-replicate {A = Option ℕ} 4096 None);
}

-- ---- a walk along a bucket

-- a listing that is looked for, of the first count ones
abbrev pub sought : List Version → ℕ → ℕ → ℕ → Bool
sought items count page i = nat_lt i count && is_of_page page (slice_get items i)

below : (i count : ℕ) (b : Bool) → i < count → (nat_lt i count && b) ≡ b
below i count b lt = grind (arith, common_steps)

past_count : (i count : ℕ) (b : Bool) → count ≤ i → (nat_lt i count && b) ≡ false
past_count i count b le = grind (arith, common_steps)

-- only the first ones are taken
sought-all : (items : List Version) (count page n : ℕ) → count ≤ n
    → newest (sought items count page) n ≡ version_of items count page
sought-all items count page zero le =
    let none : count ≡ 0 = omega arith in
    rw none refl
sought-all items count page (suc n) le = ⊎_elim
    (λ (same : count ≡ suc n). ap (newest (sought items count page)) (sym same)
    ∙ newest-same (sought items count page) (λ i. is_of_page page (slice_get items i)) count
    (λ i lt. below i count (is_of_page page (slice_get items i)) lt))
    (λ (differ : count ≡ suc n → ⊥).
    rw (past_count n count (is_of_page page (slice_get items n)) (omega (arith, differ)))
    (sought-all items count page n (omega (arith, differ))))
    (cases_eq count (suc n))

of_bucket : (page : ℕ) (o : Option Version) → is_of_page page o ≡ true
    → is_in_bucket (page % 4096) o ≡ true
of_bucket page None taken = taken
of_bucket page (Some v) taken =
    let same : v.page ≡ page = equal v.page page taken in
    rw same (grind (arith, common_steps))

and_right : (a b : Bool) → (a && b) ≡ true → b ≡ true
and_right true b e = e
and_right false b e = absurd cc

in_bucket : (items : List Version) (count page i : ℕ) → sought items count page i ≡ true
    → is_in_bucket (page % 4096) (slice_get items i) ≡ true
in_bucket items count page i taken =
    of_bucket page (slice_get items i) (and_right (nat_lt i count) (is_of_page page (slice_get items i)) taken)

first_found : (items : List Version) (n b : ℕ) (o : Option ℕ) → first_of items n b ≡ o
    → (past o ≤ n) × IfSome o (λ i. is_in_bucket b (slice_get items i) ≡ true)
first_found items n b None is = (omega arith, tt)
first_found items n b (Some i) is =
    let both = newest-found (λ i. is_in_bucket b (slice_get items i)) n i is in
    (omega (arith, both.0), both.1)

-- where a walk along a bucket begins or goes on
pub record Stands (items : List Version) (count page : ℕ) (at : Option ℕ) : Type 0 where
  pub same : newest (sought items count page) (past at) ≡ version_of items count page
  pub within : past at ≤ length items
  pub bucket : IfSome at (λ i. is_in_bucket (page % 4096) (slice_get items i) ≡ true)

stands_from : (items : List Version) (count page n : ℕ) (at : Option ℕ) → n ≤ length items
    → newest (sought items count page) n ≡ version_of items count page
    → at ≡ first_of items n (page % 4096) → Stands items count page at
stands_from items count page n at within same is =
    let parts = first_found items n (page % 4096) at (sym is) in
    record {
      same = ap (λ o. newest (sought items count page) (past o)) is
          ∙ sym (newest-start (sought items count page)
          (λ i. is_in_bucket (page % 4096) (slice_get items i)) n
          (λ i lt. in_bucket items count page i)) ∙ same;
      within = omega (arith, parts.0, within);
      bucket = parts.1;
    }

pub stands-first : (items : List Version) (count page : ℕ) (at : Option ℕ) → count ≤ length items
    → at ≡ first_of items (length items) (page % 4096) → Stands items count page at
stands-first items count page at le is =
    stands_from items count page (length items) at (omega arith)
    (sought-all items count page (length items) le) is

of_bucket_at : (v : Version) (o : Option Version) (b : ℕ) → o ≡ Some v → is_in_bucket b o ≡ true
    → v.page % 4096 ≡ b
of_bucket_at v o b is taken = equal (v.page % 4096) b (rw is at taken)

older_is : (heads : List (Option ℕ)) (items : List Version) (count page i : ℕ) (v : Version) → IsChain heads items
    → Stands items count page (Some i) → slice_get items i ≡ Some v
    → v.older ≡ first_of items i (page % 4096)
older_is heads items count page i v is stands at =
    (is.linked i v at).older
    ∙ ap (first_of items i) (of_bucket_at v (slice_get items i) (page % 4096) at stands.bucket)

sought_at : (items : List Version) (count page i : ℕ) (v : Version) (b : Bool) → slice_get items i ≡ Some v
    → (nat_lt i count && eqb v.page page) ≡ b → sought items count page i ≡ b
sought_at items count page i v b at is = rw at is

skipped : (items : List Version) (count page i : ℕ) → sought items count page i ≡ false
    → newest (sought items count page) (suc i) ≡ newest (sought items count page) i
skipped items count page i untaken = rw untaken refl

taken_here : (items : List Version) (count page i : ℕ) → sought items count page i ≡ true
    → newest (sought items count page) (suc i) ≡ Some i
taken_here items count page i taken = rw taken refl

-- the walk goes on behind another listing
pub stands-next : (heads : List (Option ℕ)) (items : List Version) (count page i : ℕ) (v : Version)
    → IsChain heads items → Stands items count page (Some i) → slice_get items i ≡ Some v
    → (nat_lt i count && eqb v.page page) ≡ false → Stands items count page v.older
stands-next heads items count page i v is stands at other =
    let no = sought_at items count page i v false at other in
    stands_from items count page i v.older (omega (arith, stands.within))
    (sym (skipped items count page i no) ∙ stands.same)
    (older_is heads items count page i v is stands at)

-- it goes to a lower index
pub older_lower : (heads : List (Option ℕ)) (items : List Version) (count page i : ℕ) (v : Version)
    → IsChain heads items → Stands items count page (Some i) → slice_get items i ≡ Some v
    → past v.older < suc i
older_lower heads items count page i v is stands at =
    let lower = (first_found items i (page % 4096) v.older (sym (older_is heads items count page i v is stands at))).0 in
    omega (arith, lower)

-- it ends at the listing that is looked for
pub stands-here : (items : List Version) (count page i : ℕ) (v : Version)
    → Stands items count page (Some i) → slice_get items i ≡ Some v
    → (nat_lt i count && eqb v.page page) ≡ true → version_of items count page ≡ Some i
stands-here items count page i v stands at is =
    sym stands.same ∙ taken_here items count page i (sought_at items count page i v true at is)

-- ---- what a walk reads

at_some : (items : List Version) (count page i : ℕ) (at : Option ℕ) → at ≡ Some i
    → Stands items count page at → Stands items count page (Some i)
at_some items count page i at is stands = subst (Stands items count page) is stands

-- a walk that stands at a listing, and has read it
pub record Reads (items : List Version) (count page i : ℕ) (v : Version) : Type 0 where
  pub stands : Stands items count page (Some i)
  pub at : slice_get items i ≡ Some v

pub reads : (items : List Version) (count page i : ℕ) (at : Option ℕ) (v : Version) → at ≡ Some i
    → Stands items count page at → v ≡ slice_index_or items i v → Reads items count page i v
reads items count page i at v is stands read =
    let here = at_some items count page i at is stands in
    record {
      stands = here;
      at = slice_get_read items (length items) i v refl (omega (arith, here.within)) read;
    }

pub taken-both : (i count n page : ℕ) → i < count → n ≡ page → (nat_lt i count && eqb n page) ≡ true
taken-both i count n page lt same = grind (arith, common_steps)

pub other-page : (i count n page : ℕ) → (n ≡ page → ⊥) → (nat_lt i count && eqb n page) ≡ false
other-page i count n page apart = grind (arith, common_steps)

pub beyond : (i count n page : ℕ) → count ≤ i → (nat_lt i count && eqb n page) ≡ false
beyond i count n page le = grind (arith, common_steps)
