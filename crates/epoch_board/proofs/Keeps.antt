-- Each kind of step keeps the rule.
use Rattle.std.proofs.Common.{◌≡◌, ◌≢◌, ℕ, zero, suc, ◌+◌, ◌-◌, ◌<◌, ◌≤◌, ◌^◌, min, ◌⊎◌, Bool, true, false, cond, List, [], ◌∷◌, ◌++◌, set, All, Contains, refl, sym, ap, ◌∙◌, subst, inl, inr, ⊎_elim, arith}
use Rattle.std.specs.Prelude.{sum_by, count_by, ◌==◌, ◌||◌, nat_lt, Some, None}
use Rattle.std.proofs.lemmas.Bool.{cases_lt, cases_eq, cond-true, cond-false, eq-eqb, ne_eqb, lt-ltb, le-ltb}
use Rattle.std.proofs.lemmas.List.Sums.{sum_by-cons, sum_by-append, sum_by_push, sum_by-le-sum_by}
use Rattle.std.proofs.lemmas.List.Elements.{All-nil, All-head, All-tail, All-set, All-push, All-append, All-weaker, All-contains, All-contains_itself, Contains-append_left, Contains-append_right}
use mathlib.Core.Option.{some, some-injective, some-ne-none}
use lib.ListN.{get_elem?}
use Rattle.atomic_table.specs.Seated.{TableId}
use Rattle.atomic_table.proofs.Lists.{at_set}
use Rattle.epoch_board.specs.Seats.{SeatState}
use Rattle.epoch_board.specs.declared.view.View.{View}
use Rattle.epoch_board.specs.declared.view.TheConstants.{NO_EPOCH}
use Rattle.epoch_board.specs.Views.{spent, seat_of, epoch_of, looked, lowered, kept, given, merged}
use Rattle.epoch_board.specs.Rule.{times, names, claims_of, breaks_of, reads_of, shares_of, told_share, told_shares_of, IsActive, IsKept}
use Rattle.epoch_board.proofs.Totals.{All-at, changed, part_le, some_also, counted, times_same, times_other, times_from, Contains-from_times}

abbrev IsSeated : ℕ → ℕ → View → Type 0
IsSeated epochs seats v = IsActive epochs seats v ⊎ (v ≡ spent)

told_le : (v : View) → told_share v ≤ v.share
told_le v = elim v.told as (λ b. cond b v.share 0 ≤ v.share) [ true ↦ omega arith | false ↦ omega arith ]

told_yes : (v : View) → v.told ≡ true → told_share v ≡ v.share
told_yes v told = cond-true v.told v.share 0 told

told_no : (v : View) → v.told ≡ false → told_share v ≡ 0
told_no v not_told = cond-false v.told v.share 0 not_told

spent_share : (v : View) → v ≡ spent → v.share ≡ 0
spent_share v is = ap (λ (u : View). u.share) is

-- shares of two seats that were told, and of the one that they become
told_or : (a b : Bool) (m n : ℕ) → 0 < m → 0 < n
    → (cond a m 0 + cond b n 0 ≤ cond (a || b) (m + n) 0)
    × (0 < cond (a || b) (m + n) 0 → 0 < cond a m 0 + cond b n 0)
told_or true true m n some_m some_n = (omega arith, λ _. omega arith)
told_or true false m n some_m some_n = (omega arith, λ _. omega arith)
told_or false true m n some_m some_n = (omega arith, λ _. omega arith)
told_or false false m n some_m some_n = (omega arith, λ none. none)

-- shares of a seat that was told, and of the two that it becomes
told_parts : (a : Bool) (m : ℕ) → 1 ≤ m → cond a (m - 1) 0 + cond a 1 0 ≡ cond a m 0
told_parts true m some_m = omega arith
told_parts false m some_m = omega arith

-- what was read names the epoch that the word is, and no other
names_other : (epochs k word : ℕ) → (epochs ≤ word) ⊎ (word ≢ k) → names k (epoch_of epochs word) ≡ false
names_other epochs k word other = ⊎_elim
    (λ (lt : word < epochs). ap (names k) (cond-true (nat_lt word epochs) (Some word) None (lt-ltb word epochs lt)) ∙ ne_eqb word k (⊎_elim (λ (past : epochs ≤ word). λ is. omega arith) (λ (ne : word ≢ k). ne) other))
    (λ (le : epochs ≤ word). ap (names k) (cond-false (nat_lt word epochs) (Some word) None (le-ltb word epochs le)))
    (cases_lt word epochs)

module _ {epochs seats next low : ℕ} {views : List View} (h : IsKept epochs seats next low views) where
  told_few : told_shares_of views ≤ seats
  told_few = omega (arith, sum_by-le-sum_by told_share (λ v. v.share) views told_le, h.shares)

  -- a draw does not wrap
  pub next_small : next < 2 ^ 33
  next_small = omega (arith, told_few, h.drawn, h.small.0, h.small.1)

  -- what was claimed is below the next number and the epochs
  pub claim_below : (k : ℕ) → 0 < claims_of k views → (k < next) × (k < epochs)
  claim_below k some_k = ⊎_elim
      (λ (lt : k < next). ⊎_elim
      (λ (within : k < epochs). (lt, within))
      (λ (past : epochs ≤ k). absurd (omega (arith, h.no_other k (inr past))))
      (cases_lt k epochs))
      (λ (past : next ≤ k). absurd (omega (arith, h.no_other k (inl past))))
      (cases_lt k next)

  -- what broke was claimed
  break_claimed : (k : ℕ) → 0 < breaks_of k views → 0 < claims_of k views
  break_claimed k = some_also (λ v. times k v.breaks) (λ v. times k v.claims) views
      (All-weaker (IsSeated epochs seats) (λ v. 0 < times k v.breaks → 0 < times k v.claims) one views h.seated)
    where
      one : (v : View) → IsSeated epochs seats v → 0 < times k v.breaks → 0 < times k v.claims
      one v seated some_k = ⊎_elim
          (λ (a : IsActive epochs seats v). times_from k v.claims (All-contains (Contains v.claims) v.breaks k a.claimed (Contains-from_times k v.breaks some_k)))
          (λ (is : v ≡ spent). absurd (omega (arith, ap (λ (u : View). times k u.breaks) is)))
          seated

  pub active_at : (i : ℕ) (v : View) → get_elem? views i ≡ some v → 0 < v.share → IsActive epochs seats v
  active_at i v at has_share = ⊎_elim
      (λ (a : IsActive epochs seats v). a)
      (λ (is : v ≡ spent). absurd (omega (arith, spent_share v is)))
      (All-at (IsSeated epochs seats) views i v h.seated at)

  -- a step that changes no break, nothing that was read and no sum of shares
  carried : (after : List View) (next' : ℕ)
      → ((k : ℕ) → k < next' → k < epochs → claims_of k after ≡ 1)
      → ((k : ℕ) → (next' ≤ k) ⊎ (epochs ≤ k) → claims_of k after ≡ 0)
      → (0 < told_shares_of after → epochs ≤ next')
      → next' ≤ epochs + told_shares_of after
      → ((k : ℕ) → breaks_of k after ≡ breaks_of k views)
      → ((k : ℕ) → reads_of k after ≡ reads_of k views)
      → shares_of after ≡ shares_of views
      → All (IsSeated epochs seats) after
      → IsKept epochs seats next' low after
  carried after next' once no_other told drawn breaks reads shares seated = record {
    small = h.small;
    once = once;
    no_other = no_other;
    told = told;
    drawn = drawn;
    least = λ k some_k. h.least k (omega (arith, breaks k));
    known = ⊎_elim (λ (none : low ≡ NO_EPOCH). inl none) (λ (one : 0 < breaks_of low views). inr (omega (arith, breaks low))) h.known;
    read = λ k some_k. let was : 0 < breaks_of k views = h.read k (omega (arith, reads k)) in omega (arith, breaks k);
    shares = shares ∙ h.shares;
    seated = seated;
  }

  module _ (i : ℕ) (v : View) (at : get_elem? views i ≡ some v) (has_share : 0 < v.share) where
    -- the number drawn is an epoch, and is above each earlier claim of the seat
    pub claims_epoch : next < epochs → IsKept epochs seats (next + 1) low (set views i (record v { claims = v.claims ++ next ∷ [] }))
    claims_epoch within =
        let w : View = record v { claims = v.claims ++ next ∷ [] } in
        let a = active_at i v at has_share in
        let moved : (k : ℕ) → claims_of k (set views i w) + times k v.claims ≡ claims_of k views + times k w.claims = λ k. changed (λ u. times k u.claims) views i v w at in
        let told_same : told_shares_of (set views i w) ≡ told_shares_of views = omega (arith, changed told_share views i v w at) in
        carried (set views i w) (next + 1)
        (λ k lt below. ⊎_elim
        (λ (is : next ≡ k). omega (arith, moved k, times_same k next v.claims is, h.no_other k (inl (omega arith))))
        (λ (other : next ≢ k). omega (arith, moved k, times_other k next v.claims other, h.once k (omega arith) below))
        (cases_eq next k))
        (λ k past.
        let other : next ≢ k = λ is. ⊎_elim (λ (p : next + 1 ≤ k). omega arith) (λ (p : epochs ≤ k). omega arith) past in
        let before : (next ≤ k) ⊎ (epochs ≤ k) = ⊎_elim (λ (p : next + 1 ≤ k). inl (omega arith)) (λ (p : epochs ≤ k). inr p) past in
        omega (arith, moved k, times_other k next v.claims other, h.no_other k before))
        (λ some_told. omega (arith, h.told))
        (omega (arith, told_same))
        (λ k. omega (arith, changed (λ u. times k u.breaks) views i v w at))
        (λ k. omega (arith, changed (λ u. count_by (names k) u.seen) views i v w at))
        (omega (arith, changed (λ u. u.share) views i v w at))
        (All-set (IsSeated epochs seats) views i w
        (inl (record {
          has_share = has_share;
          same_epochs = a.same_epochs;
          same_seats = a.same_seats;
          claimed = All-weaker (Contains v.claims) (Contains w.claims) (Contains-append_left v.claims (next ∷ [])) v.breaks a.claimed;
        }))
        h.seated)

    pub claims_rise : All (λ c. c < next) v.claims
    claims_rise = All-weaker (Contains v.claims) (λ c. c < next)
        (λ c there. (claim_below c (omega (arith, times_from c v.claims there, part_le (λ u. times c u.claims) views i v at))).0)
        v.claims (All-contains_itself v.claims)

    -- the number drawn is no epoch, and the seat is told
    pub claims_none : v.told ≡ false → epochs ≤ next → IsKept epochs seats (next + 1) low (set views i (record v { told = true }))
    claims_none not_told past =
        let w : View = record v { told = true } in
        let a = active_at i v at has_share in
        let more : told_shares_of (set views i w) ≡ told_shares_of views + v.share = omega (arith, changed told_share views i v w at, told_no v not_told) in
        let same : (k : ℕ) → claims_of k (set views i w) ≡ claims_of k views = λ k. omega (arith, changed (λ u. times k u.claims) views i v w at) in
        carried (set views i w) (next + 1)
        (λ k lt below. same k ∙ h.once k (omega arith) below)
        (λ k past_k. same k ∙ h.no_other k (inr (⊎_elim (λ (p : next + 1 ≤ k). omega arith) (λ (p : epochs ≤ k). p) past_k)))
        (λ some_told. omega arith)
        (omega (arith, h.drawn))
        (λ k. omega (arith, changed (λ u. times k u.breaks) views i v w at))
        (λ k. omega (arith, changed (λ u. count_by (names k) u.seen) views i v w at))
        (omega (arith, changed (λ u. u.share) views i v w at))
        (All-set (IsSeated epochs seats) views i w
        (inl (record { has_share = has_share; same_epochs = a.same_epochs; same_seats = a.same_seats; claimed = a.claimed }))
        h.seated)

    -- the least break is read
    pub looks : IsKept epochs seats next low (set views i (looked v low))
    looks =
        let w : View = looked v low in
        let a = active_at i v at has_share in
        let claims_same : (k : ℕ) → claims_of k (set views i w) ≡ claims_of k views = λ k. omega (arith, changed (λ u. times k u.claims) views i v w at) in
        let breaks_same : (k : ℕ) → breaks_of k (set views i w) ≡ breaks_of k views = λ k. omega (arith, changed (λ u. times k u.breaks) views i v w at) in
        let told_same : told_shares_of (set views i w) ≡ told_shares_of views = omega (arith, changed told_share views i v w at) in
        let reads_same : (k : ℕ) → (epochs ≤ low) ⊎ (low ≢ k) → reads_of k (set views i w) ≡ reads_of k views =
        λ k other. omega (
          arith,
          changed (λ u. count_by (names k) u.seen) views i v w at,
          sum_by_push (λ o. cond (names k o) 1 0) v.seen (epoch_of v.epochs low),
          cond-false {A = ℕ} (names k (epoch_of v.epochs low)) 1 0 (names_other v.epochs k low (⊎_elim (λ (past : epochs ≤ low). inl (omega (arith, a.same_epochs))) (λ (ne : low ≢ k). inr ne) other)),
        ) in
        record {
          small = h.small;
          once = λ k lt below. claims_same k ∙ h.once k lt below;
          no_other = λ k past. claims_same k ∙ h.no_other k past;
          told = λ some_told. h.told (omega arith);
          drawn = omega (arith, h.drawn);
          least = λ k some_k. h.least k (omega (arith, breaks_same k));
          known = ⊎_elim (λ (none : low ≡ NO_EPOCH). inl none) (λ (one : 0 < breaks_of low views). inr (omega (arith, breaks_same low))) h.known;
          read = λ k some_k.
              let kept_by : (epochs ≤ low) ⊎ (low ≢ k) → 0 < breaks_of k (set views i w) = λ other.
              let was : 0 < breaks_of k views = h.read k (omega (arith, reads_same k other)) in omega (arith, breaks_same k) in
              ⊎_elim
              (λ (is : low ≡ k). ⊎_elim
              (λ (none : low ≡ NO_EPOCH). kept_by (inl (omega (arith, h.small.0))))
              (λ (one : 0 < breaks_of low views). subst (λ n. 0 < breaks_of n (set views i w)) is (omega (arith, breaks_same low)))
              h.known)
              (λ (other : low ≢ k). kept_by (inr other))
              (cases_eq low k);
          shares = omega (arith, changed (λ u. u.share) views i v w at, h.shares);
          seated = All-set (IsSeated epochs seats) views i w
              (inl (record { has_share = has_share; same_epochs = a.same_epochs; same_seats = a.same_seats; claimed = a.claimed }))
              h.seated;
        }

    -- epoch k, which the seat claimed, broke
    pub lowers : (k : ℕ) → Contains v.claims k → IsKept epochs seats next (min low k) (set views i (lowered v k))
    lowers k claimed_k =
        let w : View = lowered v k in
        let a = active_at i v at has_share in
        let claims_same : (j : ℕ) → claims_of j (set views i w) ≡ claims_of j views = λ j. omega (arith, changed (λ u. times j u.claims) views i v w at) in
        let told_same : told_shares_of (set views i w) ≡ told_shares_of views = omega (arith, changed told_share views i v w at) in
        let moved : (j : ℕ) → breaks_of j (set views i w) + times j v.breaks ≡ breaks_of j views + times j w.breaks = λ j. changed (λ u. times j u.breaks) views i v w at in
        let other : (j : ℕ) → k ≢ j → breaks_of j (set views i w) ≡ breaks_of j views = λ j ne. omega (arith, moved j, times_other j k v.breaks ne) in
        let here : 0 < breaks_of k (set views i w) = omega (arith, moved k, times_same k k v.breaks refl) in
        let no_fewer : (j : ℕ) → 0 < breaks_of j views → 0 < breaks_of j (set views i w) = λ j some_j. ⊎_elim
        (λ (is : k ≡ j). subst (λ n. 0 < breaks_of n (set views i w)) is here)
        (λ (ne : k ≢ j). omega (arith, other j ne))
        (cases_eq k j) in
        record {
          small = h.small;
          once = λ j lt below. claims_same j ∙ h.once j lt below;
          no_other = λ j past. claims_same j ∙ h.no_other j past;
          told = λ some_told. h.told (omega arith);
          drawn = omega (arith, h.drawn);
          least = λ j some_j. ⊎_elim
              (λ (is : k ≡ j). omega arith)
              (λ (ne : k ≢ j). let at_most : low ≤ j = h.least j (omega (arith, other j ne)) in omega arith)
              (cases_eq k j);
          known = ⊎_elim
              (λ (lt : k < low). inr (subst (λ n. 0 < breaks_of n (set views i w)) (omega arith) here))
              (λ (le : low ≤ k). let is : low ≡ min low k = omega arith in ⊎_elim
              (λ (none : low ≡ NO_EPOCH). inl (sym is ∙ none))
              (λ (one : 0 < breaks_of low views). inr (subst (λ n. 0 < breaks_of n (set views i w)) is (no_fewer low one)))
              h.known)
              (cases_lt k low);
          read = λ j some_j. no_fewer j (h.read j (omega (arith, changed (λ u. count_by (names j) u.seen) views i v w at)));
          shares = omega (arith, changed (λ u. u.share) views i v w at, h.shares);
          seated = All-set (IsSeated epochs seats) views i w
              (inl (record {
                has_share = has_share;
                same_epochs = a.same_epochs;
                same_seats = a.same_seats;
                claimed = All-push (Contains v.claims) v.breaks k a.claimed claimed_k;
              }))
              h.seated;
        }

    -- the seat becomes two
    pub splits : 2 ≤ v.share → IsKept epochs seats next low (set views i (kept v) ++ given v ∷ [])
    splits two =
        let a = active_at i v at has_share in
        let after : List View = set views i (kept v) ++ given v ∷ [] in
        let pushed : (f : View → ℕ) → sum_by f after + f v ≡ sum_by f views + f (kept v) + f (given v) = λ f.
        omega (arith, sum_by_push f (set views i (kept v)) (given v), changed f views i v (kept v) at) in
        let claims_same : (k : ℕ) → claims_of k after ≡ claims_of k views = λ k. omega (arith, pushed (λ u. times k u.claims)) in
        let told_same : told_shares_of after ≡ told_shares_of views = omega (arith, pushed told_share, told_parts v.told v.share (omega arith)) in
        carried after next
        (λ k lt below. claims_same k ∙ h.once k lt below)
        (λ k past. claims_same k ∙ h.no_other k past)
        (λ some_told. h.told (omega arith))
        (omega (arith, h.drawn))
        (λ k. omega (arith, pushed (λ u. times k u.breaks)))
        (λ k. omega (arith, pushed (λ u. count_by (names k) u.seen)))
        (omega (arith, pushed (λ u. u.share)))
        (All-push (IsSeated epochs seats) (set views i (kept v)) (given v)
        (All-set (IsSeated epochs seats) views i (kept v)
        (inl (record { has_share = omega arith; same_epochs = a.same_epochs; same_seats = a.same_seats; claimed = a.claimed }))
        h.seated)
        (inl (record { has_share = omega arith; same_epochs = a.same_epochs; same_seats = a.same_seats; claimed = All-nil (Contains []) })))

    -- the seat takes in another one
    pub joins : (j : ℕ) (u : View) → 0 < u.share → j ≢ i → get_elem? (set views i (merged v u)) j ≡ some u
        → IsKept epochs seats next low (set (set views i (merged v u)) j spent)
    joins j u has_u apart there =
        let both : View = merged v u in
        let after : List View = set (set views i both) j spent in
        let at_j : get_elem? views j ≡ some u = ⊎_elim
        (λ (t : (j ≡ i) × (both ≡ u)). absurd (apart t.0))
        (λ (t : (j ≢ i) × (get_elem? views j ≡ some u)). t.1)
        (at_set views i j both u there) in
        let a = active_at i v at has_share in
        let b = active_at j u at_j has_u in
        let moved : (f : View → ℕ) → sum_by f after + f v + f u ≡ sum_by f views + f both + f spent = λ f.
        omega (arith, changed f (set views i both) j u spent there, changed f views i v both at) in
        let claims_same : (k : ℕ) → claims_of k after ≡ claims_of k views = λ k.
        omega (arith, moved (λ x. times k x.claims), sum_by-append (λ x. cond (x == k) 1 0) v.claims u.claims) in
        let tells = told_or v.told u.told v.share u.share has_share has_u in
        let told_moved : told_shares_of after + told_share v + told_share u ≡ told_shares_of views + told_share both = omega (arith, moved told_share) in
        let told_v : told_share v ≤ told_shares_of views = part_le told_share views i v at in
        let told_u : told_share u ≤ told_shares_of views = part_le told_share views j u at_j in
        carried after next
        (λ k lt below. claims_same k ∙ h.once k lt below)
        (λ k past. claims_same k ∙ h.no_other k past)
        (λ some_told. ⊎_elim
        (λ (some_both : 0 < told_share both). let some_part : 0 < told_share v + told_share u = tells.1 some_both in h.told (omega arith))
        (λ (none : told_share both ≤ 0). h.told (omega arith))
        (cases_lt 0 (told_share both)))
        (omega (arith, h.drawn, tells.0))
        (λ k. omega (arith, moved (λ x. times k x.breaks), sum_by-append (λ x. cond (x == k) 1 0) v.breaks u.breaks))
        (λ k. omega (arith, moved (λ x. count_by (names k) x.seen), sum_by-append (λ o. cond (names k o) 1 0) v.seen u.seen))
        (omega (arith, moved (λ x. x.share)))
        (All-set (IsSeated epochs seats) (set views i both) j spent (inr refl)
        (All-set (IsSeated epochs seats) views i both
        (inl (record {
          has_share = omega arith;
          same_epochs = a.same_epochs;
          same_seats = a.same_seats;
          claimed = All-append (Contains both.claims) v.breaks u.breaks
              (All-weaker (Contains v.claims) (Contains both.claims) (Contains-append_left v.claims u.claims) v.breaks a.claimed)
              (All-weaker (Contains u.claims) (Contains both.claims) (Contains-append_right v.claims u.claims) u.breaks b.claimed);
        }))
        h.seated))

-- the views of seats whose shares add up to nothing, and those beside a seat that has all shares, count for nothing
none_left : (epochs seats : ℕ) (f : View → ℕ) (l : List View) → f spent ≡ 0 → All (IsSeated epochs seats) l → shares_of l ≡ 0 → sum_by f l ≡ 0
none_left epochs seats f [] none seated shares = refl
none_left epochs seats f (x ∷ xs) none seated shares =
    let is : x ≡ spent = ⊎_elim
    (λ (a : IsActive epochs seats x). absurd (omega (arith, a.has_share, sum_by-cons (λ v. v.share) x xs)))
    (λ (e : x ≡ spent). e)
    (All-head (IsSeated epochs seats) x xs seated) in
    let rest : sum_by f xs ≡ 0 = none_left epochs seats f xs none (All-tail (IsSeated epochs seats) x xs seated) (omega (arith, sum_by-cons (λ v. v.share) x xs)) in
    omega (arith, sum_by-cons f x xs, ap f is)

alone : (epochs seats : ℕ) (f : View → ℕ) (l : List View) (i : ℕ) (v : View) → f spent ≡ 0 → All (IsSeated epochs seats) l
    → get_elem? l i ≡ some v → shares_of l ≡ v.share → sum_by f l ≡ f v
alone epochs seats f [] i v none seated at all = absurd (some-ne-none v (sym at))
alone epochs seats f (x ∷ xs) zero v none seated at all =
    let is : x ≡ v = some-injective x v at in
    let rest : sum_by f xs ≡ 0 = none_left epochs seats f xs none (All-tail (IsSeated epochs seats) x xs seated) (omega (arith, sum_by-cons (λ u. u.share) x xs, ap (λ (u : View). u.share) is)) in
    omega (arith, sum_by-cons f x xs, ap f is)
alone epochs seats f (x ∷ xs) (suc i) v none seated at all =
    let le : v.share ≤ shares_of xs = part_le (λ u. u.share) xs i v at in
    let is : x ≡ spent = ⊎_elim
    (λ (a : IsActive epochs seats x). absurd (omega (arith, a.has_share, sum_by-cons (λ u. u.share) x xs)))
    (λ (e : x ≡ spent). e)
    (All-head (IsSeated epochs seats) x xs seated) in
    let rest : sum_by f xs ≡ f v = alone epochs seats f xs i v none (All-tail (IsSeated epochs seats) x xs seated) at (omega (arith, sum_by-cons (λ u. u.share) x xs, spent_share x is)) in
    omega (arith, sum_by-cons f x xs, ap f is)

-- what is known of a seat that has all shares
pub record IsWhole (epochs : ℕ) (seat : SeatState) : Type 0 where
  pub within : All (λ k. k < epochs) seat.claims
  pub once : (k : ℕ) → times k seat.claims ≤ 1
  pub whole : seat.told ≡ true → (k : ℕ) → k < epochs → times k seat.claims ≡ 1
  pub read : (k : ℕ) → Contains seat.seen (Some k) → Contains seat.breaks k

pub closes : {epochs seats next low : ℕ} {views : List View} → IsKept epochs seats next low views → (table : TableId)
    → (i : ℕ) (v : View) → get_elem? views i ≡ some v → 0 < v.share → v.share ≡ seats → IsWhole epochs (seat_of table v)
closes {epochs} {seats} {next} {low} {views} h table i v at has_share has_all =
    let only : (f : View → ℕ) → f spent ≡ 0 → sum_by f views ≡ f v = λ f none. alone epochs seats f views i v none h.seated at (h.shares ∙ sym has_all) in
    let claims_are : (k : ℕ) → claims_of k views ≡ times k v.claims = λ k. only (λ u. times k u.claims) refl in
    let breaks_are : (k : ℕ) → breaks_of k views ≡ times k v.breaks = λ k. only (λ u. times k u.breaks) refl in
    let reads_are : (k : ℕ) → reads_of k views ≡ count_by (names k) v.seen = λ k. only (λ u. count_by (names k) u.seen) refl in
    let told_are : told_shares_of views ≡ told_share v = only told_share refl in
    record {
      within = All-weaker (Contains v.claims) (λ k. k < epochs)
          (λ k there. (claim_below h k (omega (arith, claims_are k, times_from k v.claims there))).1)
          v.claims (All-contains_itself v.claims);
      once = λ k. ⊎_elim
          (λ (lt : k < next). ⊎_elim
          (λ (below : k < epochs). omega (arith, claims_are k, h.once k lt below))
          (λ (past : epochs ≤ k). omega (arith, claims_are k, h.no_other k (inr past)))
          (cases_lt k epochs))
          (λ (past : next ≤ k). omega (arith, claims_are k, h.no_other k (inl past)))
          (cases_lt k next);
      whole = λ told k below.
          let passed : epochs ≤ next = h.told (omega (arith, told_are, told_yes v told)) in
          sym (claims_are k) ∙ h.once k (omega arith) below;
      read = λ k there. Contains-from_times k v.breaks (let some_k : 0 < breaks_of k views = h.read k (omega (arith, reads_are k, counted (names k) v.seen (Some k) there (eq-eqb k k refl))) in omega (arith, breaks_are k));
    }
