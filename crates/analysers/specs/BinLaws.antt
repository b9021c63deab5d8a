-- Bins in rising order: what joins of them keep, and that the order of joins makes no difference.
use Rattle.std.proofs.Common.{◌≡◌, ℕ, ◌+◌, ◌%◌, ◌^◌, ◌<◌, ◌≤◌, false, eqb, List, [], ◌∷◌, Option, Some, None, inl, inr, refl, sym, ap, subst, ◌∙◌, add_assoc, lit<, arith}
use Rattle.std.proofs.lemmas.Bool.{eq-eqb, ne_eqb, lt-ltb, le-ltb, cases_order, cases_eq}
use Rattle.std.proofs.lemmas.Nat.{mod_below}
use Rattle.std.proofs.Math.Nat.{mod-add-mod, add-mod-mod}
use Rattle.analysers.specs.declared.part.Bin.{Bin}
use Rattle.analysers.specs.Bins.{IsAbove, IsRising, AreCounts, added, with_bin, join_bins, count_at}

-- ---- one more bin, by where its word belongs

pub with_bin-same : (bin : Bin) (bins : List Bin) (new : Bin) → new.value ≡ bin.value
    → with_bin (bin ∷ bins) new ≡ (record {
      value = bin.value;
      count =
          added bin.count new.count;
    }) ∷ bins
with_bin-same bin bins new same = let e = eq-eqb new.value bin.value same in rw e refl

pub with_bin-front : (bin : Bin) (bins : List Bin) (new : Bin) → new.value < bin.value
    → with_bin (bin ∷ bins) new ≡ new ∷ bin ∷ bins
with_bin-front bin bins new less =
    let ne : eqb new.value bin.value ≡ false = ne_eqb new.value bin.value (λ same. omega arith) in
    let lt = lt-ltb new.value bin.value less in
    rw (ne, lt) refl

pub with_bin-behind : (bin : Bin) (bins : List Bin) (new : Bin) → bin.value < new.value
    → with_bin (bin ∷ bins) new ≡ bin ∷ with_bin bins new
with_bin-behind bin bins new more =
    let ne : eqb new.value bin.value ≡ false = ne_eqb new.value bin.value (λ same. omega arith) in
    let ge = le-ltb new.value bin.value (omega arith) in
    rw (ne, ge) refl

-- ---- what stays rising

above_weaker : (v w : ℕ) (bins : List Bin) → v ≤ w → IsAbove w bins → IsAbove v bins
above_weaker v w [] le above = tt
above_weaker v w (bin ∷ bins) le above = (omega (arith, above.0), above_weaker v w bins le above.1)

with_bin-above : (v : ℕ) (bins : List Bin) (new : Bin) → IsAbove v bins → v < new.value
    → IsAbove v (with_bin bins new)
with_bin-above v [] new above more = (more, tt)
with_bin-above v (bin ∷ bins) new above more =
    elim (cases_order new.value bin.value) [
      | inl same ↦ subst (IsAbove v) (sym (with_bin-same bin bins new same)) above
      | inr order ↦ elim order [
        | inl less ↦ subst (IsAbove v) (sym (with_bin-front bin bins new less)) (more, above)
        | inr greater ↦ subst (IsAbove v) (sym (with_bin-behind bin bins new greater))
            (above.0, with_bin-above v bins new above.1 more)
      ]
    ]

with_bin-rising : (bins : List Bin) (new : Bin) → IsRising bins → IsRising (with_bin bins new)
with_bin-rising [] new rising = (tt, tt)
with_bin-rising (bin ∷ bins) new rising =
    elim (cases_order new.value bin.value) [
      | inl same ↦ subst IsRising (sym (with_bin-same bin bins new same)) rising
      | inr order ↦ elim order [
        | inl less ↦ subst IsRising (sym (with_bin-front bin bins new less))
            ((less, above_weaker new.value bin.value bins (omega arith) rising.0), rising)
        | inr greater ↦ subst IsRising (sym (with_bin-behind bin bins new greater))
            (with_bin-above bin.value bins new rising.0 greater, with_bin-rising bins new rising.1)
      ]
    ]

pub join_bins-rising : (left right : List Bin) → IsRising left → IsRising (join_bins left right)
join_bins-rising left [] rising = rising
join_bins-rising left (bin ∷ right) rising = join_bins-rising (with_bin left bin) right
    (with_bin-rising left bin rising)

-- ---- the numbers stay numbers of 64 bits

pub added-fits : (m n : ℕ) → added m n < 2 ^ 64
added-fits m n = mod_below (m + n) (2 ^ 64) (lit< tt)

with_bin-counts : (bins : List Bin) (new : Bin) → AreCounts bins → new.count < 2 ^ 64
    → AreCounts (with_bin bins new)
with_bin-counts [] new counts fits = (fits, tt)
with_bin-counts (bin ∷ bins) new counts fits =
    elim (cases_order new.value bin.value) [
      | inl same ↦ subst AreCounts (sym (with_bin-same bin bins new same))
          (added-fits bin.count new.count, counts.1)
      | inr order ↦ elim order [
        | inl less ↦ subst AreCounts (sym (with_bin-front bin bins new less)) (fits, counts)
        | inr greater ↦ subst AreCounts (sym (with_bin-behind bin bins new greater))
            (counts.0, with_bin-counts bins new counts.1 fits)
      ]
    ]

pub join_bins-counts : (left right : List Bin) → AreCounts left → AreCounts right
    → AreCounts (join_bins left right)
join_bins-counts left [] counts others = counts
join_bins-counts left (bin ∷ right) counts others = join_bins-counts (with_bin left bin) right
    (with_bin-counts left bin counts others.0) others.1

-- ---- a join, step by step

-- a bin below all that come stays in front
join_bins-front : (bin : Bin) (left right : List Bin) → IsAbove bin.value right
    → join_bins (bin ∷ left) right ≡ bin ∷ join_bins left right
join_bins-front bin left [] above = refl
join_bins-front bin left (new ∷ right) above =
    ap (λ (bins : List Bin). join_bins bins right) (with_bin-behind bin left new above.0)
    ∙ join_bins-front bin (with_bin left new) right above.1

-- no bins on the left
pub join_bins-none : (right : List Bin) → IsRising right → join_bins [] right ≡ right
join_bins-none [] rising = refl
join_bins-none (bin ∷ right) rising = join_bins-front bin [] right rising.0
    ∙ ap (λ (bins : List Bin). bin ∷ bins) (join_bins-none right rising.1)

pub join_bins-less : (a b : Bin) (left right : List Bin) → a.value < b.value → IsRising (b ∷ right)
    → join_bins (a ∷ left) (b ∷ right) ≡ a ∷ join_bins left (b ∷ right)
join_bins-less a b left right less rising =
    join_bins-front a left (b ∷ right) (
      less,
      above_weaker a.value b.value right
          (omega arith) rising.0,
    )

pub join_bins-greater : (a b : Bin) (left right : List Bin) → b.value < a.value
    → IsRising (b ∷ right)
    → join_bins (a ∷ left) (b ∷ right) ≡ b ∷ join_bins (a ∷ left) right
join_bins-greater a b left right greater rising =
    ap (λ (bins : List Bin). join_bins bins right) (with_bin-front a left b greater)
    ∙ join_bins-front b (a ∷ left) right rising.0

pub join_bins-same : (a b : Bin) (left right : List Bin) → b.value ≡ a.value → IsRising (b ∷ right)
    → join_bins (a ∷ left) (b ∷ right) ≡ (record {
      value = a.value;
      count =
          added a.count b.count;
    }) ∷ join_bins left right
join_bins-same a b left right same rising =
    let bin : Bin = record { value = a.value; count = added a.count b.count } in
    ap (λ (bins : List Bin). join_bins bins right) (with_bin-same a left b same)
    ∙ join_bins-front bin left right (subst (λ (v : ℕ). IsAbove v right) same rising.0)

-- ---- bins are known by the number at each word

-- the numbers of both at a word
abbrev pub both : Option ℕ → Option ℕ → Option ℕ
both None n = n
both (Some m) None = Some m
both (Some m) (Some n) = Some (added m n)

both-none : (m : Option ℕ) → both m None ≡ m
both-none None = refl
both-none (Some m) = refl

pub added-association : (m n k : ℕ) → added (added m n) k ≡ added m (added n k)
added-association m n k =
    mod-add-mod (m + n) (2 ^ 64) k
    ∙ ap (λ (s : ℕ). s % 2 ^ 64) (add_assoc m n k)
    ∙ sym (add-mod-mod m (n + k) (2 ^ 64))

both-association : (m n k : Option ℕ) → both (both m n) k ≡ both m (both n k)
both-association None n k = refl
both-association (Some m) None k = refl
both-association (Some m) (Some n) None = refl
both-association (Some m) (Some n) (Some k) = ap (λ (s : ℕ). Some s) (added-association m n k)

count_at-here : (bin : Bin) (bins : List Bin) (q : ℕ) → q ≡ bin.value
    → count_at (bin ∷ bins) q ≡ Some bin.count
count_at-here bin bins q here = let e = eq-eqb q bin.value here in rw e refl

count_at-past : (bin : Bin) (bins : List Bin) (q : ℕ) → (q ≡ bin.value → ⊥)
    → count_at (bin ∷ bins) q ≡ count_at bins q
count_at-past bin bins q not = let ne = ne_eqb q bin.value not in rw ne refl

count_at-above : (v : ℕ) (bins : List Bin) (q : ℕ) → q ≤ v → IsAbove v bins → count_at bins q ≡ None
count_at-above v [] q le above = refl
count_at-above v (bin ∷ bins) q le above =
    count_at-past bin bins q (λ same. let less = above.0 in omega arith)
    ∙ count_at-above v bins q le above.1

count_at-with_bin : (bins : List Bin) (new : Bin) → IsRising bins
    → count_at (with_bin bins new) new.value ≡ both (count_at bins new.value) (Some new.count)
count_at-with_bin [] new rising = count_at-here new [] new.value refl
count_at-with_bin (bin ∷ bins) new rising =
    let q = new.value in
    elim (cases_order new.value bin.value) [
      | inl same ↦
          ap (λ (bs : List Bin). count_at bs q) (with_bin-same bin bins new same)
          ∙ count_at-here (record { value = bin.value; count = added bin.count new.count }) bins q
          same
          ∙ sym (ap (λ (m : Option ℕ). both m (Some new.count)) (count_at-here bin bins q same))
      | inr order ↦ elim order [
        | inl less ↦
            let none : count_at (bin ∷ bins) q ≡ None =
            count_at-past bin bins q (λ same. omega arith) ∙ count_at-above bin.value bins q
            (omega arith) rising.0 in
            ap (λ (bs : List Bin). count_at bs q) (with_bin-front bin bins new less)
            ∙ count_at-here new (bin ∷ bins) q refl
            ∙ sym (ap (λ (m : Option ℕ). both m (Some new.count)) none)
        | inr greater ↦
            ap (λ (bs : List Bin). count_at bs q) (with_bin-behind bin bins new greater)
            ∙ count_at-past bin (with_bin bins new) q (λ same. omega arith)
            ∙ count_at-with_bin bins new rising.1
            ∙ sym (ap (λ (m : Option ℕ). both m (Some new.count))
            (count_at-past bin bins q (λ same. omega arith)))
      ]
    ]

count_at-other : (bins : List Bin) (new : Bin) (q : ℕ) → (q ≡ new.value → ⊥)
    → count_at (with_bin bins new) q ≡ count_at bins q
count_at-other [] new q not = count_at-past new [] q not
count_at-other (bin ∷ bins) new q not =
    elim (cases_order new.value bin.value) [
      | inl same ↦
          let past : q ≡ bin.value → ⊥ = λ here. not (here ∙ sym same) in
          ap (λ (bs : List Bin). count_at bs q) (with_bin-same bin bins new same)
          ∙ count_at-past (record { value = bin.value; count = added bin.count new.count }) bins q
          past
          ∙ sym (count_at-past bin bins q past)
      | inr order ↦ elim order [
        | inl less ↦ ap (λ (bs : List Bin). count_at bs q) (with_bin-front bin bins new less)
            ∙ count_at-past new (bin ∷ bins) q not
        | inr greater ↦
            ap (λ (bs : List Bin). count_at bs q) (with_bin-behind bin bins new greater)
            ∙ elim (cases_eq q bin.value) [
              | inl here ↦ count_at-here bin (with_bin bins new) q here
                  ∙ sym (count_at-here bin bins q here)
              | inr past ↦
                  count_at-past bin (with_bin bins new) q past
                  ∙ count_at-other bins new q not
                  ∙ sym (count_at-past bin bins q past)
            ]
      ]
    ]

pub count_at-join : (left right : List Bin) (q : ℕ) → IsRising left → IsRising right
    → count_at (join_bins left right) q ≡ both (count_at left q) (count_at right q)
count_at-join left [] q rising others = sym (both-none (count_at left q))
count_at-join left (new ∷ right) q rising others =
    count_at-join (with_bin left new) right q (with_bin-rising left new rising) others.1
    ∙ elim (cases_eq q new.value) [
      | inl here ↦
          let none : count_at right q ≡ None = count_at-above new.value right q
          (omega arith) others.0 in
          let one : count_at (with_bin left new) q ≡ both (count_at left q) (Some new.count) =
          subst (λ (v : ℕ). count_at (with_bin left new) v ≡ both (count_at left v)
          (Some new.count)) (sym here) (count_at-with_bin left new rising) in
          ap (both (count_at (with_bin left new) q)) none
          ∙ both-none (count_at (with_bin left new) q)
          ∙ one
          ∙ sym (ap (both (count_at left q)) (count_at-here new right q here))
      | inr past ↦
          ap (λ (m : Option ℕ). both m (count_at right q)) (count_at-other left new q past)
          ∙ sym (ap (both (count_at left q)) (count_at-past new right q past))
    ]

bin_same : (a b : Bin) → a.value ≡ b.value → a.count ≡ b.count → a ≡ b
bin_same a b value count =
    ap (λ (v : ℕ). let bin : Bin = record { value = v; count = a.count } in bin) value
    ∙ ap (λ (n : ℕ). let bin : Bin = record { value = b.value; count = n } in bin) count

some_same : (m n : ℕ) → Some m ≡ Some n → m ≡ n
some_same m n same = cc

-- two rising lists with one number at each word are the same
pub same_bins : (a b : List Bin) → IsRising a → IsRising b → ((q : ℕ)
    → count_at a q ≡ count_at b q) → a ≡ b
same_bins [] [] rising others same = refl
same_bins [] (b ∷ bs) rising others same =
    absurd (let here = same b.value ∙ count_at-here b bs b.value refl in cc)
same_bins (a ∷ more) [] rising others same =
    absurd (let here = sym (same a.value) ∙ count_at-here a more a.value refl in cc)
same_bins (a ∷ more) (b ∷ bs) rising others same =
    elim (cases_order a.value b.value) [
      | inl equal ↦
          let counts : a.count ≡ b.count =
          some_same a.count b.count (sym (count_at-here a more a.value refl) ∙ same a.value
          ∙ count_at-here b bs a.value equal) in
          let rest : (q : ℕ) → count_at more q ≡ count_at bs q =
          λ q. elim (cases_eq q a.value) [
            | inl here ↦
                count_at-above a.value more q (omega arith) rising.0
                ∙ sym (count_at-above b.value bs q (omega arith) others.0)
            | inr past ↦
                sym (count_at-past a more q past)
                ∙ same q
                ∙ count_at-past b bs q (λ here. past (here ∙ sym equal))
          ] in
          ap (λ (bin : Bin). bin ∷ more) (bin_same a b equal counts)
          ∙ ap (λ (bins : List Bin). b ∷ bins) (same_bins more bs rising.1 others.1 rest)
      | inr order ↦ elim order [
        | inl less ↦ absurd (
            let none : count_at (b ∷ bs) a.value ≡ None =
            count_at-past b bs a.value (λ here. omega arith) ∙ count_at-above b.value bs a.value
            (omega arith) others.0 in
            let here = sym (count_at-here a more a.value refl) ∙ same a.value ∙ none in
            cc)
        | inr greater ↦ absurd (
            let none : count_at (a ∷ more) b.value ≡ None =
            count_at-past a more b.value (λ here. omega arith) ∙ count_at-above a.value more b.value
            (omega arith) rising.0 in
            let here = sym (count_at-here b bs b.value refl) ∙ sym (same b.value) ∙ none in
            cc)
      ]
    ]

pub join_bins-association : (a b c : List Bin) → IsRising a → IsRising b → IsRising c
    → join_bins (join_bins a b) c ≡ join_bins a (join_bins b c)
join_bins-association a b c first second third =
    let front = join_bins-rising a b first in
    let back = join_bins-rising b c second in
    same_bins (join_bins (join_bins a b) c) (join_bins a (join_bins b c))
    (join_bins-rising (join_bins a b) c front) (join_bins-rising a (join_bins b c) first)
    (λ q.
    count_at-join (join_bins a b) c q front third
    ∙ ap (λ (m : Option ℕ). both m (count_at c q)) (count_at-join a b q first second)
    ∙ both-association (count_at a q) (count_at b q) (count_at c q)
    ∙ sym (ap (both (count_at a q)) (count_at-join b c q second third))
    ∙ sym (count_at-join a (join_bins b c) q first back))
