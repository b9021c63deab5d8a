-- The laws of the kinds whose parts are joined, by kind.
use Rattle.std.proofs.Common.{◌≡◌, ℕ, ◌%◌, ◌^◌, ◌<◌, min, max, List, [], Option, Some, None, refl, sym, ap, subst, ◌∙◌, zero-add, add-zero, lit<, arith}
use Rattle.std.specs.Option.{option_or, unwrap_or}
use Rattle.std.proofs.lemmas.Nat.{mod_below}
use Rattle.std.proofs.Math.Nat.{mod-eq_of_lt}
use Rattle.tracer_lang.specs.declared.record.Record.{Record}
use Rattle.analysers.specs.declared.part.Bin.{Bin}
use Rattle.analysers.specs.declared.part.Part.{Part}
use Rattle.analysers.specs.declared.part.Part.TheVariants as part
use Rattle.analysers.specs.declared.trees.TreeKind.{TreeKind}
use Rattle.analysers.specs.declared.trees.TreeKind.TheVariants.{Count, Sum, Least, Greatest, Hist, First, Last}
use Rattle.analysers.specs.Words.{word_at, lesser, greater}
use Rattle.analysers.specs.Bins.{IsRising, AreCounts, added, join_bins}
use Rattle.analysers.specs.Parts.{Fits, no_part, part_of, join_parts, bin_of}
use Rattle.analysers.specs.BinLaws.{added-fits, added-association, join_bins-rising, join_bins-counts, join_bins-none, join_bins-association}

-- ---- each value that is made fits

pub no_part-fits : (kind : TreeKind) → Fits kind (no_part kind)
no_part-fits Count = (0, refl, lit< tt)
no_part-fits (Sum place) = (0, refl, lit< tt)
no_part-fits (Least place) = (None, refl)
no_part-fits (Greatest place) = (None, refl)
no_part-fits (Hist place) = ([], refl, tt, tt)
no_part-fits First = (None, refl)
no_part-fits Last = (None, refl)

pub bin_of-rising : (word : Option ℕ) → IsRising (bin_of word)
bin_of-rising None = tt
bin_of-rising (Some word) = (tt, tt)

bin_of-counts : (word : Option ℕ) → AreCounts (bin_of word)
bin_of-counts None = tt
bin_of-counts (Some word) = (lit< tt, tt)

pub part_of-fits : (kind : TreeKind) (r : Record) → Fits kind (part_of kind r)
part_of-fits Count r = (1, refl, lit< tt)
part_of-fits (Sum place) r = (
  unwrap_or (word_at place r) 0 % 2 ^ 64,
  refl,
  mod_below (unwrap_or (word_at place r) 0)
      (2 ^ 64) (lit< tt),
)
part_of-fits (Least place) r = (word_at place r, refl)
part_of-fits (Greatest place) r = (word_at place r, refl)
part_of-fits (Hist place) r = (
  bin_of (word_at place r),
  refl,
  bin_of-rising (word_at place r),
  bin_of-counts
      (word_at place r),
)
part_of-fits First r = (Some r, refl)
part_of-fits Last r = (Some r, refl)

both_are : (a b x y : Part) → a ≡ x → b ≡ y → join_parts a b ≡ join_parts x y
both_are a b x y p q = ap (λ (u : Part). join_parts u b) p ∙ ap (λ (v : Part). join_parts x v) q

pub join_parts-fits : (kind : TreeKind) (a b : Part) → Fits kind a → Fits kind b
    → Fits kind (join_parts a b)
join_parts-fits Count a b (m, p, left) (n, q, right) =
    (added m n, both_are a b (part.Count m) (part.Count n) p q, added-fits m n)
join_parts-fits (Sum place) a b (m, p, left) (n, q, right) =
    (added m n, both_are a b (part.Sum m) (part.Sum n) p q, added-fits m n)
join_parts-fits (Least place) a b (m, p) (n, q) =
    (lesser m n, both_are a b (part.Least m) (part.Least n) p q)
join_parts-fits (Greatest place) a b (m, p) (n, q) =
    (greater m n, both_are a b (part.Greatest m) (part.Greatest n) p q)
join_parts-fits (Hist place) a b (m, p, rising, counts) (n, q, others, more) = (
  join_bins m n,
  both_are a b (part.Hist m) (part.Hist n) p q,
  join_bins-rising m n rising,
  join_bins-counts m n counts more,
)
join_parts-fits First a b (m, p) (n, q) =
    (option_or m n, both_are a b (part.First m) (part.First n) p q)
join_parts-fits Last a b (m, p) (n, q) =
    (option_or n m, both_are a b (part.Last m) (part.Last n) p q)

-- ---- no records on either side

added-left : (n : ℕ) → n < 2 ^ 64 → added 0 n ≡ n
added-left n fits = ap (λ (s : ℕ). s % 2 ^ 64) (zero-add n) ∙ mod-eq_of_lt fits

added-right : (n : ℕ) → n < 2 ^ 64 → added n 0 ≡ n
added-right n fits = ap (λ (s : ℕ). s % 2 ^ 64) (add-zero n) ∙ mod-eq_of_lt fits

lesser-none : (m : Option ℕ) → lesser m None ≡ m
lesser-none None = refl
lesser-none (Some m) = refl

greater-none : (m : Option ℕ) → greater m None ≡ m
greater-none None = refl
greater-none (Some m) = refl

or-none : (r : Option Record) → option_or r None ≡ r
or-none None = refl
or-none (Some r) = refl

left_of : (kind : TreeKind) (a x : Part) → a ≡ x → join_parts (no_part kind) x ≡ x
    → join_parts (no_part kind) a ≡ a
left_of kind a x p law = subst (λ (u : Part). join_parts (no_part kind) u ≡ u) (sym p) law

pub join_parts-left : (kind : TreeKind) (a : Part) → Fits kind a → join_parts (no_part kind) a ≡ a
join_parts-left Count a (n, p, fits) = left_of Count a (part.Count n) p
    (ap (λ (s : ℕ). part.Count s) (added-left n fits))
join_parts-left (Sum place) a (n, p, fits) = left_of (Sum place) a (part.Sum n) p
    (ap (λ (s : ℕ). part.Sum s) (added-left n fits))
join_parts-left (Least place) a (m, p) = left_of (Least place) a (part.Least m) p refl
join_parts-left (Greatest place) a (m, p) = left_of (Greatest place) a (part.Greatest m) p refl
join_parts-left (Hist place) a (bins, p, rising, counts) =
    left_of (Hist place) a (part.Hist bins) p (ap (λ (bs : List Bin). part.Hist bs)
    (join_bins-none bins rising))
join_parts-left First a (r, p) = left_of First a (part.First r) p refl
join_parts-left Last a (r, p) = left_of Last a (part.Last r) p
    (ap (λ (o : Option Record). part.Last o) (or-none r))

right_of : (kind : TreeKind) (a x : Part) → a ≡ x → join_parts x (no_part kind) ≡ x
    → join_parts a (no_part kind) ≡ a
right_of kind a x p law = subst (λ (u : Part). join_parts u (no_part kind) ≡ u) (sym p) law

pub join_parts-right : (kind : TreeKind) (a : Part) → Fits kind a → join_parts a (no_part kind) ≡ a
join_parts-right Count a (n, p, fits) = right_of Count a (part.Count n) p
    (ap (λ (s : ℕ). part.Count s) (added-right n fits))
join_parts-right (Sum place) a (n, p, fits) = right_of (Sum place) a (part.Sum n) p
    (ap (λ (s : ℕ). part.Sum s) (added-right n fits))
join_parts-right (Least place) a (m, p) = right_of (Least place) a (part.Least m) p
    (ap (λ (o : Option ℕ). part.Least o) (lesser-none m))
join_parts-right (Greatest place) a (m, p) = right_of (Greatest place) a (part.Greatest m) p
    (ap (λ (o : Option ℕ). part.Greatest o) (greater-none m))
join_parts-right (Hist place) a (bins, p, rising, counts) = right_of (Hist place) a
    (part.Hist bins) p refl
join_parts-right First a (r, p) = right_of First a (part.First r) p
    (ap (λ (o : Option Record). part.First o) (or-none r))
join_parts-right Last a (r, p) = right_of Last a (part.Last r) p refl

-- ---- which two neighbours are joined first

lesser-association : (a b c : Option ℕ) → lesser (lesser a b) c ≡ lesser a (lesser b c)
lesser-association None b c = refl
lesser-association (Some a) None c = refl
lesser-association (Some a) (Some b) None = refl
lesser-association (Some a) (Some b) (Some c) = let e : min (min a b) c ≡ min a (min b c) =
    omega arith in ap (λ (n : ℕ). Some n) e

greater-association : (a b c : Option ℕ) → greater (greater a b) c ≡ greater a (greater b c)
greater-association None b c = refl
greater-association (Some a) None c = refl
greater-association (Some a) (Some b) None = refl
greater-association (Some a) (Some b) (Some c) = let e : max (max a b) c ≡ max a (max b c) =
    omega arith in ap (λ (n : ℕ). Some n) e

or-association : (a b c : Option Record) → option_or (option_or a b) c ≡ option_or a (option_or b c)
or-association None b c = refl
or-association (Some a) b c = refl

three_are : (a b c x y z : Part) → a ≡ x → b ≡ y → c ≡ z → join_parts (join_parts x y) z
    ≡ join_parts x (join_parts y z)
    → join_parts (join_parts a b) c ≡ join_parts a (join_parts b c)
three_are a b c x y z p q r law =
    both_are (join_parts a b) c (join_parts x y) z (both_are a b x y p q) r
    ∙ law
    ∙ sym (both_are a (join_parts b c) x (join_parts y z) p (both_are b c y z q r))

pub join_parts-association : (kind : TreeKind) (a b c : Part) → Fits kind a → Fits kind b
    → Fits kind c
    → join_parts (join_parts a b) c ≡ join_parts a (join_parts b c)
join_parts-association Count a b c (m, p, f) (n, q, g) (k, r, h) =
    three_are a b c (part.Count m) (part.Count n) (part.Count k) p q r
    (ap (λ (s : ℕ). part.Count s) (added-association m n k))
join_parts-association (Sum place) a b c (m, p, f) (n, q, g) (k, r, h) =
    three_are a b c (part.Sum m) (part.Sum n) (part.Sum k) p q r
    (ap (λ (s : ℕ). part.Sum s) (added-association m n k))
join_parts-association (Least place) a b c (m, p) (n, q) (k, r) =
    three_are a b c (part.Least m) (part.Least n) (part.Least k) p q r
    (ap (λ (o : Option ℕ). part.Least o) (lesser-association m n k))
join_parts-association (Greatest place) a b c (m, p) (n, q) (k, r) =
    three_are a b c (part.Greatest m) (part.Greatest n) (part.Greatest k) p q r
    (ap (λ (o : Option ℕ). part.Greatest o) (greater-association m n k))
join_parts-association (Hist place) a b c (m, p, first, f) (n, q, second, g) (k, r, third, h) =
    three_are a b c (part.Hist m) (part.Hist n) (part.Hist k) p q r
    (ap (λ (bs : List Bin). part.Hist bs) (join_bins-association m n k first second third))
join_parts-association First a b c (m, p) (n, q) (k, r) =
    three_are a b c (part.First m) (part.First n) (part.First k) p q r
    (ap (λ (o : Option Record). part.First o) (or-association m n k))
join_parts-association Last a b c (m, p) (n, q) (k, r) =
    three_are a b c (part.Last m) (part.Last n) (part.Last k) p q r
    (ap (λ (o : Option Record). part.Last o) (sym (or-association k n m)))
