-- What the parts of the tree kinds say of records.
use Rattle.std.proofs.Common.{◌≡◌, ℕ, ◌+◌, ◌%◌, ◌^◌, ◌≤◌, min, max, Bool, true, false, eqb, cond, List, [], ◌∷◌, length, get_or, Option, Some, None, inl, inr, refl, sym, ap, subst, ◌∙◌, zero-add, arith}
use Rattle.std.specs.List.{Contains, sum, count_by, cons_option, slice_get, last_or}
use Rattle.std.specs.Option.{option_or, unwrap_or}
use Rattle.std.proofs.lemmas.Bool.{cases_lt, cases_eq, ne_eqb}
use Rattle.std.proofs.lemmas.List.Elements.{All-cons, All-nil, All-weaker, Contains-append_right}
use Rattle.std.proofs.lemmas.List.Sums.{sum_by-cons}
use Rattle.std.proofs.Math.Nat.{mod-add-mod, add-mod-mod}
use Rattle.tracer_lang.specs.declared.record.Record.{Record}
use Rattle.analysers.specs.declared.part.Bin.{Bin}
use Rattle.analysers.specs.declared.part.Part.{Part}
use Rattle.analysers.specs.declared.part.Part.TheVariants as part
use Rattle.analysers.specs.declared.trees.TreeKind.{TreeKind}
use Rattle.analysers.specs.declared.trees.TreeKind.TheVariants.{Count, Sum, Least, Greatest, Hist, First, Last}
use Rattle.analysers.specs.Analyses.{part_of_all}
use Rattle.analysers.specs.Bins.{added, join_bins, count_at}
use Rattle.analysers.specs.BinLaws.{both, count_at-join, join_bins-rising}
use Rattle.analysers.specs.Meanings.{words_at, IsLeast, IsGreatest, number_of, IsHistogram}
use Rattle.analysers.specs.Parts.{Fits, no_part, part_of, join_parts, bin_of}
use Rattle.analysers.specs.TreeLaws.{no_part-fits, part_of-fits, join_parts-fits, join_parts-left, join_parts-right, join_parts-association, bin_of-rising}
use Rattle.analysers.specs.Words.{word_at, lesser, greater}
use Rattle.analysers.proofs.Folds.{Joins, folded-cons}

pub laws_of : (kind : TreeKind) → Joins (Fits kind) (no_part kind) join_parts
laws_of kind = record {
  none = no_part-fits kind;
  both = join_parts-fits kind;
  left = join_parts-left kind;
  right = join_parts-right kind;
  association = join_parts-association kind;
}

-- the part of a list is that of its first record, joined with that of the rest
part-cons : (kind : TreeKind) (r : Record) (rs : List Record)
    → part_of_all kind (r ∷ rs) ≡ join_parts (part_of kind r) (part_of_all kind rs)
part-cons kind r rs =
    folded-cons (Fits kind) (no_part kind) (part_of kind) join_parts (laws_of kind) r rs
    (part_of-fits kind r) (λ k d less. part_of-fits kind (get_or rs k d))

-- a step, where it is known what the rest gives
stepped : (kind : TreeKind) (r : Record) (rs : List Record) (rest : Part)
    → part_of_all kind rs ≡ rest → part_of_all kind (r ∷ rs) ≡ join_parts (part_of kind r) rest
stepped kind r rs rest is = part-cons kind r rs ∙ ap (join_parts (part_of kind r)) is

-- ---- count and sum

pub count_means : (rs : List Record) → part_of_all Count rs ≡ part.Count (length rs % 2 ^ 64)
count_means [] = refl
count_means (r ∷ rs) =
    let one : 1 + length rs ≡ length (r ∷ rs) = omega arith in
    stepped Count r rs (part.Count (length rs % 2 ^ 64)) (count_means rs)
    ∙ ap (λ (n : ℕ). part.Count n)
    (add-mod-mod 1 (length rs) (2 ^ 64) ∙ ap (λ (n : ℕ). n % 2 ^ 64) one)

sum_step : (o : Option ℕ) (words : List ℕ)
    → added (unwrap_or o 0 % 2 ^ 64) (sum words % 2 ^ 64) ≡ sum (cons_option o words) % 2 ^ 64
sum_step None words =
    add-mod-mod 0 (sum words) (2 ^ 64) ∙ ap (λ (n : ℕ). n % 2 ^ 64) (zero-add (sum words))
sum_step (Some word) words =
    add-mod-mod (word % 2 ^ 64) (sum words) (2 ^ 64)
    ∙ mod-add-mod word (2 ^ 64) (sum words)
    ∙ ap (λ (n : ℕ). n % 2 ^ 64) (sym (sum_by-cons (λ (x : ℕ). x) word words))

pub sum_means : (place : ℕ) (rs : List Record)
    → part_of_all (Sum place) rs ≡ part.Sum (sum (words_at place rs) % 2 ^ 64)
sum_means place [] = refl
sum_means place (r ∷ rs) =
    stepped (Sum place) r rs (part.Sum (sum (words_at place rs) % 2 ^ 64)) (sum_means place rs)
    ∙ ap (λ (n : ℕ). part.Sum n) (sum_step (word_at place r) (words_at place rs))

-- ---- least and greatest

here : (x : ℕ) (xs : List ℕ) → Contains (x ∷ xs) x
here x xs = (0, omega arith, refl)

later : (y x : ℕ) (xs : List ℕ) → Contains xs x → Contains (y ∷ xs) x
later y x xs there = Contains-append_right (y ∷ []) xs x there

least_step : (o : Option ℕ) (words : List ℕ) (least : Option ℕ) → IsLeast words least
    → IsLeast (cons_option o words) (lesser o least)
least_step None words least is = is
least_step (Some word) words None is =
    subst (λ (ws : List ℕ). IsLeast (word ∷ ws) (Some word)) (sym is) (
      here word [],
      All-cons (λ (w : ℕ). word ≤ w) word [] (omega arith)
          (All-nil (λ (w : ℕ). word ≤ w)),
    )
least_step (Some word) words (Some least) is =
    elim (cases_lt word least) [
      | inl less ↦
          let e : word ≡ min word least = omega arith in
          subst (λ (m : ℕ). IsLeast (word ∷ words) (Some m)) e (
            here word words,
            All-cons (λ (w : ℕ). word ≤ w) word words (omega arith)
                (All-weaker (λ (w : ℕ). least ≤ w) (λ (w : ℕ). word ≤ w)
                (λ w le. omega arith) words is.1),
          )
      | inr le ↦
          let e : least ≡ min word least = omega arith in
          subst (λ (m : ℕ). IsLeast (word ∷ words) (Some m)) e
          (later word least words is.0, All-cons (λ (w : ℕ). least ≤ w) word words le is.1)
    ]

pub least_means : (place : ℕ) (rs : List Record)
    → (word : Option ℕ) × (part_of_all (Least place) rs ≡ part.Least word)
    × IsLeast (words_at place rs) word
least_means place [] = (None, refl, refl)
least_means place (r ∷ rs) =
    let rest = least_means place rs in (
      lesser (word_at place r) rest.0,
      stepped (Least place) r rs (part.Least rest.0) rest.1,
      least_step (word_at place r) (words_at place rs) rest.0 rest.2,
    )

greatest_step : (o : Option ℕ) (words : List ℕ) (greatest : Option ℕ) → IsGreatest words greatest
    → IsGreatest (cons_option o words) (greater o greatest)
greatest_step None words greatest is = is
greatest_step (Some word) words None is =
    subst (λ (ws : List ℕ). IsGreatest (word ∷ ws) (Some word)) (sym is) (
      here word [],
      All-cons (λ (w : ℕ). w ≤ word) word [] (omega arith)
          (All-nil (λ (w : ℕ). w ≤ word)),
    )
greatest_step (Some word) words (Some greatest) is =
    elim (cases_lt greatest word) [
      | inl more ↦
          let e : word ≡ max word greatest = omega arith in
          subst (λ (m : ℕ). IsGreatest (word ∷ words) (Some m)) e (
            here word words,
            All-cons (λ (w : ℕ). w ≤ word) word words (omega arith)
                (All-weaker (λ (w : ℕ). w ≤ greatest) (λ (w : ℕ). w ≤ word)
                (λ w le. omega arith) words is.1),
          )
      | inr le ↦
          let e : greatest ≡ max word greatest = omega arith in
          subst (λ (m : ℕ). IsGreatest (word ∷ words) (Some m)) e
          (later word greatest words is.0, All-cons (λ (w : ℕ). w ≤ greatest) word words le is.1)
    ]

pub greatest_means : (place : ℕ) (rs : List Record)
    → (word : Option ℕ) × (part_of_all (Greatest place) rs ≡ part.Greatest word)
    × IsGreatest (words_at place rs) word
greatest_means place [] = (None, refl, refl)
greatest_means place (r ∷ rs) =
    let rest = greatest_means place rs in (
      greater (word_at place r) rest.0,
      stepped (Greatest place) r rs (part.Greatest rest.0) rest.1,
      greatest_step (word_at place r) (words_at place rs) rest.0 rest.2,
    )

-- ---- first and last

pub first_means : (rs : List Record) → part_of_all First rs ≡ part.First (slice_get rs 0)
first_means [] = refl
first_means (r ∷ rs) = stepped First r rs (part.First (slice_get rs 0)) (first_means rs)

last_some : (r : Record) (rs : List Record) (o : Option Record)
    → option_or (last_or (Some r) rs) o ≡ last_or (Some r) rs
last_some r [] o = refl
last_some r (s ∷ rs) o = last_some s rs o

last_from : (o : Option Record) (rs : List Record) → option_or (last_or None rs) o ≡ last_or o rs
last_from o [] = refl
last_from o (r ∷ rs) = last_some r rs o

pub last_means : (rs : List Record) → part_of_all Last rs ≡ part.Last (last_or None rs)
last_means [] = refl
last_means (r ∷ rs) =
    stepped Last r rs (part.Last (last_or None rs)) (last_means rs)
    ∙ ap (λ (o : Option Record). part.Last o) (last_from (Some r) rs)

-- ---- histograms

-- how many there are, modulo 2^64, where there are any
abbrev some_of : ℕ → Option ℕ
some_of n = cond (eqb n 0) None (Some (n % 2 ^ 64))

one_more : (b : Bool) (n : ℕ) → both (cond b (Some 1) None) (some_of n) ≡ some_of (cond b 1 0 + n)
one_more false n = ap some_of (sym (zero-add n))
one_more true n =
    elim (cases_eq n 0) [
      | inl none ↦ subst (λ (m : ℕ). both (Some 1) (some_of m) ≡ some_of (1 + m)) (sym none) refl
      | inr some ↦
          let first = ne_eqb n 0 some in
          let second : eqb (1 + n) 0 ≡ false = ne_eqb (1 + n) 0 (λ same. omega arith) in
          rw (first, second) (ap (λ (m : ℕ). Some m) (add-mod-mod 1 n (2 ^ 64)))
    ]

number_step : (o : Option ℕ) (words : List ℕ) (value : ℕ)
    → both (count_at (bin_of o) value) (number_of value words)
    ≡ number_of value (cons_option o words)
number_step None words value = refl
number_step (Some word) words value =
    one_more (eqb value word) (count_by (λ w. eqb value w) words)
    ∙ ap some_of (sym (sum_by-cons (λ (w : ℕ). cond (eqb value w) 1 0) word words))

pub hist_means : (place : ℕ) (rs : List Record)
    → (bins : List Bin) × (part_of_all (Hist place) rs ≡ part.Hist bins)
    × IsHistogram (words_at place rs) bins
hist_means place [] = ([], refl, record { rising = tt; numbers = λ value. refl })
hist_means place (r ∷ rs) =
    let rest = hist_means place rs in
    let one = bin_of (word_at place r) in
    let rises = bin_of-rising (word_at place r) in (
      join_bins one rest.0,
      stepped (Hist place) r rs (part.Hist rest.0) rest.1,
      record {
        rising = join_bins-rising one rest.0 rises;
        numbers = λ value.
            count_at-join one rest.0 value rises rest.2.rising
            ∙ ap (both (count_at one value)) (rest.2.numbers value)
            ∙ number_step (word_at place r) (words_at place rs) value;
      },
    )
