-- The names of labels: they are names, and together they are no longer than the source.
use Rattle.std.proofs.Common.{◌≡◌, ℕ, zero, suc, ◌+◌, ◌-◌, ◌<◌, ◌≤◌, Bool, ◌&&◌, cond, true, false, List, [], ◌∷◌, ◌++◌, length, get_or, take, drop, map, refl, sym, ap, subst, ◌∙◌, arith, inl, inr, length-drop}
use Rattle.std.specs.Prelude.{nat_lt, nat_le, ◌==◌, slice_index}
use Rattle.std.specs.List.{All, AllByRecursion, list_any, prefix_len, slice_split, onto_first, before_first, position_or_len}
use Rattle.std.specs.Str.Lines.{lines, lines_of_parts, strip_carriage_return}
use Rattle.std.proofs.lemmas.Bool.{cases_lt, ltb-true, eqb-true, false_from_ne_true}
use Rattle.std.proofs.lemmas.Bool.Decides.{nat_tests}
use Rattle.std.proofs.lemmas.List.{length-take, length-take-le, get_or-take, get_or_past}
use Rattle.std.proofs.lemmas.List.Sums.{prefix_len_passes}
use Rattle.std.proofs.lemmas.List.Folds.{list_any_none}
use Rattle.std.proofs.lemmas.List.Elements.{All-from_get_or, All-weaker}
use Rattle.elf_image.specs.Symbols.{is_zero}
use Rattle.asm_text.specs.Bytes.{is_blank, begins_name, is_name_byte, name_len, without_front_blanks}
use Rattle.asm_text.specs.Lines.{without_comment, code_of, has_label, front_name, behind_label, labels_within, labels_of}
use Rattle.rv_asm.specs.declared.place.Label.{Label}
use Rattle.rv_asm.specs.declared.place.Place.{Place}
use Rattle.rv_asm.specs.Places.{place_after}
use Rattle.rv_asm.specs.Labels.{label_at, labels_in}

pub record IsProper (name : List ℕ) : Type 0 where
  pub some : 0 < length name
  pub free : list_any is_zero name ≡ false
  pub bytes : All (λ b. b < 256) name

-- ---- the bytes of a name

both_of : (a b : Bool) → (a && b) ≡ true → (a ≡ true) × (b ≡ true)
both_of true b is = (refl, is)
both_of false b is = absurd (let h : false ≡ true = is in cc)

name_byte_some : (b : ℕ) → is_name_byte b ≡ true → 0 < b
name_byte_some zero is = absurd (let h : false ≡ true = is in cc)
name_byte_some (suc b) is = omega arith

name_byte_small : (b : ℕ) → is_name_byte b ≡ true → b < 256
name_byte_small b is = grind (arith, nat_tests)

named_len : (b : Bool) (n k : ℕ) → k < cond b n 0 → k < n
named_len true n k lt = lt
named_len false n k lt = absurd (omega arith)

name_passes : (code : List ℕ) (k : ℕ) → k < name_len code → is_name_byte (get_or code k 0) ≡ true
name_passes code k lt = prefix_len_passes is_name_byte code k 0 (named_len (begins_name (slice_index code 0)) (prefix_len is_name_byte code) k lt)

-- a label ends within the line
within : (code : List ℕ) → has_label code ≡ true → name_len code < length code
within code label =
    let colon : get_or code (name_len code) 0 ≡ 58 = eqb-true (get_or code (name_len code) 0) 58 (both_of (nat_lt 0 (name_len code)) _ label).1 in
    elim (cases_lt (name_len code) (length code)) [
      | inl lt ↦ lt
      | inr past ↦ absurd (let none = get_or_past code (name_len code) 0 past in omega (arith, colon, none))
    ]

proper : (code : List ℕ) → has_label code ≡ true → IsProper (front_name code)
proper code label =
    let lt = within code label in
    let len : length (front_name code) ≡ name_len code = length-take-le (name_len code) code (omega (arith, lt)) in
    let named : All (λ b. is_name_byte b ≡ true) (front_name code) =
    All-from_get_or (λ b. is_name_byte b ≡ true) (front_name code) 0
    (λ k below. ap is_name_byte (get_or-take (name_len code) code k 0 (omega (arith, below, len))) ∙ name_passes code k (omega (arith, below, len))) in
    record {
      some = omega (arith, len, ltb-true 0 (name_len code) (both_of (nat_lt 0 (name_len code)) _ label).0);
      free = list_any_none is_zero (front_name code)
          (All-weaker (λ b. is_name_byte b ≡ true) (λ b. is_zero b ≡ false)
          (λ b is. false_from_ne_true (b == 0) (λ zero_is. let some = name_byte_some b is in let e = eqb-true b 0 zero_is in omega (arith, some, e))) (front_name code) named);
      bytes = All-weaker (λ b. is_name_byte b ≡ true) (λ b. b < 256) name_byte_small (front_name code) named;
    }

-- ---- the labels of a line

abbrev pub names_total : List (List ℕ) → ℕ
names_total [] = 0
names_total (name ∷ names) = length name + 1 + names_total names

chosen_proper : (b : Bool) (names : List (List ℕ)) → (b ≡ true → AllByRecursion IsProper names) → AllByRecursion IsProper (cond b names [])
chosen_proper true names all = all refl
chosen_proper false names all = tt

labels_proper : (n : ℕ) (code : List ℕ) → AllByRecursion IsProper (labels_within n code)
unfolding labels_within
labels_proper zero code = tt
labels_proper (suc n) code = chosen_proper (has_label code) (front_name code ∷ labels_within n (behind_label code))
    (λ label. (proper code label, labels_proper n (behind_label code)))

chosen_total : (b : Bool) (names : List (List ℕ)) (n : ℕ) → (b ≡ true → names_total names ≤ n) → names_total (cond b names []) ≤ n
chosen_total true names n few = few refl
chosen_total false names n few = omega arith

labels_total : (n : ℕ) (code : List ℕ) → names_total (labels_within n code) ≤ length code
unfolding labels_within
labels_total zero code = omega arith
labels_total (suc n) code = chosen_total (has_label code) (front_name code ∷ labels_within n (behind_label code)) (length code)
    (λ label.
    let lt = within code label in
    let len : length (front_name code) ≡ name_len code = length-take-le (name_len code) code (omega (arith, lt)) in
    let rest = labels_total n (behind_label code) in
    let shorter : length (behind_label code) + (name_len code + 1) ≤ length code = omega (arith, length-drop {A = ℕ}) in
    omega (arith, len, rest, shorter))

code_len : (line : List ℕ) → length (code_of line) ≤ length line
code_len line = omega (arith, length-drop {A = ℕ}, length-take {A = ℕ})

-- ---- the labels of lines

abbrev pub lines_total : List (List ℕ) → ℕ
lines_total [] = 0
lines_total (line ∷ lines) = length line + lines_total lines

abbrev pub total : List Label → ℕ
total [] = 0
total (label ∷ labels) = length label.name + 1 + total labels

abbrev pub AreProper : List Label → Type 0
AreProper labels = AllByRecursion (λ l. IsProper l.name) labels

mapped_total : (place : Place) (number : ℕ) (names : List (List ℕ)) (later : List Label) → total (map (label_at place number) names ++ later) ≡ names_total names + total later
mapped_total place number [] later = omega arith
mapped_total place number (name ∷ names) later = let rest = mapped_total place number names later in omega (arith, rest)

mapped_proper : (place : Place) (number : ℕ) (names : List (List ℕ)) (later : List Label) → AllByRecursion IsProper names → AreProper later → AreProper (map (label_at place number) names ++ later)
mapped_proper place number [] later all rest = rest
mapped_proper place number (name ∷ names) later all rest = (all.0, mapped_proper place number names later all.1 rest)

pub all_proper : (place : Place) (number : ℕ) (ls : List (List ℕ)) → AreProper (labels_in place number ls)
all_proper place number [] = tt
all_proper place number (line ∷ ls) = mapped_proper place number (labels_of line) (labels_in (place_after place line) (number + 1) ls)
    (labels_proper (length line) (code_of line)) (all_proper (place_after place line) (number + 1) ls)

all_total : (place : Place) (number : ℕ) (ls : List (List ℕ)) → total (labels_in place number ls) ≤ lines_total ls
all_total place number [] = omega arith
all_total place number (line ∷ ls) =
    let same = mapped_total place number (labels_of line) (labels_in (place_after place line) (number + 1) ls) in
    let first = labels_total (length line) (code_of line) in
    let code = code_len line in
    let rest = all_total (place_after place line) (number + 1) ls in
    omega (arith, same, first, code, rest)

-- ---- lines and the source

onto_total : (x : ℕ) (parts : List (List ℕ)) → lines_total (onto_first x parts) ≤ suc (lines_total parts)
onto_total x [] = omega arith
onto_total x (part ∷ parts) = omega arith

split_case : (b : Bool) (x : ℕ) (parts : List (List ℕ)) (n : ℕ) → lines_total parts ≤ n → lines_total (cond b ([] ∷ parts) (onto_first x parts)) ≤ suc n
split_case true x parts n few = omega arith
split_case false x parts n few = let more = onto_total x parts in omega (arith, more)

split_total : (p : ℕ → Bool) (bs : List ℕ) → lines_total (slice_split p bs) ≤ length bs
split_total p [] = omega arith
split_total p (b ∷ bs) = split_case (p b) b (slice_split p bs) (length bs) (split_total p bs)

last_case : (b : Bool) (line : List ℕ) → lines_total (cond b [] (line ∷ [])) ≤ length line
last_case true line = omega arith
last_case false line = omega arith

strip_case : (b : Bool) (line : List ℕ) → length (cond b (take (length line - 1) line) line) ≤ length line
strip_case true line = omega (arith, length-take {A = ℕ})
strip_case false line = omega arith

parts_total : (parts : List (List ℕ)) → lines_total (lines_of_parts parts) ≤ lines_total parts
parts_total [] = omega arith
parts_total (part ∷ []) = let last = last_case (length part == 0) part in omega (arith, last)
parts_total (part ∷ next ∷ more) =
    let first = strip_case (slice_index part (length part - 1) == 13) part in
    let rest = parts_total (next ∷ more) in
    omega (arith, first, rest)

pub labels_few : (place : Place) (number : ℕ) (source : List ℕ) → total (labels_in place number (lines source)) ≤ length source
labels_few place number source =
    let a = all_total place number (lines source) in
    let b = parts_total (slice_split (λ c. c == 10) source) in
    let d = split_total (λ c. c == 10) source in
    omega (arith, a, b, d)
