-- Which texts stand in a field of a table as they are; the words of analyses among them.
use Rattle.std.proofs.Common.{◌≡◌, ◌≢◌, ℕ, ◌+◌, ◌*◌, ◌<◌, ◌≤◌, Bool, true, false, cond, ◌||◌, ◌&&◌, ltb, leb, eqb, List, [], ◌∷◌, ◌++◌, length, get_or, take, drop, ◌⊎◌, inl, inr, refl, sym, ap, subst, ◌∙◌, arith}
use Rattle.std.specs.Prelude.{codes, nat_eq, nat_lt, nat_le, Option, Some, None, option_map, option_and_then}
use Rattle.std.specs.Char.{digit_value}
use Rattle.std.specs.List.{All, list_any, starts_with, before_first, after_first, position_or_len}
use Rattle.std.specs.Option.{option_or}
use Rattle.std.specs.Str.{bytes_eq}
use Rattle.std.proofs.lemmas.Bool.{ne_eqb, eqb-true, ltb-true, cases_lt}
use Rattle.std.proofs.lemmas.List.{take-append-drop, take_all}
use Rattle.std.proofs.lemmas.List.Elements.{All-nil, All-cons, All-append, All-same}
use Rattle.std.proofs.lemmas.List.Sums.{split_at_first, passes_at_first}
use Rattle.std.proofs.lemmas.Option.{same_Some}
use Rattle.std.proofs.lemmas.Slice.Eq.{bytes_eq-Decides}
use Rattle.analysers.specs.declared.kind.KindOf.{KindOf}
use Rattle.analysers.specs.declared.kind.KindOf.TheVariants.{Point, Word, Changes, Rising, Open, Sum, Least, Greatest, Hist}
use Rattle.analysers.specs.declared.kind.KindOf.TheVariants as kind
use Rattle.analysers.specs.Kinds.{behind, before_colon, behind_colon, named, placed, place_of, point_of, point_kind, valued, word_kind, opened, open_kind, place_kind, kind_of}
use Rattle.analysers.specs.Numbers.{hex_from, hex_number, hex_digits, hex_value, decimal_from, up_to, number}
use Rattle.analysers.specs.Plain.{is_special, IsPlain}

-- ---- bytes

abbrev IsPlainByte : ℕ → Type 0
IsPlainByte b = is_special b ≡ false

pub plain_byte : (b : ℕ) → (b ≡ 44 → ⊥) → (b ≡ 34 → ⊥) → (b ≡ 13 → ⊥) → (b ≡ 10 → ⊥)
    → is_special b ≡ false
plain_byte b comma quote return feed =
    let first = ne_eqb b 44 comma in
    let second = ne_eqb b 34 quote in
    let third = ne_eqb b 13 return in
    let fourth = ne_eqb b 10 feed in
    rw (first, second, third, fourth) refl

pub plain_above : (b : ℕ) → 45 ≤ b → is_special b ≡ false
plain_above b above =
    plain_byte b (λ is. omega arith) (λ is. omega arith) (λ is. omega arith) (λ is. omega arith)

or_false : (a b : Bool) → a || b ≡ false → (a ≡ false) × (b ≡ false)
or_false false b is = (refl, is)
or_false true b is = absurd (cc)

-- ---- texts

pub plain-nil : IsPlain []
plain-nil = All-nil IsPlainByte

pub plain-cons : (b : ℕ) (bs : List ℕ) → is_special b ≡ false → IsPlain bs → IsPlain (b ∷ bs)
plain-cons b bs first rest = All-cons IsPlainByte b bs first rest

pub plain-append : (xs ys : List ℕ) → IsPlain xs → IsPlain ys → IsPlain (xs ++ ys)
plain-append xs ys front back = All-append IsPlainByte xs ys front back

pub plain-same : (xs ys : List ℕ) → xs ≡ ys → IsPlain ys → IsPlain xs
plain-same xs ys same plain = All-same IsPlainByte xs ys same plain

-- a text that is at hand
pub plain_literal : (bs : List ℕ) → list_any is_special bs ≡ false → IsPlain bs
plain_literal [] none = plain-nil
plain_literal (b ∷ bs) none =
    let both = or_false (is_special b) (list_any is_special bs) none in
    plain-cons b bs both.0 (plain_literal bs both.1)

-- ---- choices

guarded : {X : Type 0} (b : Bool) (o : Option X) (x : X) → cond b o None ≡ Some x
    → (b ≡ true) × (o ≡ Some x)
guarded false o x is = absurd (cc)
guarded true o x is = (refl, is)

either : {X : Type 0} (b : Bool) (o p : Option X) (x : X) → cond b o p ≡ Some x
    → (b ≡ true) ⊎ (p ≡ Some x)
either false o p x is = inr is
either true o p x is = inl refl

first_or : {X : Type 0} (o p : Option X) (x : X) → option_or o p ≡ Some x
    → (o ≡ Some x) ⊎ (p ≡ Some x)
first_or None p x is = inr is
first_or (Some y) p x is = inl is

and_then_is : {X Y : Type 0} (f : X → Option Y) (o : Option X) (y : Y)
    → option_and_then f o ≡ Some y → (x : X) × (o ≡ Some x) × (f x ≡ Some y)
and_then_is f None y is = absurd (cc)
and_then_is f (Some x) y is = (x, refl, is)

mapped_is : {X Y : Type 0} (f : X → Y) (o : Option X) (y : Y) → option_map f o ≡ Some y
    → (x : X) × (o ≡ Some x)
mapped_is f None y is = absurd (cc)
mapped_is f (Some x) y is = (x, refl)

-- ---- digits

plain_digit : (c : ℕ) → digit_value c < 16 → is_special c ≡ false
plain_digit c below =
    plain_byte c
    (λ is. let none : 36 < 16 = subst (λ (d : ℕ). digit_value d < 16) is below in omega arith)
    (λ is. let none : 36 < 16 = subst (λ (d : ℕ). digit_value d < 16) is below in omega arith)
    (λ is. let none : 36 < 16 = subst (λ (d : ℕ). digit_value d < 16) is below in omega arith)
    (λ is. let none : 36 < 16 = subst (λ (d : ℕ). digit_value d < 16) is below in omega arith)

plain_hex : (n : ℕ) (cs : List ℕ) (v : ℕ) → hex_from n cs ≡ Some v → IsPlain cs
plain_hex n [] v is = plain-nil
plain_hex n (c ∷ cs) v is =
    let both = guarded (ltb (digit_value c) 16) (hex_from (16 * n + digit_value c) cs) v is in
    plain-cons c cs (plain_digit c (ltb-true (digit_value c) 16 both.0))
    (plain_hex (16 * n + digit_value c) cs v both.1)

plain_decimal : (n : ℕ) (cs : List ℕ) (v : ℕ) → decimal_from n cs ≡ Some v → IsPlain cs
plain_decimal n [] v is = plain-nil
plain_decimal n (c ∷ cs) v is =
    let both = guarded (ltb (digit_value c) 10) (decimal_from (10 * n + digit_value c) cs) v is in
    let below = ltb-true (digit_value c) 10 both.0 in
    plain-cons c cs (plain_digit c (omega arith))
    (plain_decimal (10 * n + digit_value c) cs v both.1)

plain_number : (most limit : ℕ) (cs : List ℕ) (v : ℕ) → number most limit cs ≡ Some v → IsPlain cs
plain_number most limit cs v is =
    let both = guarded (leb 1 (length cs) && leb (length cs) most)
    (option_and_then (up_to limit) (decimal_from 0 cs)) v is in
    let read = and_then_is (up_to limit) (decimal_from 0 cs) v both.1 in
    plain_decimal 0 cs read.0 read.1

prefixed : (prefix word : List ℕ) → starts_with nat_eq word prefix ≡ true
    → word ≡ prefix ++ drop (length prefix) word
prefixed prefix word is =
    let n = length prefix in
    let same : prefix ≡ take n word = (bytes_eq-Decides prefix (take n word)).0 is in
    sym (take-append-drop n word) ∙ ap (λ (p : List ℕ). p ++ drop n word) (sym same)

plain_value : (text : List ℕ) (v : ℕ) → hex_value text ≡ Some v → IsPlain text
plain_value text v is =
    let both = guarded (leb 1 (length (hex_digits text)) && leb (length (hex_digits text)) 8)
    (hex_from 0 (hex_digits text)) v is in
    let digits : IsPlain (hex_digits text) = plain_hex 0 (hex_digits text) v both.1 in
    elim (starts_with nat_eq text (codes "0x")) as (λ (b : Bool).
    starts_with nat_eq text (codes "0x") ≡ b → IsPlain (cond b (drop 2 text) text) → IsPlain text) [
      | true ↦ λ starts rest. plain-same text (codes "0x" ++ drop 2 text)
          (prefixed (codes "0x") text starts)
          (plain-append (codes "0x") (drop 2 text) (plain_literal (codes "0x") refl) rest)
      | false ↦ λ starts rest. rest
    ] refl digits

-- ---- words

plain_behind : (prefix word rest : List ℕ) → list_any is_special prefix ≡ false
    → behind prefix word ≡ Some rest → IsPlain rest → IsPlain word
plain_behind prefix word rest none is plain =
    let left = drop (length prefix) word in
    let both = guarded (starts_with nat_eq word prefix) (Some left) rest is in
    plain-same word (prefix ++ left) (prefixed prefix word both.0)
    (plain-append prefix left (plain_literal prefix none)
    (plain-same left rest (same_Some left rest both.1) plain))

plain_pair : (text : List ℕ) → IsPlain (before_colon text) → IsPlain (behind_colon text)
    → IsPlain text
plain_pair text front back =
    let p : ℕ → Bool = λ c. eqb c 58 in
    elim (cases_lt (position_or_len p text) (length text)) [
      | inl less ↦
          let colon : get_or text (position_or_len p text) 0 ≡ 58 =
          eqb-true (get_or text (position_or_len p text) 0) 58 (passes_at_first p text 0 less) in
          plain-same text
          (before_colon text ++ (get_or text (position_or_len p text) 0 ∷ behind_colon text))
          (split_at_first p text 0 less)
          (plain-append (before_colon text)
          (get_or text (position_or_len p text) 0 ∷ behind_colon text) front
          (plain-cons (get_or text (position_or_len p text) 0) (behind_colon text)
          (ap is_special colon) back))
      | inr past ↦ plain-same text (before_colon text)
          (sym (take_all (position_or_len p text) text past)) front
    ]

plain_named : (word : List ℕ) (what : KindOf) → named word ≡ Some what → IsPlain word
plain_named word what is =
    let literal : (name : List ℕ) → list_any is_special name ≡ false → bytes_eq word name ≡ true
    → IsPlain word =
    λ name none same. plain-same word name ((bytes_eq-Decides word name).0 same)
    (plain_literal name none) in
    elim (either (bytes_eq word (codes "all")) (Some kind.All) _ what is) [
      | inl same ↦ literal (codes "all") refl same
      | inr second ↦ elim (either (bytes_eq word (codes "done")) (Some kind.Done) _ what second) [
        | inl same ↦ literal (codes "done") refl same
        | inr third ↦ elim (either (bytes_eq word (codes "count")) (Some kind.Count) _ what third) [
          | inl same ↦ literal (codes "count") refl same
          | inr fourth ↦ elim (either (bytes_eq word (codes "first")) (Some kind.First) _ what fourth) [
            | inl same ↦ literal (codes "first") refl same
            | inr fifth ↦ literal (codes "last") refl
                (guarded (bytes_eq word (codes "last")) (Some kind.Last) what fifth).0
          ]
        ]
      ]
    ]

plain_point : (word : List ℕ) (what : KindOf) → point_kind word ≡ Some what → IsPlain word
plain_point word what is =
    let read = mapped_is Point (option_and_then point_of (behind (codes "point=") word)) what is in
    let rest = and_then_is point_of (behind (codes "point=") word) read.0 read.1 in
    plain_behind (codes "point=") word rest.0 refl rest.1 (plain_number 2 63 rest.0 read.0 rest.2)

plain_word : (word : List ℕ) (what : KindOf) → word_kind word ≡ Some what → IsPlain word
plain_word word what is =
    let rest = and_then_is valued (behind (codes "word=") word) what is in
    let text = rest.0 in
    let place = and_then_is (λ place. option_map (Word place) (hex_value (behind_colon text)))
    (place_of (before_colon text)) what rest.2 in
    let value = mapped_is (Word place.0) (hex_value (behind_colon text)) what place.2 in
    plain_behind (codes "word=") word text refl rest.1
    (plain_pair text (plain_number 3 255 (before_colon text) place.0 place.1)
    (plain_value (behind_colon text) value.0 value.1))

plain_open : (word : List ℕ) (what : KindOf) → open_kind word ≡ Some what → IsPlain word
plain_open word what is =
    let rest = and_then_is opened (behind (codes "open=") word) what is in
    let text = rest.0 in
    let opens = and_then_is (λ opens. option_map (Open opens) (point_of (behind_colon text)))
    (point_of (before_colon text)) what rest.2 in
    let closes = mapped_is (Open opens.0) (point_of (behind_colon text)) what opens.2 in
    plain_behind (codes "open=") word text refl rest.1
    (plain_pair text (plain_number 2 63 (before_colon text) opens.0 opens.1)
    (plain_number 2 63 (behind_colon text) closes.0 closes.1))

plain_placed : (name word : List ℕ) (f : ℕ → KindOf) (what : KindOf)
    → list_any is_special name ≡ false → option_map f (placed name word) ≡ Some what → IsPlain word
plain_placed name word f what none is =
    let read = mapped_is f (placed name word) what is in
    let rest = and_then_is place_of (behind name word) read.0 read.1 in
    plain_behind name word rest.0 none rest.1 (plain_number 3 255 rest.0 read.0 rest.2)

plain_place : (word : List ℕ) (what : KindOf) → place_kind word ≡ Some what → IsPlain word
plain_place word what is =
    elim (first_or (option_map Changes (placed (codes "changes=") word)) _ what is) [
      | inl here ↦ plain_placed (codes "changes=") word Changes what refl here
      | inr second ↦ elim (first_or (option_map Rising (placed (codes "rising=") word)) _ what second) [
        | inl here ↦ plain_placed (codes "rising=") word Rising what refl here
        | inr third ↦ elim (first_or (option_map Sum (placed (codes "sum=") word)) _ what third) [
          | inl here ↦ plain_placed (codes "sum=") word Sum what refl here
          | inr fourth ↦ elim (first_or (option_map Least (placed (codes "least=") word)) _ what fourth) [
            | inl here ↦ plain_placed (codes "least=") word Least what refl here
            | inr fifth ↦ elim (first_or (option_map Greatest (placed (codes "greatest=") word)) _ what fifth) [
              | inl here ↦ plain_placed (codes "greatest=") word Greatest what refl here
              | inr sixth ↦ plain_placed (codes "hist=") word Hist what refl sixth
            ]
          ]
        ]
      ]
    ]

-- a word that names an analysis
pub plain_kind : (word : List ℕ) (what : KindOf) → kind_of word ≡ Some what → IsPlain word
plain_kind word what is =
    elim (first_or (named word) _ what is) [
      | inl here ↦ plain_named word what here
      | inr second ↦ elim (first_or (point_kind word) _ what second) [
        | inl here ↦ plain_point word what here
        | inr third ↦ elim (first_or (word_kind word) _ what third) [
          | inl here ↦ plain_word word what here
          | inr fourth ↦ elim (first_or (open_kind word) (place_kind word) what fourth) [
            | inl here ↦ plain_open word what here
            | inr fifth ↦ plain_place word what fifth
          ]
        ]
      ]
    ]
