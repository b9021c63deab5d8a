-- Names in a string table.
use Rattle.std.specs.Prelude.{◌-◌, nat_lt, ◌==◌, ◌&&◌, ◌||◌, not, if◌then◌else◌, zero, suc}
use Rattle.std.specs.List.{list_any, before_first, position_or_len}
use Rattle.std.proofs.Common.{◌≡◌, ℕ, ◌+◌, ◌<◌, ◌≤◌, Bool, true, false, cond, List, [], ◌∷◌, ◌++◌, Option, Some, None, length, take, drop, get_or, refl, sym, ap, ◌∙◌, arith, lt-ltb, true≢false, ⊎_elim}
use Rattle.std.proofs.lemmas.Bool.{cases_lt, or_parts}
use Rattle.std.proofs.lemmas.List.Folds.{list_any_none, list_any_at, list_any-append}
use Rattle.std.proofs.lemmas.List.Sums.{prefix_len_is}
use Rattle.std.proofs.lemmas.List.{get_or_default, drop_all, length-take, length-drop, drop-append-le, take-append-drop, get_or-drop}
use Rattle.std.proofs.Math.Seq.{drop-append-add}
use Rattle.memchr.specs.Find.{IsFirstByte, IsLastByte, is_byte}
use Rattle.elf_image.specs.Symbols.{is_zero, name_at}

-- no byte before this one is zero, and this one is
first_zero : (rest : List ℕ) (len : ℕ) → IsFirstByte (is_byte 0) rest (Some len) → position_or_len is_zero rest ≡ len
first_zero rest len is = prefix_len_is (λ b. not (is_zero b)) rest len 0 (omega (arith, is.0.high)) passes stops
  where
    passes : (k : ℕ) → k < len → not (get_or rest k 0 == 0) ≡ true
    passes k before = chosen (get_or rest k 0 == 0) refl
      where
        chosen : (b : Bool) → (get_or rest k 0 == 0) ≡ b → not b ≡ true
        chosen true at = absurd (is.0.before k (omega arith) before at)
        chosen false at = refl

    stops : len < length rest → not (get_or rest len 0 == 0) ≡ false
    stops within = ap not is.1

has_zero : (rest : List ℕ) (len : ℕ) → IsFirstByte (is_byte 0) rest (Some len) → list_any is_zero rest ≡ true
has_zero rest len is = list_any_at is_zero rest len 0 is.0.high is.1

no_zero : (rest : List ℕ) → IsFirstByte (is_byte 0) rest None → list_any is_zero rest ≡ false
no_zero rest is = list_any_none is_zero rest each
  where
    each : (k : ℕ) (d : ℕ) → k < length rest → is_zero (get_or rest k d) ≡ false
    each k d within = ap is_zero (get_or_default rest k d 0 within) ∙ chosen (is_zero (get_or rest k 0)) refl
      where
        chosen : (b : Bool) → is_zero (get_or rest k 0) ≡ b → is_zero (get_or rest k 0) ≡ false
        chosen true at = absurd (is k (omega arith) within at)
        chosen false at = at

module _ (strings : List ℕ) (offset : ℕ) where
  pub name_past : length strings < offset → None ≡ name_at strings offset
  unfolding name_at
  name_past past = rw (drop_all offset strings (omega arith)) refl

  pub name_unended : IsFirstByte (is_byte 0) (drop offset strings) None → None ≡ name_at strings offset
  unfolding name_at
  name_unended is = rw (no_zero (drop offset strings) is) refl

  pub name_empty : IsFirstByte (is_byte 0) (drop offset strings) (Some 0) → None ≡ name_at strings offset
  unfolding name_at
  name_empty is = rw (has_zero (drop offset strings) 0 is, first_zero (drop offset strings) 0 is) refl

  pub name_is : (len : ℕ) → IsFirstByte (is_byte 0) (drop offset strings) (Some len) → 0 < len → Some (take len (drop offset strings)) ≡ name_at strings offset
  unfolding name_at
  name_is len is some =
      let within : len ≤ length (drop offset strings) = omega (arith, is.0.high) in
      let whole : length (take len (drop offset strings)) ≡ len = grind (arith, length-take len (drop offset strings)) in
      rw (has_zero (drop offset strings) len is, first_zero (drop offset strings) len is, whole, lt-ltb 0 len some) refl

-- ---- names end with a zero byte

-- where some byte is zero, what stands behind changes nothing of the bytes before it
before_first-append : (xs ys : List ℕ) → list_any is_zero xs ≡ true → before_first is_zero (xs ++ ys) ≡ before_first is_zero xs
before_first-append [] ys some = absurd (true≢false (sym some))
before_first-append (x ∷ xs) ys some = chosen (is_zero x) some (before_first-append xs ys)
  where
    chosen : (b : Bool) → (b || list_any is_zero xs) ≡ true → (list_any is_zero xs ≡ true → before_first is_zero (xs ++ ys) ≡ before_first is_zero xs)
        → take (cond (not b) (1 + position_or_len is_zero (xs ++ ys)) 0) (x ∷ (xs ++ ys)) ≡ take (cond (not b) (1 + position_or_len is_zero xs) 0) (x ∷ xs)
    chosen true some later = refl
    chosen false some later = grind (arith, later some)

name_of : List ℕ → Option (List ℕ)
name_of rest = if list_any is_zero rest && nat_lt 0 (length (before_first is_zero rest)) then Some (before_first is_zero rest) else None

name_of-append : (xs ys : List ℕ) → list_any is_zero ys ≡ false → name_of (xs ++ ys) ≡ name_of xs
unfolding name_of
name_of-append xs ys none = chosen (list_any is_zero xs) refl
  where
    same : list_any is_zero (xs ++ ys) ≡ list_any is_zero xs
    same = list_any-append is_zero xs ys ∙ ap (λ b. list_any is_zero xs || b) none ∙ or_false (list_any is_zero xs)
      where
        or_false : (b : Bool) → (b || false) ≡ b
        or_false true = refl
        or_false false = refl

    chosen : (b : Bool) → list_any is_zero xs ≡ b → cond (list_any is_zero (xs ++ ys) && nat_lt 0 (length (before_first is_zero (xs ++ ys)))) (Some (before_first is_zero (xs ++ ys))) None
        ≡ cond (list_any is_zero xs && nat_lt 0 (length (before_first is_zero xs))) (Some (before_first is_zero xs)) None
    chosen true is = rw (same, is, before_first-append xs ys is) refl
    chosen false is = rw (same, is) refl

none_dropped : (n : ℕ) (ys : List ℕ) → list_any is_zero ys ≡ false → list_any is_zero (drop n ys) ≡ false
none_dropped zero ys none = none
none_dropped (suc n) [] none = refl
none_dropped (suc n) (y ∷ ys) none = none_dropped n ys (or_parts (is_zero y) (list_any is_zero ys) none).1

name_of-none : (rest : List ℕ) → list_any is_zero rest ≡ false → name_of rest ≡ None
unfolding name_of
name_of-none rest none = rw none refl

past_end : (xs ys : List ℕ) (offset : ℕ) → length xs < offset → drop offset (xs ++ ys) ≡ drop (offset - length xs) ys
past_end xs ys offset past =
    let sum : offset ≡ length xs + (offset - length xs) = omega arith in
    ap (λ n. drop n (xs ++ ys)) sum ∙ drop-append-add xs ys (offset - length xs)

pub name_at-front : (xs ys : List ℕ) (offset : ℕ) → list_any is_zero ys ≡ false → name_at xs offset ≡ name_at (xs ++ ys) offset
unfolding name_at name_of
name_at-front xs ys offset none = ⊎_elim
    (λ (past : length xs < offset).
    let ends : drop offset xs ≡ [] = drop_all offset xs (omega arith) in
    ap name_of ends ∙ sym (ap name_of (past_end xs ys offset past) ∙ name_of-none (drop (offset - length xs) ys) (none_dropped (offset - length xs) ys none)))
    (λ (le : offset ≤ length xs). sym (ap name_of (drop-append-le offset xs ys le) ∙ name_of-append (drop offset xs) ys none))
    (cases_lt (length xs) offset)

-- ---- the part of a string table up to its last zero byte

none_behind : (strings : List ℕ) (len : ℕ) → ((k : ℕ) → len ≤ k → k < length strings → (get_or strings k 0 == 0) ≡ true → ⊥) → list_any is_zero (drop len strings) ≡ false
none_behind strings len never = list_any_none is_zero (drop len strings) each
  where
    each : (k : ℕ) (d : ℕ) → k < length (drop len strings) → is_zero (get_or (drop len strings) k d) ≡ false
    each k d within =
        let inside : len + k < length strings = grind (arith, length-drop len strings) in
        ap is_zero (get_or_default (drop len strings) k d 0 within ∙ get_or-drop len strings k 0) ∙ chosen (is_zero (get_or strings (len + k) 0)) refl inside
      where
        chosen : (b : Bool) → is_zero (get_or strings (len + k) 0) ≡ b → len + k < length strings → is_zero (get_or strings (len + k) 0) ≡ false
        chosen true at inside = absurd (never (len + k) (omega arith) inside at)
        chosen false at inside = at

pub names_end : (strings : List ℕ) (len offset : ℕ) → ((k : ℕ) → len ≤ k → k < length strings → (get_or strings k 0 == 0) ≡ true → ⊥) → name_at (take len strings) offset ≡ name_at strings offset
names_end strings len offset never =
    name_at-front (take len strings) (drop len strings) offset (none_behind strings len never)
    ∙ ap (λ (bytes : List ℕ). name_at bytes offset) (take-append-drop len strings)

pub last_zero : (strings : List ℕ) (last offset : ℕ) → IsLastByte (is_byte 0) strings (Some last) → name_at (take (last + 1) strings) offset ≡ name_at strings offset
last_zero strings last offset is = names_end strings (last + 1) offset (λ k from within at. is.0.after k from within at)

pub never_zero : (strings : List ℕ) (offset : ℕ) → IsLastByte (is_byte 0) strings None → name_at (take 0 strings) offset ≡ name_at strings offset
never_zero strings offset is = names_end strings 0 offset (λ k from within at. is k from within at)
