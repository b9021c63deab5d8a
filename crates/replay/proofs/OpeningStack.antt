-- How a program's arguments stand on its stack.
use Rattle.std.specs.Prelude.{◌*◌, ◌++◌, replicate, drop}
use Rattle.std.specs.List.{flat_map}
use Rattle.std.proofs.Common.{◌≡◌, ℕ, suc, ◌+◌, ◌<◌, ◌≤◌, List, [], ◌∷◌, length, refl, sym, ap, ◌∙◌, arith, length-append, append_assoc, get_or, drop-cons, add-one}
use Rattle.std.proofs.lemmas.Grind.{flat_map-append}
use Rattle.std.proofs.lemmas.List.Sums.{sum_by-cons}
use Rattle.sl_model.specs.declared.layout.TheConstants.{STACK_START, STACK_END}
use Rattle.sl_model.specs.Pages.{low_bytes}
use Rattle.sl_model.proofs.PagesLaws.{length-low_bytes}
use Rattle.rec_format.specs.Rules.{AreArguments, args_size}
use Rattle.replay.specs.Opening.{strings, strings_start, string_addresses, stack_words, stack_pointer}

-- ---- the strings

-- the strings of one more argument
pub length-strings-cons : (arg : List ℕ) (args : List (List ℕ)) → length (strings (arg ∷ args)) ≡ length arg + 1 + length (strings args)
length-strings-cons arg args = omega (arith, length-append (arg ++ 0 ∷ []) (strings args), length-append arg (0 ∷ []))

pub length-strings : (args : List (List ℕ)) → length (strings args) ≡ args_size args
length-strings [] = refl
length-strings (arg ∷ args) =
    let more : args_size (arg ∷ args) ≡ length arg + 1 + args_size args = sum_by-cons (λ (a : List ℕ). length a + 1) arg args in
    omega (arith, length-strings-cons arg args, length-strings args, more)

pub few_strings : (args : List (List ℕ)) → AreArguments args → length (strings args) ≤ 65536
few_strings args are = omega (arith, length-strings args, are.size)

-- ---- what is left of them at each step

-- the arguments from one on are that one and those behind it
pub from_next : {A : Type 0} (xs : List A) (i : ℕ) (x : A) → i < length xs → x ≡ get_or xs i x → drop i xs ≡ x ∷ drop (i + 1) xs
from_next xs i x within is = drop-cons xs i x within ∙ rw (← is, add-one) refl

pub length-next : (args : List (List ℕ)) (i : ℕ) (arg : List ℕ) → i < length args → arg ≡ get_or args i arg → length (strings (drop i args)) ≡ length arg + 1 + length (strings (drop (i + 1) args))
length-next args i arg within is = ap (λ l. length (strings l)) (from_next args i arg within is) ∙ length-strings-cons arg (drop (i + 1) args)

-- ---- where they stand

pub record StandsAt (args : List (List ℕ)) : Type 0 where
  pub start : 0x7FFE0000 ≤ strings_start args
  pub end : strings_start args + length (strings args) ≤ STACK_END
  pub pointer : STACK_START ≤ stack_pointer args
  pub words_end : stack_pointer args + 4 * (length args + 5) ≤ strings_start args

pub stands_at : (args : List (List ℕ)) → AreArguments args → StandsAt args
stands_at args are =
    let few = few_strings args are in
    let number = are.number in
    record { start = omega arith; end = omega arith; pointer = omega arith; words_end = omega arith }

-- ---- the words

pub length-words : (words : List ℕ) → length (flat_map (low_bytes 4) words) ≡ 4 * length words
length-words [] = refl
length-words (word ∷ words) = omega (arith, length-append (low_bytes 4 word) (flat_map (low_bytes 4) words), length-low_bytes 4 word, length-words words)

length-string_addresses : (address : ℕ) (args : List (List ℕ)) → length (string_addresses address args) ≡ length args
length-string_addresses address [] = refl
length-string_addresses address (arg ∷ args) = ap suc (length-string_addresses (address + length arg + 1) args)

pub length-stack_words : (args : List (List ℕ)) → length (flat_map (low_bytes 4) (stack_words args)) ≡ 4 * (length args + 5)
length-stack_words args =
    let addresses = length-string_addresses (strings_start args) args in
    omega (arith, length-words (stack_words args), addresses, length-append (string_addresses (strings_start args) args) (replicate 4 0))

-- the first word, the addresses and the zeros behind them
pub words_begin : (args : List (List ℕ))
    → low_bytes 4 (length args) ++ (flat_map (low_bytes 4) (string_addresses (strings_start args) args) ++ replicate 16 0) ≡ flat_map (low_bytes 4) (stack_words args)
words_begin args = ap (λ l. low_bytes 4 (length args) ++ l) (sym (flat_map-append (low_bytes 4) (string_addresses (strings_start args) args) (replicate 4 0)))

-- one address more
pub words_more : (words : List ℕ) (address : ℕ) (arg : List ℕ) (args : List (List ℕ)) (zeros all : List ℕ)
    → words ++ (flat_map (low_bytes 4) (string_addresses address (arg ∷ args)) ++ zeros) ≡ all
    → (words ++ low_bytes 4 address) ++ (flat_map (low_bytes 4) (string_addresses (address + length arg + 1) args) ++ zeros) ≡ all
words_more words address arg args zeros all is =
    let rest : List ℕ = flat_map (low_bytes 4) (string_addresses (address + length arg + 1) args) in
    append_assoc words (low_bytes 4 address) (rest ++ zeros) ∙ ap (λ l. words ++ l) (sym (append_assoc (low_bytes 4 address) rest zeros)) ∙ is

pub words_start : (args : List (List ℕ)) (words : List ℕ) (start : ℕ) → words ≡ low_bytes 4 (length args) → start ≡ strings_start args
    → words ++ (flat_map (low_bytes 4) (string_addresses start args) ++ replicate 16 0) ≡ flat_map (low_bytes 4) (stack_words args)
words_start args words start begun at = rw (begun, at) (words_begin args)
