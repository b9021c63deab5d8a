-- The definitions of the bank and its log on rows that were worked by hand.
use Rattle.std.proofs.Common.{◌≡◌, ℕ, List, [], ◌∷◌, replicate, Some, refl}
use Rattle.std.specs.Ordering.{nat_cmp}
use Rattle.std.specs.FinMap.{from_sorted}
use Rattle.sl_model.specs.Bank.{code_size}

-- no word takes no page, and one word or a thousand and twenty-four take one
no_code : code_size [] ≡ 0
no_code = refl

one_word_of_code : code_size (5 ∷ []) ≡ 4096
one_word_of_code = refl

a_page_of_code : code_size (replicate 1024 5) ≡ 4096
a_page_of_code = refl

more_than_a_page : code_size (replicate 1025 5) ≡ 8192
more_than_a_page = refl
