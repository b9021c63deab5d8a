-- The stack and the heap of a program on rows that were worked by hand.
use Rattle.std.proofs.Common.{◌≡◌, ℕ, List, [], ◌∷◌, refl}
use Rattle.replay.specs.Opening.{strings, strings_start, stack_words, stack_pointer, round_up, heap_limit}

-- without arguments
none_start : strings_start [] ≡ 0x80000000
none_start = refl

none_pointer : stack_pointer [] ≡ 0x7fffffe0
none_pointer = refl

none_words : stack_words [] ≡ 0 ∷ 0 ∷ 0 ∷ 0 ∷ 0 ∷ []
none_words = refl

-- "hi" and the empty argument
abbrev two : List (List ℕ)
two = (0x68 ∷ 0x69 ∷ []) ∷ [] ∷ []

two_strings : strings two ≡ 0x68 ∷ 0x69 ∷ 0 ∷ 0 ∷ []
two_strings = refl

two_start : strings_start two ≡ 0x7ffffff0
two_start = refl

two_words : stack_words two ≡ 2 ∷ 0x7ffffff0 ∷ 0x7ffffff3 ∷ 0 ∷ 0 ∷ 0 ∷ 0 ∷ []
two_words = refl

two_pointer : stack_pointer two ≡ 0x7fffffd0
two_pointer = refl

-- sixteen bytes, which take seventeen with their zero byte
abbrev sixteen : List (List ℕ)
sixteen = (1 ∷ 2 ∷ 3 ∷ 4 ∷ 5 ∷ 6 ∷ 7 ∷ 8 ∷ 9 ∷ 10 ∷ 11 ∷ 12 ∷ 13 ∷ 14 ∷ 15 ∷ 16 ∷ []) ∷ []

sixteen_start : strings_start sixteen ≡ 0x7fffffe0
sixteen_start = refl

sixteen_pointer : stack_pointer sixteen ≡ 0x7fffffc0
sixteen_pointer = refl

-- the heap ends 16 MiB behind its start, below the stack or at the end of memory
far_below : heap_limit 0x11000 ≡ 0x1011000
far_below = refl

close_below : heap_limit 0x7fe00000 ≡ 0x7ff00000
close_below = refl

no_room : heap_limit 0x7ff00000 ≡ 0x7ff00000
no_room = refl

above_stack : heap_limit 0x80000000 ≡ 0x81000000
above_stack = refl

close_to_end : heap_limit 0xbfffe000 ≡ 0xbffff000
close_to_end = refl

past_a_page : round_up 4096 0x10001 ≡ 0x11000
past_a_page = refl

at_a_page : round_up 4096 0x10000 ≡ 0x10000
at_a_page = refl
