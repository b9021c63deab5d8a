-- What `memchr` finds, in the words of the definitions.
use Rattle.std.proofs.Common.{◌≡◌, ℕ, ◌+◌, ◌<◌, ◌==◌, List, [], length, get_or, take, drop, true, false, not, refl, sym, ap, ◌∙◌, arith}
use Rattle.std.specs.Prelude.{Some, None}
use Rattle.std.specs.List.{prefix_len, position_or_len, before_first, after_first}
use Rattle.std.proofs.lemmas.Bool.{false_from_ne_true}
use Rattle.std.proofs.lemmas.List.{take_all, drop_all, take_rest}
use Rattle.std.proofs.lemmas.List.Sums.{prefix_len_is}
use Rattle.memchr.specs.Find.{IsFirstByte, is_byte}

-- the place of the first such byte
pub found : (a : ℕ) (bs : List ℕ) (n : ℕ) → IsFirstByte (is_byte a) bs (Some n) → position_or_len (λ b. b == a) bs ≡ n
found a bs n first = prefix_len_is (λ b. not (b == a)) bs n 0 (omega (arith, first.0.high))
    (λ k lt. ap not (false_from_ne_true (get_or bs k 0 == a) (first.0.before k (omega arith) lt)))
    (λ lt. ap not first.1)

pub absent : (a : ℕ) (bs : List ℕ) → IsFirstByte (is_byte a) bs None → position_or_len (λ b. b == a) bs ≡ length bs
absent a bs none = prefix_len_is (λ b. not (b == a)) bs (length bs) 0 (omega arith)
    (λ k lt. ap not (false_from_ne_true (get_or bs k 0 == a) (none k (omega arith) lt)))
    (λ lt. absurd (omega arith))

pub before_found : (a : ℕ) (bs : List ℕ) (n : ℕ) → IsFirstByte (is_byte a) bs (Some n) → take n bs ≡ before_first (λ b. b == a) bs
before_found a bs n first = ap (λ m. take m bs) (sym (found a bs n first))

pub after_found : (a : ℕ) (bs : List ℕ) (n : ℕ) → IsFirstByte (is_byte a) bs (Some n) → drop (n + 1) bs ≡ after_first (λ b. b == a) bs
after_found a bs n first = ap (λ m. drop (m + 1) bs) (sym (found a bs n first))

pub before_absent : (a : ℕ) (bs : List ℕ) → IsFirstByte (is_byte a) bs None → bs ≡ before_first (λ b. b == a) bs
before_absent a bs none = sym (ap (λ m. take m bs) (absent a bs none) ∙ take_all (length bs) bs (omega arith))

pub after_absent : (a : ℕ) (bs : List ℕ) → IsFirstByte (is_byte a) bs None → [] ≡ after_first (λ b. b == a) bs
after_absent a bs none = sym (ap (λ m. drop (m + 1) bs) (absent a bs none) ∙ drop_all (length bs + 1) bs (omega arith))
