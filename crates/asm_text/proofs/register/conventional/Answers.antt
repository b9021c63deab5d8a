use Rattle.std.proofs.Common.{◌≡◌, ℕ, ◌%◌, ◌<◌, ◌≤◌, List, [], length, nat_lt, true, false, get_or, sym, ◌∙◌, ap, arith, subst}
use Rattle.std.specs.Prelude.{Option, Some, None, position}
use Rattle.std.specs.Str.{bytes_eq}
use Rattle.std.specs.List.{position_or_len}
use Rattle.std.proofs.lemmas.Bool.{lt-ltb, le-ltb, cond-true, cond-false}
use Rattle.std.proofs.lemmas.List.Sums.{position_or_len_is}
use Rattle.std.proofs.Math.Nat.{mod-eq_of_lt}
use Rattle.rv_text.specs.Text.{register_name, register_names}
use Rattle.asm_text.proofs.register.conventional.Goals as goal

-- the first register with a name
here : (name : List ℕ) (n : ℕ) → n < 32 → ((k : ℕ) → k < n → bytes_eq (register_name k) name ≡ false) → bytes_eq (register_name n) name ≡ true
    → position (λ text. bytes_eq text name) register_names ≡ Some n
unfolding register_name
here name n few before is =
    let at : position_or_len (λ text. bytes_eq text name) register_names ≡ n =
    position_or_len_is (λ text. bytes_eq text name) register_names n [] (omega arith) before (λ lt. is) in
    cond-true (nat_lt (position_or_len (λ text. bytes_eq text name) register_names) 32) _ None (lt-ltb _ 32 (omega arith)) ∙ ap Some at

nowhere : (name : List ℕ) → ((k : ℕ) → k < 32 → bytes_eq (register_name k) name ≡ false)
    → position (λ text. bytes_eq text name) register_names ≡ None
unfolding register_name
nowhere name before =
    let at : position_or_len (λ text. bytes_eq text name) register_names ≡ 32 =
    position_or_len_is (λ text. bytes_eq text name) register_names 32 [] (omega arith) before (λ lt. absurd (omega arith)) in
    cond-false (nat_lt (position_or_len (λ text. bytes_eq text name) register_names) 32) _ None (le-ltb _ 32 (omega arith))

named : (name shown text : List ℕ) (n low : ℕ) → n < 32 → low ≡ n % 32 → ((k : ℕ) → k < n → bytes_eq (register_name k) name ≡ false)
    → text ≡ shown → shown ≡ register_name low → bytes_eq text name ≡ true → Some low ≡ position (λ t. bytes_eq t name) register_names
named name shown text n low few is before same shown_is equal =
    let low_is : low ≡ n = is ∙ mod-eq_of_lt few in
    let at : bytes_eq (register_name n) name ≡ true = ap (λ (t : List ℕ). bytes_eq t name) (sym (same ∙ shown_is ∙ ap register_name low_is)) ∙ equal in
    ap Some low_is ∙ sym (here name n few before at)

pub returns-then-eq : goal.returns-then-eq
returns-then-eq c = named c.args.name.now _ _ c.loop-number.number _ c.loop-number-test.true c.low-register.ensures c.loop-number.invariant
    c.as_bytes.ensures.value c.name_of.ensures (sym c.eq.ensures ∙ c.if-eq.true)

pub returns : goal.returns
returns c = sym (nowhere c.args.name.now (λ k lt. c.loop-number.invariant k (omega arith)))
