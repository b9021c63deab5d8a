use Rattle.std.proofs.Common.{◌≡◌, ℕ, ◌+◌, ◌<◌, ◌≤◌, List, length, get_or, take, drop, eqb, eq-eqb, sym, ap, ◌∙◌, arith}
use Rattle.std.specs.List.{position_or_len}
use Rattle.std.proofs.lemmas.Bool.{ne_eqb}
use Rattle.std.proofs.lemmas.List.{take_all, drop_all}
use Rattle.std.proofs.lemmas.List.Sums.{position_or_len_is}
use Rattle.analysers.proofs.Rests.{rest_whole}
use Rattle.analysers.proofs.kind_text.at_colon.Goals as goal

-- the first colon stands here, or none stands anywhere
first_colon : (text : List ℕ) (i : ℕ) → i ≤ length text → ((k : ℕ) → k < i → get_or text k 0 ≡ 58
    → ⊥) → (i < length text → get_or text i 0 ≡ 58)
    → position_or_len (λ c. eqb c 58) text ≡ i
first_colon text i within before here =
    position_or_len_is (λ c. eqb c 58) text i 0 within
    (λ k less. ne_eqb (get_or text k 0) 58 (before k less)) (λ less. eq-eqb (get_or text i 0) 58
    (here less))

pub returns-then-c-eq58-clause-before : goal.returns-then-c-eq58-clause-before
returns-then-c-eq58-clause-before c =
    let at = first_colon c.args.text.now c.loop-i.i (omega arith) c.loop-i.invariant
    (λ less. c.if-c-eq58.true) in
    sym (ap (λ n. take n c.args.text.now) at)

pub returns-then-c-eq58-clause-behind : goal.returns-then-c-eq58-clause-behind
returns-then-c-eq58-clause-behind c =
    let at = first_colon c.args.text.now c.loop-i.i (omega arith) c.loop-i.invariant
    (λ less. c.if-c-eq58.true) in
    rest_whole c.args.text.now (c.loop-i.i + 1) ∙ sym (ap (λ n. drop (n + 1) c.args.text.now) at)

pub returns-clause-before : goal.returns-clause-before
returns-clause-before c =
    let text = c.args.text.now in
    let at = first_colon text c.loop-i.i c.loop-i.auto.i-end c.loop-i.invariant
    (λ less. absurd (omega arith)) in
    sym (ap (λ n. take n text) at ∙ take_all c.loop-i.i text c.loop-i-test.false)

pub returns-clause-behind : goal.returns-clause-behind
returns-clause-behind c =
    let text = c.args.text.now in
    let at = first_colon text c.loop-i.i c.loop-i.auto.i-end c.loop-i.invariant
    (λ less. absurd (omega arith)) in
    sym (ap (λ n. drop (n + 1) text) at ∙ drop_all (c.loop-i.i + 1) text (omega arith))
