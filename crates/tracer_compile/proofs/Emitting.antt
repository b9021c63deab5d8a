-- How code grows piece by piece.
use Rattle.std.proofs.Common.{◌≡◌, ℕ, suc, ◌+◌, ◌-◌, ◌<◌, ◌≤◌, List, [], ◌∷◌, ◌++◌, length, sym, ap, ◌∙◌, arith, append_assoc, append-nil, length-append}
use Rattle.std.specs.Prelude.{slice_set}
use Rattle.std.proofs.Math.Seq.{set-append_seam}
use Rattle.sl_model.specs.declared.instr.BranchOp.TheVariants.{Bne}
use Rattle.sl_model.specs.declared.instr.Instr.{Instr}
use Rattle.tracer_compile.specs.declared.roles.Role.TheVariants.{Zero, Value}
use Rattle.tracer_compile.specs.Blocks.{skip_if, jump_on, jump_back, push, zeros, unit_block}
use Rattle.tracer_compile.specs.Code.{choice_code, while_code}

-- one temporary more that is 0
pub one_zero_more : (code base grown : List Instr) (count done : ℕ) → done < count
    → code ++ zeros (count - done) ≡ base → grown ≡ code ++ push Zero
    → grown ++ zeros (count - (done + 1)) ≡ base
unfolding zeros
one_zero_more code base grown count done below so_far more =
    let left : count - done ≡ suc (count - (done + 1)) = omega arith in
    ap (λ l. l ++ zeros (count - (done + 1))) more
    ∙ append_assoc code (push Zero) (zeros (count - (done + 1)))
    ∙ ap (λ n. code ++ zeros n) (sym left) ∙ so_far

-- none more
pub no_zero_more : (code base : List Instr) (count done : ℕ) → count ≤ done
    → code ++ zeros (count - done) ≡ base → code ≡ base
unfolding zeros
no_zero_more code base count done over so_far =
    let none : count - done ≡ 0 = omega arith in
    sym (append-nil code) ∙ ap (λ n. code ++ zeros n) (sym none) ∙ so_far

-- A jump is written after the instructions that it passes.
led : (c a : List Instr) (x i : Instr) (before : List Instr) (place : ℕ)
    → before ≡ (c ++ x ∷ []) ++ a → place ≡ length c → slice_set before place i ≡ c ++ i ∷ a
led c a x i before place all at =
    ap (λ l. slice_set l place i) (all ∙ append_assoc c (x ∷ []) a)
    ∙ ap (λ n. slice_set (c ++ x ∷ a) n i) at
    ∙ set-append_seam c x a i

-- The code of a choice: behind the condition, both jumps, the first and the second part, of which
-- each jump is written once it is known where it leads.
pub choice_stands : (base condition first second c1 c2 c3 c4 c5 c6 c7 c8 : List Instr)
    (x y : Instr) (to_second to_end : ℕ)
    → c1 ≡ base ++ condition → c2 ≡ c1 ++ skip_if Bne Value Zero 2 ∷ []
    → to_second ≡ length c2 → c3 ≡ c2 ++ x ∷ [] → c4 ≡ c3 ++ first
    → to_end ≡ length c4 → c5 ≡ c4 ++ y ∷ []
    → c6 ≡ slice_set c5 to_second (jump_on (length c5 - to_second)) → c7 ≡ c6 ++ second
    → c8 ≡ slice_set c7 to_end (jump_on (length c7 - to_end))
    → c8 ≡ base ++ choice_code condition first second
unfolding choice_code
choice_stands base condition first second c1 c2 c3 c4 c5 c6 c7 c8 x y to_second to_end e1 e2 at2 e3
    e4 at_end e5 e6 e7 e8 =
    let l3 = ap length e3 ∙ length-append c2 (x ∷ []) in
    let l4 = ap length e4 ∙ length-append c3 first in
    let l5 = ap length e5 ∙ length-append c4 (y ∷ []) in
    let i : Instr = jump_on (length first + 2) in
    let j : Instr = jump_on (length second + 1) in
    let far : length c5 - to_second ≡ length first + 2 = omega arith in
    let all5 : c5 ≡ (c2 ++ x ∷ []) ++ (first ++ y ∷ []) =
    e5 ∙ ap (λ l. l ++ y ∷ []) (e4 ∙ ap (λ l. l ++ first) e3)
    ∙ append_assoc (c2 ++ x ∷ []) first (y ∷ []) in
    let six : c6 ≡ c2 ++ i ∷ (first ++ y ∷ []) =
    e6 ∙ ap (λ n. slice_set c5 to_second (jump_on n)) far
    ∙ led c2 (first ++ y ∷ []) x i c5 to_second all5 at2 in
    let front : List Instr = c2 ++ i ∷ first in
    let six_split : c6 ≡ front ++ y ∷ [] = six ∙ sym (append_assoc c2 (i ∷ first) (y ∷ [])) in
    let all7 : c7 ≡ (front ++ y ∷ []) ++ second = e7 ∙ ap (λ l. l ++ second) six_split in
    let at7 : to_end ≡ length front = omega (arith, length-append c2 (i ∷ first)) in
    let l7 = ap length all7 ∙ length-append (front ++ y ∷ []) second in
    let l_front = length-append front (y ∷ []) in
    let near : length c7 - to_end ≡ length second + 1 = omega arith in
    let eight : c8 ≡ front ++ j ∷ second =
    e8 ∙ ap (λ n. slice_set c7 to_end (jump_on n)) near
    ∙ led front second y j c7 to_end all7 at7 in
    eight ∙ append_assoc c2 (i ∷ first) (j ∷ second)
    ∙ ap (λ l. l ++ i ∷ (first ++ j ∷ second)) (e2 ∙ ap (λ l. l ++ skip_if Bne Value Zero 2 ∷ []) e1)
    ∙ append_assoc (base ++ condition) (skip_if Bne Value Zero 2 ∷ []) (i ∷ (first ++ j ∷ second))
    ∙ append_assoc base condition
    (skip_if Bne Value Zero 2 ∷ i ∷ (first ++ j ∷ second))

-- The same of a loop.
pub while_stands : (base condition body c1 c2 c3 c4 c5 c6 c7 : List Instr)
    (x : Instr) (start to_end back : ℕ)
    → start ≡ length base → c1 ≡ base ++ condition → c2 ≡ c1 ++ skip_if Bne Value Zero 2 ∷ []
    → to_end ≡ length c2 → c3 ≡ c2 ++ x ∷ [] → c4 ≡ c3 ++ unit_block → c5 ≡ c4 ++ body
    → back ≡ length c5 - start → c6 ≡ c5 ++ jump_back back ∷ []
    → c7 ≡ slice_set c6 to_end (jump_on (length c6 - to_end))
    → c7 ≡ base ++ while_code condition body
unfolding while_code
while_stands base condition body c1 c2 c3 c4 c5 c6 c7 x start to_end back at0 e1 e2 at2 e3 e4 e5
    at_back e6 e7 =
    let turn : List Instr = unit_block ++ body in
    let l1 = ap length e1 ∙ length-append base condition in
    let l2 = ap length e2 ∙ length-append c1 (skip_if Bne Value Zero 2 ∷ []) in
    let l3 = ap length e3 ∙ length-append c2 (x ∷ []) in
    let l4 = ap length e4 ∙ length-append c3 unit_block in
    let l5 = ap length e5 ∙ length-append c4 body in
    let l6 = ap length e6 ∙ length-append c5 (jump_back back ∷ []) in
    let lt = length-append unit_block body in
    let i : Instr = jump_on (length turn + 2) in
    let far : length c6 - to_end ≡ length turn + 2 = omega arith in
    let behind : back ≡ length condition + 2 + length turn = omega arith in
    let all6 : c6 ≡ (c2 ++ x ∷ []) ++ (turn ++ jump_back back ∷ []) =
    e6
    ∙ ap (λ l. l ++ jump_back back ∷ [])
    (e5 ∙ ap (λ l. l ++ body) (e4 ∙ ap (λ l. l ++ unit_block) e3)
    ∙ append_assoc (c2 ++ x ∷ []) unit_block body)
    ∙ append_assoc (c2 ++ x ∷ []) turn (jump_back back ∷ []) in
    e7 ∙ ap (λ n. slice_set c6 to_end (jump_on n)) far
    ∙ led c2 (turn ++ jump_back back ∷ []) x i c6 to_end all6 at2
    ∙ ap (λ n. c2 ++ i ∷ (turn ++ jump_back n ∷ [])) behind
    ∙ ap (λ l. l ++ i ∷ (turn ++ jump_back (length condition + 2 + length turn) ∷ []))
    (e2 ∙ ap (λ l. l ++ skip_if Bne Value Zero 2 ∷ []) e1)
    ∙ append_assoc (base ++ condition) (skip_if Bne Value Zero 2 ∷ [])
    (i ∷ (turn ++ jump_back (length condition + 2 + length turn) ∷ []))
    ∙ append_assoc base condition
    (skip_if Bne Value Zero 2 ∷ i ∷ (turn ++ jump_back (length condition + 2 + length turn) ∷ []))
