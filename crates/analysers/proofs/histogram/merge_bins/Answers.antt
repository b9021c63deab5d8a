use Rattle.std.proofs.Common.{◌≡◌, ◌+◌, List, [], ◌++◌, ◌⊎◌, inl, inr, drop, get_or, ap, ◌∙◌, append_assoc, arith}
use Rattle.std.proofs.lemmas.List.{drop_more, drop_all}
use Rattle.analysers.specs.declared.part.Bin.{Bin}
use Rattle.analysers.specs.Bins.{join_bins}
use Rattle.analysers.proofs.Merging.{step_less, step_greater, step_same, rest_rises, rest_joined}
use Rattle.analysers.proofs.Rests.{rest_whole}
use Rattle.analysers.proofs.histogram.merge_bins.Goals as goal
use Rattle.analysers.proofs.histogram.merge_bins.Goals.{then-loop-i-test+else-j-right, else-loop-i-test}

abbrev no_bin : Bin
no_bin = record { value = 0; count = 0 }

pub loop-i-preserved-then-a-b : goal.loop-i-preserved-then-a-b
loop-i-preserved-then-a-b c =
    let left = c.as_slice-left.result.now in
    let right = c.as_slice-right.result.now in
    let i = c.loop-i.i in
    let j = c.loop-i.j in
    let kept = c.loop-i.invariant in
    let lefts = drop_more left i no_bin (omega arith) in
    let rights = drop_more right j no_bin (omega arith) in
    record {
      left_within = omega arith;
      right_within = omega arith;
      left_rises = rest_rises (get_or left i no_bin) (drop (i + 1) left)
          (drop i left) lefts kept.left_rises;
      right_rises = kept.right_rises;
      joined = ap (λ (bins : List Bin). bins ++ join_bins (drop (i + 1) left)
          (drop j right)) c.in_ok-push.ensures.items
          ∙ step_less c.loop-i.bins.items (get_or left i no_bin) (get_or right j no_bin)
          (drop (i + 1) left) (drop (j + 1) right) (drop i left) (drop j right)
          (join_bins left right) lefts rights c.if-a-b.true kept.right_rises kept.joined;
    }

pub loop-i-preserved-then-b-a : goal.loop-i-preserved-then-b-a
loop-i-preserved-then-b-a c =
    let left = c.as_slice-left.result.now in
    let right = c.as_slice-right.result.now in
    let i = c.loop-i.i in
    let j = c.loop-i.j in
    let kept = c.loop-i.invariant in
    let lefts = drop_more left i no_bin (omega arith) in
    let rights = drop_more right j no_bin (omega arith) in
    record {
      left_within = omega arith;
      right_within = omega arith;
      left_rises = kept.left_rises;
      right_rises = rest_rises (get_or right j no_bin) (drop (j + 1) right)
          (drop j right) rights kept.right_rises;
      joined = ap (λ (bins : List Bin). bins ++ join_bins (drop i left)
          (drop (j + 1) right)) c.in_ok-push-2.ensures.items
          ∙ step_greater c.loop-i.bins.items (get_or left i no_bin) (get_or right j no_bin)
          (drop (i + 1) left) (drop (j + 1) right) (drop i left) (drop j right)
          (join_bins left right) lefts rights c.if-b-a.true kept.right_rises kept.joined;
    }

pub loop-i-preserved : goal.loop-i-preserved
loop-i-preserved c =
    let left = c.as_slice-left.result.now in
    let right = c.as_slice-right.result.now in
    let i = c.loop-i.i in
    let j = c.loop-i.j in
    let kept = c.loop-i.invariant in
    let lefts = drop_more left i no_bin (omega arith) in
    let rights = drop_more right j no_bin (omega arith) in
    let same : (get_or right j no_bin).value ≡ (get_or left i no_bin).value =
    omega (arith, c.if-a-b.false, c.if-b-a.false) in
    record {
      left_within = omega arith;
      right_within = omega arith;
      left_rises = rest_rises (get_or left i no_bin) (drop (i + 1) left)
          (drop i left) lefts kept.left_rises;
      right_rises = rest_rises (get_or right j no_bin) (drop (j + 1) right)
          (drop j right) rights kept.right_rises;
      joined = ap (λ (bins : List Bin). bins ++ join_bins (drop (i + 1) left)
          (drop (j + 1) right)) c.in_ok-push-3.ensures.items
          ∙ step_same c.loop-i.bins.items (get_or left i no_bin) (get_or right j no_bin)
          (drop (i + 1) left) (drop (j + 1) right) (drop i left) (drop j right)
          (join_bins left right) lefts rights same kept.right_rises kept.joined;
    }

pub returns : goal.returns
returns c =
    let left = c.as_slice-left.result.now in
    let right = c.as_slice-right.result.now in
    let xs = drop c.loop-i.i left in
    let ys = drop c.loop-i.j right in
    let bins = c.loop-i.bins.items in
    let kept = c.loop-i.invariant in
    let ended : (xs ≡ []) ⊎ (ys ≡ []) =
    elim c.loop-i-test.branch [
      | then-loop-i-test+else-j-right w ↦ inr (drop_all c.loop-i.j right w.if-j-right.false)
      | else-loop-i-test w ↦ inl (drop_all c.loop-i.i left w.loop-i-test.false)
    ] in
    let first : c.extend_from_slice.new.self.items ≡ bins ++ xs =
    c.in_ok-extend_from_slice.ensures.items ∙ ap (λ (t : List Bin). bins ++ t)
    (rest_whole left c.loop-i.i) in
    let second : c.extend_from_slice-2.new.self.items ≡ (bins ++ xs) ++ ys =
    c.in_ok-extend_from_slice-2.ensures.items
    ∙ ap (λ (t : List Bin). c.extend_from_slice.new.self.items ++ t)
    (rest_whole right c.loop-i.j) ∙ ap (λ (t : List Bin). t ++ ys) first in
    c.from_vec.ensures
    ∙ second
    ∙ append_assoc bins xs ys
    ∙ ap (λ (t : List Bin). bins ++ t) (rest_joined xs ys ended kept.right_rises)
    ∙ kept.joined
    ∙ ap (λ (l : List Bin). join_bins l right) c.as_slice-left.ensures
    ∙ ap (join_bins c.args.left) c.as_slice-right.ensures
