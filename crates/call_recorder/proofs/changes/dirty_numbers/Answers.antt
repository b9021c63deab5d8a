use Rattle.std.proofs.Common.{◌≡◌, List, ℕ, sym, subst, arith}
use Rattle.std.specs.List.Sorted.{IsPermutation}
use Rattle.std.proofs.lemmas.List.Sorted.{length_permutation, Contains-permutation}
use Rattle.call_recorder.proofs.Sorting.{sorted_rise, few_dirty, dirty_below}
use Rattle.call_recorder.proofs.changes.dirty_numbers.Goals as goal
use Rattle.call_recorder.proofs.changes.dirty_numbers.Goals.{In_ok-sort}

permuted : (c : In_ok-sort) → IsPermutation c.args.f.now.dirty c.sort.new.self.items
permuted c = subst (λ (l : List ℕ). IsPermutation l c.sort.new.self.items) c.in_ok-numbers.ensures c.in_ok-sort.ensures.permutation

pub returns-clause-rising : goal.returns-clause-rising
returns-clause-rising c = sorted_rise c.args.f.now.dirty c.sort.new.self.items c.dirty_len-kept.ensures.kept.once (permuted c) c.in_ok-sort.ensures.sorted

pub returns-clause-all : goal.returns-clause-all
returns-clause-all c = λ q has. Contains-permutation c.args.f.now.dirty c.sort.new.self.items q (permuted c) has

pub returns-clause-below : goal.returns-clause-below
returns-clause-below c = dirty_below c.args.f.now c.dirty_len-kept.ensures.kept c.sort.new.self.items (permuted c)

pub returns-clause-few : goal.returns-clause-few
returns-clause-few c =
    let few = few_dirty c.args.f.now c.dirty_len-kept.ensures.kept in
    let same = length_permutation c.args.f.now.dirty c.sort.new.self.items (permuted c) in
    omega arith
