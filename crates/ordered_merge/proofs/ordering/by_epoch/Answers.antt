use Rattle.std.proofs.Common.{◌≡◌, ◌<◌, List, length, set, sym, ap, subst, ◌∙◌, arith}
use Rattle.std.proofs.lemmas.Iterator.Adapters.{YieldsList-from_vec}
use Rattle.std.proofs.lemmas.Iterator.Consumers.{YieldsList-turn}
use Rattle.epoch_core.specs.declared.post.Post.{Post}
use Rattle.epoch_core.specs.declared.post.PostValue.{PostValue}
use Rattle.ordered_merge.proofs.Placed.{in_order-nil, in_order-push, length-in_order}
use Rattle.ordered_merge.proofs.ordering.by_epoch.Goals as goal

pub loop-post-init : goal.loop-post-init
loop-post-init c = c.in_ok-values.ensures ∙ sym (in_order-nil c.args.epochs)

pub index_mut-requires : goal.index_mut-requires
index_mut-requires c =
    let chain = YieldsList-from_vec {s = c.into_iter-post-iterator.result} c.args.posts.items (cc) (cc) in
    let turn = YieldsList-turn chain c.loop-post.yielded c.loop-post.post-iterator
    c.loop-post.yielded_by c.next.result c.next.new.self c.in-Some.post c.in-Some.is
    c.next.ensures.steps in
    let epoch : c.in-Some.post.epoch < c.args.epochs =
    subst (λ (p : Post). p.epoch < c.args.epochs) (sym turn.1)
    (c.requires (length c.loop-post.yielded) c.in-Some.post turn.0) in
    let long : length c.loop-post.values.items ≡ c.args.epochs =
    ap length c.loop-post.invariant ∙ length-in_order c.args.epochs c.loop-post.yielded in
    omega arith

pub loop-post-preserved-in-Some : goal.loop-post-preserved-in-Some
loop-post-preserved-in-Some c =
    let post = c.in-Some.post in
    ap (λ (values : List PostValue). set values post.epoch post.value) c.loop-post.invariant
    ∙ sym (in_order-push c.args.epochs c.loop-post.yielded post)

pub loop-post-preserved : goal.loop-post-preserved
loop-post-preserved c =
    let post = c.in-Some.post in
    ap (λ (values : List PostValue). set values post.epoch post.value) c.loop-post.invariant
    ∙ sym (in_order-push c.args.epochs c.loop-post.yielded post)
