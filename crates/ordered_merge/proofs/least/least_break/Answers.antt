use Rattle.std.proofs.Common.{◌≡◌, ◌+◌, List, [], ◌∷◌, ◌++◌, take, sym, ap, subst, ◌∙◌, arith}
use Rattle.std.proofs.lemmas.List.{take_more, take_all}
use Rattle.epoch_core.specs.declared.post.Post.{Post}
use Rattle.ordered_merge.specs.Least.{IsLeast}
use Rattle.ordered_merge.proofs.LeastLemmas.{least_more}
use Rattle.ordered_merge.proofs.least.least_break.Goals as goal

pub loop-post-preserved : goal.loop-post-preserved
loop-post-preserved c =
    let posts = c.args.posts.now in
    let i = c.loop-post.post-index in
    let post = c.post-item.result in
    let more : take (i + 1) posts ≡ take i posts ++ post ∷ [] = take_more posts i post (omega arith) ∙ ap (λ (p : Post). take i posts ++ p ∷ []) (sym c.post-item.is) in
    let so_far = least_more (take i posts) c.loop-post.least post c.loop-post.invariant in
    subst (λ (ps : List Post). IsLeast ps c.lesser-least.result) (sym more) (subst (IsLeast (take i posts ++ post ∷ [])) (sym c.lesser-least.ensures) so_far)

pub returns : goal.returns
returns c =
    subst (λ (ps : List Post). IsLeast ps c.loop-post.least) (take_all c.loop-post.post-index c.args.posts.now (omega arith)) c.loop-post.invariant
