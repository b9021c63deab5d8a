use Rattle.std.proofs.Common.{[], ◌∷◌, refl}
use Rattle.epoch_core.specs.declared.post.PostValue.TheVariants.{Ran, Broke, Skipped}
use Rattle.epoch_core.specs.Posts.{post_of}
use Rattle.epoch_tests.specs.declared.tests.merging.TheConstants.{FIRST, SECOND}
use Rattle.ordered_merge.proofs.Rows.{ran, posted_as, all_ran, all_have, mixed}
use Rattle.epoch_tests.proofs.tests.merging.mixed.Goals as goal

pub told-requires : goal.told-requires
told-requires c =
    let kinds = c.args.kinds.now in
    let q = c.in_ok-first.ensures.0 in
    let r = c.in_ok-second.ensures.0 in
    let s = c.in_ok-third.ensures.0 in
    let x = ran kinds q in
    let y = ran kinds r in
    let z = ran kinds s in (
      all_ran kinds q r s,
      refl,
      posted_as (all_ran kinds q r s) c.in_ok-second.second c.in_ok-third.third c.in_ok-first.first (post_of 1 y) (post_of 2 z) (post_of 0 x) c.in_ok-second.ensures.1 c.in_ok-third.ensures.1 c.in_ok-first.ensures.1
          (mixed x y z),
      all_have kinds q r s,
    )
