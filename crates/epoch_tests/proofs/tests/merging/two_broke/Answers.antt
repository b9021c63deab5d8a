use Rattle.std.proofs.Common.{[], ◌∷◌, refl}
use Rattle.epoch_core.specs.declared.post.PostValue.TheVariants.{Ran, Broke, Skipped}
use Rattle.epoch_core.specs.Posts.{post_of}
use Rattle.epoch_tests.specs.declared.tests.merging.TheConstants.{FIRST, SECOND}
use Rattle.ordered_merge.proofs.Rows.{ran, posted_as, two_broke, two_have, falling}
use Rattle.epoch_tests.proofs.tests.merging.two_broke.Goals as goal

pub told-requires : goal.told-requires
told-requires c =
    let kinds = c.args.kinds.now in
    let r = c.in_ok-first.ensures.0 in (
      two_broke kinds r FIRST SECOND,
      refl,
      posted_as (two_broke kinds r FIRST SECOND) c.broke.result c.broke-2.result c.in_ok-first.first
          (post_of 2 (Broke SECOND)) (post_of 1 (Broke FIRST)) (post_of 0 (ran kinds r))
          c.broke.ensures c.broke-2.ensures c.in_ok-first.ensures.1
          (falling (ran kinds r) (Broke FIRST) (Broke SECOND)),
      two_have kinds r FIRST SECOND,
    )
