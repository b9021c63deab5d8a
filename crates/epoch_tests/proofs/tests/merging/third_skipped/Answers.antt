use Rattle.std.proofs.Common.{[], ◌∷◌, refl}
use Rattle.epoch_core.specs.declared.post.PostValue.TheVariants.{Ran, Broke, Skipped}
use Rattle.epoch_core.specs.Posts.{post_of}
use Rattle.epoch_tests.specs.declared.tests.merging.TheConstants.{FIRST, SECOND}
use Rattle.ordered_merge.proofs.Rows.{ran, posted_as, second_broke, second_has, third_skipped}
use Rattle.epoch_tests.proofs.tests.merging.third_skipped.Goals as goal

pub told-requires : goal.told-requires
told-requires c =
    let kinds = c.args.kinds.now in
    let r = c.in_ok-first.ensures.0 in (
      second_broke kinds r FIRST,
      refl,
      posted_as (second_broke kinds r FIRST) c.skipped.result c.in_ok-first.first c.broke.result
          (post_of 2 (Skipped 1)) (post_of 0 (ran kinds r)) (post_of 1 (Broke FIRST))
          c.skipped.ensures c.in_ok-first.ensures.1 c.broke.ensures (third_skipped kinds r FIRST),
      second_has kinds r FIRST,
    )
