use Rattle.std.proofs.Common.{[], ◌∷◌, refl}
use Rattle.epoch_core.specs.declared.post.PostValue.TheVariants.{Ran, Broke, Skipped}
use Rattle.epoch_core.specs.Posts.{post_of}
use Rattle.epoch_tests.specs.declared.tests.merging.TheConstants.{FIRST, SECOND}
use Rattle.ordered_merge.proofs.Rows.{posted_as, first_broke, first_has, both_skipped}
use Rattle.epoch_tests.proofs.tests.merging.both_skipped.Goals as goal

pub told-requires : goal.told-requires
told-requires c =
    let kinds = c.args.kinds.now in (
      first_broke kinds SECOND,
      refl,
      posted_as (first_broke kinds SECOND) c.broke.result c.skipped.result c.skipped-2.result
          (post_of 0 (Broke SECOND)) (post_of 2 (Skipped 0)) (post_of 1 (Skipped 0))
          c.broke.ensures c.skipped.ensures c.skipped-2.ensures (both_skipped kinds SECOND),
      first_has kinds SECOND,
    )
