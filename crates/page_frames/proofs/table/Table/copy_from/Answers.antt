use Rattle.std.proofs.Common.{refl}
use Rattle.page_frames.proofs.Tables.{read_at, frame-linked}
use Rattle.page_frames.proofs.Copies.{IsCopied-grown, IsCopied-more, not_copied}
use Rattle.page_frames.proofs.table.Table.copy_from.Goals as goal

pub returns-in_err-make_spare-clause-table : goal.returns-in_err-make_spare-clause-table
returns-in_err-make_spare-clause-table c =
    (IsCopied-grown c.args.source.now c.loop-index.self _ c.loop-index.index
    c.make_spare.ensures.grown c.loop-index.invariant).table

pub returns-in_err-make_spare-clause-clean : goal.returns-in_err-make_spare-clause-clean
returns-in_err-make_spare-clause-clean c =
    (IsCopied-grown c.args.source.now c.loop-index.self _ c.loop-index.index
    c.make_spare.ensures.grown c.loop-index.invariant).clean

pub add-requires-clause-table : goal.add-requires-clause-table
add-requires-clause-table c =
    (IsCopied-grown c.args.source.now c.loop-index.self _ c.loop-index.index
    c.make_spare.ensures.grown c.loop-index.invariant).table

pub add-requires-clause-below : goal.add-requires-clause-below
add-requires-clause-below c =
    let source = c.args.source.now in
    let f = c.index-frame.result.now in
    let at = read_at source c.loop-index.index f c.requires c.loop-index-test.true c.index-frame.ensures in
    (frame-linked source c.loop-index.index f c.requires c.loop-index-test.true at).below

pub add-requires-clause-new : goal.add-requires-clause-new
add-requires-clause-new c =
    let source = c.args.source.now in
    let f = c.index-frame.result.now in
    let at = read_at source c.loop-index.index f c.requires c.loop-index-test.true c.index-frame.ensures in
    not_copied source _ c.loop-index.index f c.requires c.loop-index-test.true at
    (IsCopied-grown source c.loop-index.self _ c.loop-index.index c.make_spare.ensures.grown c.loop-index.invariant)

pub add-requires-clause-whole : goal.add-requires-clause-whole
add-requires-clause-whole c =
    let source = c.args.source.now in
    let f = c.index-frame.result.now in
    let at = read_at source c.loop-index.index f c.requires c.loop-index-test.true c.index-frame.ensures in
    (frame-linked source c.loop-index.index f c.requires c.loop-index-test.true at).whole

pub loop-index-preserved : goal.loop-index-preserved
loop-index-preserved c =
    let source = c.args.source.now in
    let f = c.index-frame.result.now in
    let at = read_at source c.loop-index.index f c.requires c.loop-index-test.true c.index-frame.ensures in
    IsCopied-more source _ _ c.loop-index.index f _ at
    (IsCopied-grown source c.loop-index.self _ c.loop-index.index c.make_spare.ensures.grown c.loop-index.invariant)
    c.add.ensures.table c.add.ensures.used c.add.ensures.puts refl refl
