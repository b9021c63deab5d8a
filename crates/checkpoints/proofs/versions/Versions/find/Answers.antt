use Rattle.std.proofs.Common.{◌≡◌, ◌%◌, arith, sym, false, eqb}
use Rattle.std.specs.Prelude.{◌&&◌, nat_lt}
use Rattle.checkpoints.proofs.Chains.{stands-first, stands-next, stands-here, older_lower, reads, taken-both, other-page, beyond}
use Rattle.checkpoints.proofs.versions.Versions.find.Goals as goal
use Rattle.checkpoints.proofs.versions.Versions.find.Goals.{else-index-count-via-then-index-count+else-version-page, else-index-count-via-else-index-count}

pub loop-at-init : goal.loop-at-init
loop-at-init c =
    stands-first c.args.self.now.items.items c.args.count c.args.page _ (omega (arith, c.requires.within, c.args.self.now.items.ok.0))
    (c.requires.chain.begins (c.args.page % 4096) (omega arith))

pub returns-then-version-page-clause-index : goal.returns-then-version-page-clause-index
returns-then-version-page-clause-index c =
    let items = c.args.self.now.items.items in
    let read = reads items c.args.count c.args.page c.in-Some.index c.loop-at.at c.index-version.result.now c.in-Some.is c.loop-at.invariant c.index-version.ensures in
    sym (stands-here items c.args.count c.args.page c.in-Some.index c.index-version.result.now read.stands read.at
    (taken-both c.in-Some.index c.args.count c.index-version.result.now.page c.args.page c.if-index-count.true c.if-version-page.true))

pub loop-at-smaller : goal.loop-at-smaller
loop-at-smaller c =
    let items = c.args.self.now.items.items in
    let read = reads items c.args.count c.args.page c.in-Some.index c.loop-at.at c.index-version.result.now c.in-Some.is c.loop-at.invariant c.index-version.ensures in
    rw c.in-Some.is (older_lower c.args.self.now.heads items c.args.count c.args.page c.in-Some.index c.index-version.result.now c.requires.chain read.stands read.at)

pub loop-at-preserved : goal.loop-at-preserved
loop-at-preserved c =
    let items = c.args.self.now.items.items in
    let v = c.index-version.result.now in
    let read = reads items c.args.count c.args.page c.in-Some.index c.loop-at.at v c.in-Some.is c.loop-at.invariant c.index-version.ensures in
    let other : (nat_lt c.in-Some.index c.args.count && eqb v.page c.args.page) ≡ false = elim c.else-index-count.branch [
      | else-index-count-via-then-index-count+else-version-page w ↦ other-page c.in-Some.index c.args.count v.page c.args.page w.if-version-page.false
      | else-index-count-via-else-index-count w ↦ beyond c.in-Some.index c.args.count v.page c.args.page (omega (arith, w.if-index-count.false))
    ] in
    stands-next c.args.self.now.heads items c.args.count c.args.page c.in-Some.index v c.requires.chain read.stands read.at other
