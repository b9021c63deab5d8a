use Rattle.std.proofs.Common.{rules, ◌≡◌, ◌+◌, length, [], ◌∷◌, Some, refl, ap, ◌∙◌, arith}
use Rattle.std.proofs.lemmas.List.{length_push}
use Rattle.rec_format.specs.declared.recording.ListedPage.{ListedPage}
use Rattle.rec_format.specs.Rules.{IsListedPage}
use Rattle.rec_format.proofs.Fronts.{All-join}
use Rattle.rec_format.proofs.RisingPages.{Climb-push}
use Rattle.format_tests.proofs.tests.recordings.large.pages_behind.Goals as goal

pub loop-i-preserved : goal.loop-i-preserved
loop-i-preserved c =
    let pages = c.loop-i.pages in
    let page : ListedPage = record { number = c.args.before + c.loop-i.i + 1; bytes = c.from_vec.result } in
    let size : length c.from_vec.result ≡ 4096 = rw c.from_vec.ensures (search rules) in
    let climb = Climb-push c.args.before (c.args.before + c.loop-i.i) pages page (record { rising = c.loop-i.invariant.2; last = c.loop-i.invariant.3 }) refl in
    rw c.in_ok-push.ensures.ok (
      omega (arith, length_push pages page, c.loop-i.invariant.0),
      All-join IsListedPage pages (page ∷ []) c.loop-i.invariant.1 (record { number = omega (arith, c.requires, c.loop-i-test.true); bytes = size }, tt),
      climb.rising,
      climb.last ∙ ap Some (omega arith),
    )
