use Rattle.std.proofs.Common.{◌++◌, ◌∷◌, [], None, sym, append_assoc}
use Rattle.std.proofs.lemmas.Result.{err_from_is_err_and}
use Rattle.rec_format.specs.Rules.{last_or, number_of}
use Rattle.rec_format.specs.Reading.{page_at, pages_at}
use Rattle.rec_format.proofs.Sums.{last_or-push}
use Rattle.rec_format.proofs.Items.{more, stops, ends}
use Rattle.rec_format.proofs.checkpoints.pages.Goals as goal

pub returns-in_err-page-clause-read : goal.returns-in_err-page-clause-read
returns-in_err-page-clause-read c =
    let p = err_from_is_err_and c.from_residual-in_err-page.result c.from_residual-in_err-page.ensures.1 in
    rw (p.1, p.2) (stops (λ before. page_at (last_or None number_of before) (c.args.listings.now ++ before)) c.in_ok-number.number c.loop.counter c.loop.pages c.loop.cursor (pages_at c.args.listings.now c.args.cursor.now) c.loop.invariant.2 c.in_err-page.field-0.0 c.loop-test.true (rw (← c.loop.invariant.0, ← c.loop.invariant.1) c.in_err-page.ensures.read))

pub loop-preserved : goal.loop-preserved
loop-preserved c =
    let page = c.in_ok-page.page in
    let pages = c.loop.pages in
    rw c.in_ok-push.ensures.ok (
      sym (last_or-push None number_of pages page),
      rw (c.in_ok-page.ensures.listed, c.loop.invariant.1) (append_assoc c.args.listings.now pages (page ∷ [])),
      more (λ before. page_at (last_or None number_of before) (c.args.listings.now ++ before)) c.in_ok-number.number c.loop.counter pages c.loop.cursor (pages_at c.args.listings.now c.args.cursor.now) c.loop.invariant.2 page c.page.new.cursor c.loop-test.true (rw (← c.loop.invariant.0, ← c.loop.invariant.1) c.in_ok-page.ensures.read),
    )

pub returns-clause-read : goal.returns-clause-read
returns-clause-read c = ends (λ before. page_at (last_or None number_of before) (c.args.listings.now ++ before)) c.in_ok-number.number c.loop.counter c.loop.pages c.loop.cursor (pages_at c.args.listings.now c.args.cursor.now) c.loop.invariant.2 c.loop-test.false
