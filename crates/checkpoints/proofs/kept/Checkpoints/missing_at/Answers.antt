use Rattle.std.proofs.Common.{◌≡◌, ap, sym, ◌∙◌, Some, true, false, arith, ◌<◌, length}
use Rattle.std.specs.Prelude.{is_some, not}
use Rattle.std.specs.FinMap.{contains_key}
use Rattle.rec_format.specs.Recorded.{end_place, listed_to}
use Rattle.checkpoints.specs.Memory.{lesser}
use Rattle.checkpoints.proofs.Options.{is_some-copied}
use Rattle.checkpoints.proofs.Listings.{stands_for, listed_before}
use Rattle.checkpoints.proofs.Missing.{missing_more, missing_mapped, missing_again}
use Rattle.checkpoints.proofs.kept.Checkpoints.missing_at.Goals as goal
use Rattle.checkpoints.proofs.kept.Checkpoints.missing_at.Goals.{else-version-via-then-version+else-is_none, else-version-via-else-version}

pub returns-then-is_none : goal.returns-then-is_none
returns-then-is_none c = λ before.
    let self = c.args.self.now in
    let listed = listed_to self.rec (end_place self.rec) in
    let pages = c.args.f.now.pages in
    let v = c.index-version.result.now in
    let stands = stands_for self.rec self.versions c.args.index v self.listings (omega (arith, c.requires, self.versions.items.ok.0)) c.index-version.ensures in
    let absent : contains_key pages v.page ≡ false =
    ap is_some (sym c.page.ensures.bytes) ∙ is_some-copied c.page.result ∙ c.is_none.ensures ∙ ap not c.if-is_none.true in
    let there : contains_key pages stands.listed.number ≡ false = rw stands.is.page absent in
    ap (λ n. Some n) (c.lesser.ensures ∙ ap (λ o. lesser o v.page) before ∙ ap (lesser _) (sym stands.is.page))
    ∙ sym (missing_more pages listed c.args.index stands.listed stands.at there)

pub returns : goal.returns
returns c = λ before.
    let self = c.args.self.now in
    let listed = listed_to self.rec (end_place self.rec) in
    let pages = c.args.f.now.pages in
    let v = c.index-version.result.now in
    let within : c.args.index < length self.versions.items.items = omega (arith, c.requires, self.versions.items.ok.0) in
    let stands = stands_for self.rec self.versions c.args.index v self.listings within c.index-version.ensures in
    before ∙ sym (elim c.else-version.branch [
      | else-version-via-then-version+else-is_none w ↦
          let mapped : contains_key pages v.page ≡ true =
          ap is_some (sym w.page.ensures.bytes) ∙ is_some-copied w.page.result ∙ w.is_none.ensures ∙ ap not w.if-is_none.false in
          missing_mapped pages listed c.args.index stands.listed stands.at (rw stands.is.page mapped)
      | else-version-via-else-version w ↦
          missing_again pages listed c.args.index stands.listed stands.at (rw stands.is.page (listed_before self.rec self.versions c.args.index v self.listings within c.index-version.ensures (sym w.if-version.false)))
    ])
