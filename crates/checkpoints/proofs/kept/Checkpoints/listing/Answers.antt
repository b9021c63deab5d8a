use Rattle.std.proofs.Common.{ap, sym, subst, ◌∙◌, arith, length, ◌<◌, List}
use Rattle.std.proofs.lemmas.Option.{slice_get_within}
use Rattle.rec_format.specs.declared.recording.ListedPage.{ListedPage}
use Rattle.checkpoints.proofs.Listings.{stands_for, read_listed}
use Rattle.checkpoints.proofs.kept.Checkpoints.listing.Goals as goal

pub checkpoint-requires : goal.checkpoint-requires
checkpoint-requires c =
    let self = c.args.self.now in
    (stands_for self.rec self.versions c.args.index c.index-version.result.now self.listings (omega (arith, c.requires, self.versions.items.ok.0)) c.index-version.ensures).is.some

pub bounds-as_slice-version : goal.bounds-as_slice-version
bounds-as_slice-version c =
    let self = c.args.self.now in
    let stands = stands_for self.rec self.versions c.args.index c.index-version.result.now self.listings (omega (arith, c.requires, self.versions.items.ok.0)) c.index-version.ensures in
    subst (λ (l : List ListedPage). c.index-version.result.now.place < length l) (sym (c.as_slice.ensures ∙ ap (λ d. d.pages) c.checkpoint.ensures))
    (slice_get_within _ c.index-version.result.now.place stands.listed stands.is.found)

pub returns : goal.returns
returns c =
    let self = c.args.self.now in
    let stands = stands_for self.rec self.versions c.args.index c.index-version.result.now self.listings (omega (arith, c.requires, self.versions.items.ok.0)) c.index-version.ensures in
    read_listed self.rec self.versions c.args.index c.index-version.result.now c.index-as_slice-version.result c.as_slice.result.now stands
    (c.as_slice.ensures ∙ ap (λ d. d.pages) c.checkpoint.ensures) c.index-as_slice-version.is
