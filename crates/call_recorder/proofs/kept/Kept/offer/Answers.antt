use Rattle.std.specs.Prelude.{List}
use Rattle.std.proofs.Common.{◌≡◌, refl, sym, ap, ◌∙◌}
use Rattle.sl_model.specs.State.{State}
use Rattle.sl_model.specs.Pages.{Pages}
use Rattle.rec_format.specs.declared.recording.ListedPage.{ListedPage}
use Rattle.page_frames.specs.MarkedPages.{MarkedPages}
use Rattle.rv_machine.specs.Machine.{state_of}
use Rattle.call_recorder.specs.Listing.{checkpoint_with}
use Rattle.call_recorder.specs.Kept.{AreKept}
use Rattle.call_recorder.proofs.Offers.{IsOffered, only_marked, offered_full, offered_rejected, offered_kept}
use Rattle.call_recorder.proofs.kept.Kept.offer.Goals as goal

pub returns-then-self-clause-kept : goal.returns-then-self-clause-kept
returns-then-self-clause-kept c = λ opened states are. offered_full opened states (state_of c.args.m.now c.args.f.now.pages) c.args.self.now c.args.f.now c.if-self.true are

pub returns-then-not-has_room-clause-kept : goal.returns-then-not-has_room-clause-kept
returns-then-not-has_room-clause-kept c = λ opened states are.
    let s : State = state_of c.args.m.now c.args.f.now.pages in
    let changed = c.in_ok-changed_pages.ensures in
    let made = c.checkpoint_with-checkpoint in
    let offer : IsOffered opened states s c.args.self.now c.args.f.now made.result = record {
      going = c.if-self.false;
      are = are;
      memory = refl;
      frames = c.dirty_len-kept.ensures.kept;
      checkpoint = made.ensures.data c.args.f.now.pages ∙ ap (λ (pages : List ListedPage). checkpoint_with s pages) (changed.all (only_marked opened states c.args.self.now c.args.f.now are));
      is = made.ensures.is c.requires changed.each changed.few changed.rising;
    } in
    offered_rejected opened states s c.args.self.now c.args.f.now made.result offer (sym c.has_room.ensures ∙ c.if-not-has_room.true)

pub returns-clause-kept : goal.returns-clause-kept
returns-clause-kept c = λ opened states are.
    let s : State = state_of c.args.m.now c.args.f.now.pages in
    let changed = c.in_ok-changed_pages.ensures in
    let made = c.checkpoint_with-checkpoint in
    let added = c.in_ok-add.ensures in
    let offer : IsOffered opened states s c.args.self.now c.args.f.now made.result = record {
      going = c.if-self.false;
      are = are;
      memory = refl;
      frames = c.dirty_len-kept.ensures.kept;
      checkpoint = made.ensures.data c.args.f.now.pages ∙ ap (λ (pages : List ListedPage). checkpoint_with s pages) (changed.all (only_marked opened states c.args.self.now c.args.f.now are));
      is = made.ensures.is c.requires changed.each changed.few changed.rising;
    } in
    offered_kept opened states s c.args.self.now c.args.f.now made.result offer (sym c.has_room.ensures ∙ c.if-not-has_room.false) c.add.new.self c.clear_dirty.new.self (ap (λ (m : MarkedPages). m.pages) c.clear_dirty.ensures) added.memory added.added added.room added.going
