use Rattle.std.specs.Prelude.{List, option_to_list, Some}
use Rattle.std.proofs.Common.{◌≡◌, ◌++◌, ◌∷◌, [], refl, sym, ap, ◌∙◌}
use Rattle.sl_model.specs.State.{State}
use Rattle.rec_format.specs.declared.recording.ListedPage.{ListedPage}
use Rattle.rec_format.specs.declared.recording.CheckpointData.{CheckpointData}
use Rattle.rv_machine.specs.Machine.{state_of}
use Rattle.call_recorder.specs.Listing.{checkpoint_with}
use Rattle.call_recorder.proofs.Offers.{only_marked}
use Rattle.call_recorder.proofs.Finishing.{popped_is_finished, made_is_finished, same_last}
use Rattle.call_recorder.proofs.kept.Kept.finish.Goals as goal

pub returns-then-is_at : goal.returns-then-is_at
returns-then-is_at c = λ opened states are.
    let s : State = state_of c.args.m.now c.args.f.now.pages in
    let at = c.if-is_at.ensures.yes refl in
    let rest : c.from_vec-checkpoints.result ≡ c.pop.new.self.items = c.from_vec-checkpoints.ensures in
    let popped : c.args.self.checkpoints ≡ c.from_vec-checkpoints.result ++ c.in-Some.last ∷ [] =
    sym c.into_vec-checkpoints.ensures ∙ c.in-Some.ensures.items ∙ ap (λ (l : List CheckpointData). l ++ c.in-Some.last ∷ []) (sym rest) in
    popped_is_finished opened c.args.self c.args.f.now s _ states are popped (same_last c.args.self.checkpoints c.from_vec-checkpoints.result c.in-Some.last s.count popped at)

pub returns : goal.returns
returns c = λ opened states are.
    let s : State = state_of c.args.m.now c.args.f.now.pages in
    let changed = c.in_ok-changed_pages.ensures in
    let made = c.checkpoint_with-last in
    made_is_finished opened c.args.self c.args.f.now s _ states are refl
    (made.ensures.data c.args.f.now.pages ∙ ap (λ (pages : List ListedPage). checkpoint_with s pages) (changed.all (only_marked opened states c.args.self c.args.f.now are)))
    (made.ensures.is c.requires changed.each changed.few changed.rising)
    (c.if-is_at.ensures.no refl)
