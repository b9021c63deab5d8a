use Rattle.std.proofs.Common.{◌≡◌, ℕ, List, [], ◌∷◌, refl, sym, ap, subst, ◌∙◌}
use Rattle.rec_format.specs.declared.recording.ListedPage.{ListedPage}
use Rattle.rec_format.specs.declared.recording.CheckpointData.{CheckpointData}
use Rattle.rec_format.proofs.RisingPages.{Climb, Saves, starts_anywhere, is_run}
use Rattle.format_tests.proofs.tests.recordings.large.many_pages.Goals as goal

pub state-requires-clause-rising : goal.state-requires-clause-rising
state-requires-clause-rising c = starts_anywhere 0 _ c.in_ok-pages_behind.ensures.rising

pub state-requires-2-clause-rising : goal.state-requires-2-clause-rising
state-requires-2-clause-rising c = starts_anywhere 16384 _ c.in_ok-pages_behind-2.ensures.rising

pub state-requires-3-clause-rising : goal.state-requires-3-clause-rising
state-requires-3-clause-rising c = starts_anywhere 32768 _ c.in_ok-pages_behind-3.ensures.rising

pub state-requires-4-clause-rising : goal.state-requires-4-clause-rising
state-requires-4-clause-rising c = starts_anywhere 49152 _ c.in_ok-pages_behind-4.ensures.rising

pub returns : goal.returns
returns c =
    let all : c.checkpoints-2.inside.items.items ≡ c.state.result ∷ c.state-2.result ∷ c.state-3.result ∷ [] = rw (c.checkpoints-2.view_is, c.in_ok-push-3.ensures.ok, c.in_ok-push-2.ensures.ok, c.in_ok-push.ensures.ok, c.new-checkpoints.ensures) refl in
    let p : Saves 1 0 16384 c.state.result = record { is = c.state.ensures.is; count = c.state.ensures.count; climb = rw c.state.ensures.pages (record { rising = c.in_ok-pages_behind.ensures.rising; last = c.in_ok-pages_behind.ensures.last }) } in
    let q : Saves 2 16384 32768 c.state-2.result = record { is = c.state-2.ensures.is; count = c.state-2.ensures.count; climb = rw c.state-2.ensures.pages (record { rising = c.in_ok-pages_behind-2.ensures.rising; last = c.in_ok-pages_behind-2.ensures.last }) } in
    let r : Saves 3 32768 49152 c.state-3.result = record { is = c.state-3.ensures.is; count = c.state-3.ensures.count; climb = rw c.state-3.ensures.pages (record { rising = c.in_ok-pages_behind-3.ensures.rising; last = c.in_ok-pages_behind-3.ensures.last }) } in
    let s : Saves 4 49152 65536 c.state-4.result = record { is = c.state-4.ensures.is; count = c.state-4.ensures.count; climb = rw c.state-4.ensures.pages (record { rising = c.in_ok-pages_behind-4.ensures.rising; last = c.in_ok-pages_behind-4.ensures.last }) } in
    is_run 0 16384 32768 49152 65536 _ c.state.result c.state-2.result c.state-3.result (refl, refl, c.new.ensures, c.new-2.ensures, c.new-3.ensures, refl) all p q r s
