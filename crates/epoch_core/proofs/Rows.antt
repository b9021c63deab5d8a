-- Schedules that were worked by hand.
use Rattle.std.proofs.Common.{◌≡◌, ℕ, zero, suc, List, [], ◌∷◌, Some, None, true, inl, inr, refl, ap, arith}
use Rattle.std.specs.List.{Contains}
use Rattle.call_log.specs.declared.breaks.Break.{Break}
use Rattle.call_log.specs.declared.breaks.BreakKind.TheVariants.{CheckpointDiffers}
use Rattle.tracer_lang.specs.declared.record.Record.{Record}
use Rattle.tracer_lang.specs.declared.record.TracerEnd.TheVariants.{Done}
use Rattle.epoch_core.specs.declared.event.CoreEvent.{CoreEvent}
use Rattle.epoch_core.specs.declared.event.CoreEvent.TheVariants.{Claim, Finish, Skip, Leave}
use Rattle.epoch_core.specs.declared.post.Post.{Post}
use Rattle.epoch_core.specs.declared.post.PostValue.{PostValue}
use Rattle.epoch_core.specs.declared.post.PostValue.TheVariants.{Ran, Broke, Skipped}
use Rattle.epoch_core.specs.Posts.{Posted, post_of}
use Rattle.epoch_core.specs.Schedule.{start, new_seat, claim, finish, skip, leave, posted, after, run_events, trays_of}

-- the record of a tracepoint in the second of two epochs
abbrev record_of_two : Record
record_of_two = record { count = 2; point = 0; pc = 0x10008; words = 5 ∷ []; outcome = Done }

abbrev both_run : List PostValue
both_run = Ran [] [] ∷ Ran (record_of_two ∷ []) [] ∷ []

-- the checkpoint at the end of the first epoch differs
abbrev first_break : Break
first_break = record { count = 2; kind = CheckpointDiffers 1 10 0 6 5 }

abbrev first_breaks : List PostValue
first_breaks = Broke first_break ∷ Ran [] [] ∷ []

-- the trays of two workers after events
abbrev two_trays : List PostValue → List CoreEvent → List (List Post)
two_trays values events = trays_of (run_events values (start 2) events)

-- both epochs are claimed and posted: no worker holds one, and no number is left
in_turn : run_events both_run (start 2) (Claim 0 ∷ Claim 1 ∷ Finish 1 ∷ Finish 0 ∷ [])
    ≡ record {
      next = 2;
      low = None;
      seats = record new_seat { tray = post_of 0 (Ran [] []) ∷ [] } ∷ record new_seat { tray = post_of 1 (Ran (record_of_two ∷ []) []) ∷ [] } ∷ [];
    }
unfolding run_events after claim finish posted
in_turn = refl

skips : run_events first_breaks (start 2) (Claim 0 ∷ Finish 0 ∷ Claim 1 ∷ Skip 1 ∷ [])
    ≡ record {
      next = 2;
      low = Some 0;
      seats = record new_seat { tray = post_of 0 (Broke first_break) ∷ [] } ∷ record new_seat { tray = post_of 1 (Skipped 0) ∷ [] } ∷ [];
    }
unfolding run_events after claim finish skip posted
skips = refl

-- no smaller epoch is known to have broken: the event changes nothing, and the epoch is held until it is finished
skips_too_early : two_trays first_breaks (Claim 0 ∷ Claim 1 ∷ Skip 1 ∷ Finish 0 ∷ Skip 0 ∷ Finish 1 ∷ [])
    ≡ (post_of 0 (Broke first_break) ∷ []) ∷ (post_of 1 (Ran [] []) ∷ []) ∷ []
unfolding run_events after claim finish skip posted
skips_too_early = refl

-- a worker has one epoch at a time, and there is no worker 2
one_at_a_time : run_events both_run (start 2) (Claim 0 ∷ Claim 0 ∷ Claim 2 ∷ Finish 1 ∷ Leave 1 ∷ [])
    ≡ record { next = 1; low = None; seats = record new_seat { held = Some 0 } ∷ new_seat ∷ [] }
unfolding run_events after claim finish leave posted
one_at_a_time = refl

-- numbers past the epochs are drawn by leaving alone, once by each worker
leaves_once : run_events [] (start 2) (Claim 0 ∷ Leave 0 ∷ Leave 0 ∷ Claim 0 ∷ Leave 1 ∷ [])
    ≡ record { next = 2; low = None; seats = record new_seat { has_left = true } ∷ record new_seat { has_left = true } ∷ [] }
unfolding run_events after claim leave
leaves_once = refl

-- the least break is kept, whichever is found first
keeps_least : (run_events (Broke first_break ∷ Broke first_break ∷ []) (start 2) (Claim 0 ∷ Claim 1 ∷ Finish 1 ∷ Finish 0 ∷ [])).low ≡ Some 0
unfolding run_events after claim finish posted
keeps_least = refl

-- what is not whole: an epoch without a post, and one with two
lacks_one : Posted both_run (post_of 0 (Ran [] []) ∷ []) → ⊥
lacks_one posted =
    let none : 0 ≡ 1 = posted.once 1 (omega arith) in
    absurd (omega (arith, none))

has_two : Posted (Ran [] [] ∷ []) (post_of 0 (Ran [] []) ∷ post_of 0 (Ran [] []) ∷ []) → ⊥
has_two posted =
    let two : 2 ≡ 1 = posted.once 0 (omega arith) in
    absurd (omega (arith, two))

-- and a skip below an epoch that ran
abbrev ran_and_skipped : List Post
ran_and_skipped = post_of 0 (Ran [] []) ∷ post_of 1 (Skipped 0) ∷ []

none_broke : (below : ℕ) (first : Break) → Contains ran_and_skipped (post_of below (Broke first)) → ⊥
none_broke below first (zero, within, is) = let other : Ran [] [] ≡ Broke first = ap (λ (post : Post). post.value) is in cc
none_broke below first (suc zero, within, is) = let other : Skipped 0 ≡ Broke first = ap (λ (post : Post). post.value) is in cc
none_broke below first (suc (suc k), within, is) = absurd (omega arith)

skips_nothing : Posted both_run ran_and_skipped → ⊥
skips_nothing posted = elim (posted.right 1 (post_of 0 (Ran [] [])) (omega arith)) [
  | inl own ↦ let other : Some (Ran (record_of_two ∷ []) []) ≡ Some (Skipped 0) = own in cc
  | inr skip ↦ none_broke skip.0 skip.3.0 skip.3.1
]
