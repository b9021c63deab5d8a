-- The break at the recorded end, by how the replay ended.
use Rattle.std.proofs.Common.{◌≡◌, Bool, true, false, cond, Option, Some, None, sym, ap, ◌∙◌}
use Rattle.std.specs.Option.{option_or}
use Rattle.sl_model.specs.State.{State}
use Rattle.sl_model.specs.Step.{step, trap_of}
use Rattle.call_log.specs.declared.entry.End.{End}
use Rattle.call_log.specs.declared.breaks.BreakKind.{BreakKind}
use Rattle.call_log.specs.declared.breaks.BreakKind.TheVariants.{EndDiffers}
use Rattle.rec_format.specs.declared.recording.Recording.{Recording}
use Rattle.replay.specs.Breaks.{replayed_end, same_end, end_differs, calls_left, end_break}

-- the same, by whether it ended as recorded
abbrev by_end : Recording → State → End → Bool → Option BreakKind
by_end rec s replayed same = option_or (cond same None (Some (EndDiffers rec.end replayed))) (calls_left rec s)

ends : (rec : Recording) (s : State) (replayed : End) (same : Bool) → replayed ≡ replayed_end rec.end s.status (trap_of (step s)) → same_end rec.end replayed ≡ same → end_break rec s ≡ by_end rec s replayed same
ends rec s replayed same is told = sym (ap (λ r. option_or (end_differs rec.end r) (calls_left rec s)) is) ∙ ap (by_end rec s replayed) told

pub ends_otherwise : (rec : Recording) (s : State) (replayed : End) → replayed ≡ replayed_end rec.end s.status (trap_of (step s)) → same_end rec.end replayed ≡ false → Some (EndDiffers rec.end replayed) ≡ end_break rec s
ends_otherwise rec s replayed is other = sym (ends rec s replayed false is other)

pub ends_so : (rec : Recording) (s : State) (replayed : End) → replayed ≡ replayed_end rec.end s.status (trap_of (step s)) → same_end rec.end replayed ≡ true → calls_left rec s ≡ end_break rec s
ends_so rec s replayed is same = sym (ends rec s replayed true is same)
