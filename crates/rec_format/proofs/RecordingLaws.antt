-- The two laws of recordings: what is read is spelled so, and what is spelled so is read.
use Rattle.std.proofs.Common.{◌≡◌, ℕ, ◌-◌, ◌^◌, ◌<◌, ◌≤◌, Bool, true, false, cond, eqb, ltb, List, [], ◌++◌, length, None, Result, Ok, Err, refl, sym, ap, subst, ◌∙◌, append_assoc, arith}
use Rattle.std.specs.Prelude.{IfOk}
use Rattle.std.proofs.lemmas.Bool.{ltb-false, le-ltb}
use Rattle.std.proofs.lemmas.List.{append-nil, nil_from_length}
use Rattle.sl_base.specs.declared.refused.Refused.{Refused}
use Rattle.rec_format.specs.declared.fault.RecCause.TheVariants.{Magic, Version, Trailing, TooLarge}
use Rattle.rec_format.specs.declared.fault.RecFault.{RecFault}
use Rattle.rec_format.specs.declared.limits.TheConstants.{MOST_BYTES, HIGHEST_KIND, MOST_IMAGE_BYTES}
use Rattle.rec_format.specs.declared.recording.Recording.{Recording}
use Rattle.rec_format.specs.Place.{Rest, start}
use Rattle.rec_format.specs.Rules.{last_or, count_of, highest_load_addr, listings, IsRecordingValue}
use Rattle.rec_format.specs.Spelling.{name, version, word, sized, counted, call, checkpoint, end_of_run, spelling, IsRecording}
use Rattle.sl_base.specs.Refusals.{Tells}
use Rattle.rec_format.specs.Reading.{text_at, word_up_to, sized_up_to, args_at, calls_at, checkpoints_at, checkpoint_at, end_at, recording_at, reading}
use Rattle.rec_format.proofs.Fields.{IsBytes, Takes, Takes-then, Again, step, from, ok_is, refuse_ok, text_takes, text_again, word_up_to_takes, word_up_to_again, sized_takes, sized_again}
use Rattle.rec_format.proofs.CallLaws.{args_take, args_again, calls_take, calls_again, end_takes, end_again}
use Rattle.rec_format.proofs.CheckpointLaws.{checkpoint_takes, checkpoint_again, checkpoints_take, checkpoints_again}
use Rattle.rec_format.proofs.Fronts.{AreNeeded-front, AreNeeded-back, AreNeeded-join}

highest_fits : (kind : ℕ) → highest_load_addr kind < 2 ^ 32
highest_fits kind = elim (eqb kind 0) as (λ b. cond b (2 ^ 32 - 1) 0 < 2 ^ 32) [ true ↦ omega arith | false ↦ omega arith ]

recording_takes : (at : Rest) (x : Recording × Rest) → IsBytes at.bytes → recording_at at ≡ Ok x → Takes at (spelling x.0) x.1 × IsRecordingValue x.0
unfolding recording_at spelling
recording_takes at x fits e =
    step (text_at name Magic at) _ x e (λ named named_is rest0.
    step (text_at version Version named.1) _ x rest0 (λ versioned versioned_is rest1.
    step (word_up_to HIGHEST_KIND versioned.1) _ x rest1 (λ kind kind_is rest2.
    step (word_up_to (highest_load_addr kind.0) kind.1) _ x rest2 (λ load_addr load_addr_is rest3.
    step (sized_up_to MOST_IMAGE_BYTES load_addr.1) _ x rest3 (λ image image_is rest4.
    step (args_at image.1) _ x rest4 (λ args args_is rest5.
    step (calls_at args.1) _ x rest5 (λ calls calls_is rest6.
    step (checkpoints_at calls.1) _ x rest6 (λ checkpoints checkpoints_is rest7.
    step (end_at checkpoints.1) _ x rest7 (λ end end_is rest8.
    step (checkpoint_at (last_or None count_of checkpoints.0) (listings checkpoints.0) end.1) _ x rest8 (λ last last_is rest9.
    let t0 = text_takes name Magic at named fits named_is in
    let t1 = text_takes version Version named.1 versioned t0.rest_fits versioned_is in
    let t2 = word_up_to_takes HIGHEST_KIND versioned.1 kind t1.rest_fits kind_is in
    let t3 = word_up_to_takes (highest_load_addr kind.0) kind.1 load_addr t2.0.rest_fits load_addr_is in
    let t4 = sized_takes MOST_IMAGE_BYTES load_addr.1 image t3.0.rest_fits image_is in
    let t5 = args_take image.1 args t4.0.rest_fits args_is in
    let t6 = calls_take args.1 calls t5.0.rest_fits calls_is in
    let t7 = checkpoints_take calls.1 checkpoints t6.0.rest_fits checkpoints_is in
    let t8 = end_takes checkpoints.1 end t7.0.rest_fits end_is in
    let t9 = checkpoint_takes (last_or None count_of checkpoints.0) (listings checkpoints.0) end.1 last t8.0.rest_fits last_is in
    let j1 = Takes-then at _ named.1 _ versioned.1 t0 t1 in
    let j2 = Takes-then at _ versioned.1 _ kind.1 j1 t2.0 in
    let j3 = Takes-then at _ kind.1 _ load_addr.1 j2 t3.0 in
    let j4 = Takes-then at _ load_addr.1 _ image.1 j3 t4.0 in
    let j5 = Takes-then at _ image.1 _ args.1 j4 t5.0 in
    let j6 = Takes-then at _ args.1 _ calls.1 j5 t6.0 in
    let j7 = Takes-then at _ calls.1 _ checkpoints.1 j6 t7.0 in
    let j8 = Takes-then at _ checkpoints.1 _ end.1 j7 t8.0 in
    let j9 = Takes-then at _ end.1 _ last.1 j8 t9.0 in
    let rec : Recording = record { kind = kind.0; load_addr = load_addr.0; image = image.0; args = args.0; calls = calls.0; checkpoints = checkpoints.0; end = end.0; last = last.0 } in
    let value : IsRecordingValue rec = record {
      kind = t2.1;
      load_addr = t3.1;
      image = t4.1;
      args = t5.1;
      number_of_calls = t6.1;
      each_call = t6.2;
      number_of_checkpoints = t7.1;
      each_checkpoint = t7.2.each;
      counts_rise = t7.2.rising;
      how_it_ends = t8.1;
      last = t9.1.is_checkpoint;
      last_is_above = t9.1.above;
      each_listing_is_needed = AreNeeded-join [] (listings checkpoints.0) last.0.pages t7.2.needed t9.1.needed;
    } in
    subst (λ (y : Recording × Rest). Takes at (spelling y.0) y.1 × IsRecordingValue y.0) (ok_is (rec, last.1) x rest9) (j9, value)))))))))))

recording_again : (at : Rest) (rec : Recording) (rest : List ℕ) → IsRecordingValue rec → at.bytes ≡ spelling rec ++ rest → Again (recording_at at) rec rest
unfolding recording_at spelling
recording_again at rec rest fits e =
    let last = checkpoint rec.last ++ rest in
    let end = end_of_run rec.end ++ last in
    let checkpoints = counted checkpoint rec.checkpoints ++ end in
    let calls = counted call rec.calls ++ checkpoints in
    let args = counted sized rec.args ++ calls in
    let image = sized rec.image ++ args in
    let load_addr = word rec.load_addr ++ image in
    let kind = word rec.kind ++ load_addr in
    let regrouped : spelling rec ++ rest ≡ name ++ (version ++ kind) = simp append_assoc in
    from (text_again name Magic at (version ++ kind) (e ∙ regrouped)) (λ next0 reads0 stands0.
    from (text_again version Version next0 kind stands0) (λ next1 reads1 stands1.
    from (word_up_to_again HIGHEST_KIND next1 rec.kind load_addr fits.kind (omega (arith, fits.kind)) stands1) (λ next2 reads2 stands2.
    from (word_up_to_again (highest_load_addr rec.kind) next2 rec.load_addr image fits.load_addr (omega (arith, fits.load_addr, highest_fits rec.kind)) stands2) (λ next3 reads3 stands3.
    from (sized_again MOST_IMAGE_BYTES next3 rec.image args fits.image (omega arith) stands3) (λ next4 reads4 stands4.
    from (args_again next4 rec.args calls fits.args stands4) (λ next5 reads5 stands5.
    from (calls_again next5 rec.calls checkpoints fits.number_of_calls fits.each_call stands5) (λ next6 reads6 stands6.
    from (checkpoints_again next6 rec.checkpoints end fits.number_of_checkpoints (record { each = fits.each_checkpoint; rising = fits.counts_rise; needed = AreNeeded-front [] (listings rec.checkpoints) rec.last.pages fits.each_listing_is_needed }) stands6) (λ next7 reads7 stands7.
    from (end_again next7 rec.end last fits.how_it_ends stands7) (λ next8 reads8 stands8.
    from (checkpoint_again (last_or None count_of rec.checkpoints) (listings rec.checkpoints) next8 rec.last rest (record { is_checkpoint = fits.last; above = fits.last_is_above; needed = AreNeeded-back [] (listings rec.checkpoints) rec.last.pages fits.each_listing_is_needed }) stands8) (λ next9 reads9 stands9.
    record { next = next9; reads = rw (reads0, reads1, reads2, reads3, reads4, reads5, reads6, reads7, reads8, reads9) refl; stands = stands9 }))))))))))

-- ---- the whole

within : {A : Type 0} (b : Bool) (d : RecFault) (read : Result A RecFault) (y : A) → cond b (Err d) read ≡ Ok y → (b ≡ false) × (read ≡ Ok y)
within true d read y e = absurd cc
within false d read y e = (refl, e)

pub reading_takes : (bytes : List ℕ) (rec : Recording) → IsBytes bytes → reading bytes ≡ Ok rec → IsRecording bytes rec
unfolding reading
reading_takes bytes rec fits e =
    let w = within (ltb MOST_BYTES (length bytes)) (record { place = MOST_BYTES; cause = TooLarge }) _ rec e in
    step (recording_at (start bytes)) _ rec w.1 (λ x x_is rest.
    let t = recording_takes (start bytes) x fits x_is in
    let g = refuse_ok (ltb 0 (length x.1.bytes)) x.1 Trailing x.0 rec rest in
    let none : length x.1.bytes ≤ 0 = ltb-false _ _ g.0 in
    let nothing : x.1.bytes ≡ [] = nil_from_length x.1.bytes (omega arith) in
    let whole : bytes ≡ spelling x.0 = t.0.parts ∙ ap (λ (r : List ℕ). spelling x.0 ++ r) nothing ∙ append-nil (spelling x.0) in
    subst (IsRecording bytes) g.1 (record { spelled = whole; value = t.1; size = ltb-false _ _ w.0 }))

pub reading_again : (bytes : List ℕ) (rec : Recording) → IsRecording bytes rec → reading bytes ≡ Ok rec
unfolding reading
reading_again bytes rec is =
    from (recording_again (start bytes) rec [] is.value (is.spelled ∙ sym (append-nil (spelling rec)))) (λ next reads stands.
    let size : ltb MOST_BYTES (length bytes) ≡ false = le-ltb _ _ is.size in
    rw (size, reads, stands) refl)

pub is_found : (bytes : List ℕ) (r : Result Recording (Refused RecFault)) → IsBytes bytes → Tells r (reading bytes) → IfOk r (IsRecording bytes)
is_found bytes (Ok rec) fits told = reading_takes bytes rec fits told
is_found bytes (Err e) fits told = tt
