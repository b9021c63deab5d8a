-- The laws of arguments, calls and the end.
use Rattle.std.proofs.Common.{◌≡◌, ℕ, zero, suc, ◌+◌, ◌^◌, ◌<◌, ◌≤◌, Bool, true, false, cond, eqb, ltb, List, [], ◌∷◌, ◌++◌, length, Option, Some, None, Ok, refl, sym, ap, subst, ◌∙◌, append_assoc, arith}
use Rattle.std.specs.List.{flat_map, AllByRecursion}
use Rattle.std.proofs.lemmas.Bool.{ltb-false, le-ltb, eqb-true}
use Rattle.std.proofs.lemmas.Bool.Decides.{nat_tests}
use Rattle.call_log.specs.declared.entry.CallEntry.{CallEntry}
use Rattle.call_log.specs.declared.entry.End.{End}
use Rattle.call_log.specs.declared.entry.End.TheVariants as ends
use Rattle.rec_format.specs.declared.fault.RecCause.TheVariants.{Range}
use Rattle.rec_format.specs.declared.limits.TheConstants.{MOST_ARGS, MOST_ARG_BYTES, MOST_CALL_BYTES}
use Rattle.rec_format.specs.Place.{Rest}
use Rattle.rec_format.specs.Rules.{AreWords, has_zero, args_size, AreArguments, IsCallEntry, is_trap, IsEnd}
use Rattle.rec_format.specs.Spelling.{word, sized, counted, call, end_of_run}
use Rattle.rec_format.specs.Reading.{refuse, run_at, word_at, word_up_to, sized_up_to, words_at, arg_at, args_at, call_at, calls_at, end_at, end_of_kind, known_end}
use Rattle.rec_format.proofs.Fields.{IsBytes, Takes, Takes-then, Again, step, from, ok_is, refuse_ok, run_takes, run_again, word_takes, word_again, word_up_to_takes, word_up_to_again, sized_takes, sized_again}
use Rattle.rec_format.proofs.Fronts.{All-front, All-back, All-join}
use Rattle.rec_format.proofs.ItemLaws.{ItemTakes, ItemAgain, items_take, items_again}
use Rattle.rec_format.proofs.Sums.{args_size-push, args_size-append}

-- ---- numbers

abbrev IsWord : ℕ → Type 0
IsWord n = n < 2 ^ 32

word_items : ItemTakes (λ _. word_at) word (AllByRecursion IsWord)
word_items = record {
  takes = λ before at x fits kept e. let t = word_takes at x fits e in (t.0, All-join IsWord before (x.0 ∷ []) kept (t.1, tt));
}

pub words_take : (n : ℕ) (at : Rest) (x : List ℕ × Rest) → IsBytes at.bytes → words_at n at ≡ Ok x → Takes at (flat_map word x.0) x.1 × AreWords n x.0
words_take n at x fits e =
    let t = items_take (λ _. word_at) word (AllByRecursion IsWord) word_items n at x fits tt e in
    (t.0, record { number = t.1; each = t.2 })

word_items_again : ItemAgain (λ _. word_at) word (AllByRecursion IsWord)
word_items_again = record {
  again = λ before n at rest kept e. word_again at n rest (All-back IsWord before (n ∷ []) kept).0 e;
  fronts = All-front IsWord;
}

pub words_again : (n : ℕ) (at : Rest) (words rest : List ℕ) → AreWords n words → at.bytes ≡ flat_map word words ++ rest → Again (words_at n at) words rest
words_again n at words rest fits e =
    subst (λ k. Again (words_at k at) words rest) fits.number (items_again (λ _. word_at) word (AllByRecursion IsWord) word_items_again words [] at rest fits.each e)

-- ---- arguments

abbrev IsZeroFree : List ℕ → Type 0
IsZeroFree arg = has_zero arg ≡ false

record KeepsArgs (args : List (List ℕ)) : Type 0 where
  zero_free : AllByRecursion IsZeroFree args
  size : args_size args ≤ MOST_ARG_BYTES

arg_takes : (used : ℕ) (at : Rest) (x : List ℕ × Rest) → IsBytes at.bytes → arg_at used at ≡ Ok x → Takes at (sized x.0) x.1 × (used + (length x.0 + 1) ≤ MOST_ARG_BYTES) × IsZeroFree x.0
unfolding arg_at sized
arg_takes used at x fits e =
    step (word_at at) _ x e (λ len len_is rest0.
    step (refuse (ltb MOST_ARG_BYTES (used + len.0 + 1)) at Range len) _ x rest0 (λ room room_is rest1.
    step (run_at room.0 room.1) _ x rest1 (λ arg arg_is rest2.
    let g = refuse_ok (ltb MOST_ARG_BYTES (used + len.0 + 1)) at Range len room room_is in
    let z = refuse_ok (has_zero arg.0) at Range arg x rest2 in
    let t = word_takes at len fits len_is in
    let t' : Takes at (word room.0) room.1 = subst (λ (y : ℕ × Rest). Takes at (word y.0) y.1) g.1 t.0 in
    let r = run_takes room.1 room.0 arg t'.rest_fits arg_is in
    let fits_room : used + len.0 + 1 ≤ MOST_ARG_BYTES = ltb-false _ _ g.0 in
    let same : len.0 ≡ room.0 = ap (λ (y : ℕ × Rest). y.0) g.1 in
    let whole : Takes at (word (length arg.0) ++ arg.0) arg.1 = subst (λ (n : ℕ). Takes at (word n ++ arg.0) arg.1) (sym r.len_is) (Takes-then at (word room.0) room.1 arg.0 arg.1 t' r.takes) in
    subst (λ (y : List ℕ × Rest). Takes at (word (length y.0) ++ y.0) y.1 × (used + (length y.0 + 1) ≤ MOST_ARG_BYTES) × IsZeroFree y.0) z.1 (whole, omega (arith, r.len_is), z.0))))

arg_again : (used : ℕ) (at : Rest) (arg rest : List ℕ) → used + (length arg + 1) ≤ MOST_ARG_BYTES → IsZeroFree arg → at.bytes ≡ sized arg ++ rest → Again (arg_at used at) arg rest
unfolding arg_at sized
arg_again used at arg rest room free e =
    from (word_again at (length arg) (arg ++ rest) (omega arith) (e ∙ append_assoc (word (length arg)) arg rest)) (λ next0 reads0 stands0.
    from (run_again next0 (length arg) arg rest refl stands0) (λ next1 reads1 stands1.
    let fits : ltb MOST_ARG_BYTES (used + length arg + 1) ≡ false = le-ltb _ _ (omega arith) in
    record { next = next1; reads = rw (reads0, fits, reads1, free) refl; stands = stands1 }))

arg_items : ItemTakes (λ before. arg_at (args_size before)) sized KeepsArgs
arg_items = record {
  takes = λ before at x fits kept e.
      let t = arg_takes (args_size before) at x fits e in (
        t.0,
        record {
          zero_free = All-join IsZeroFree before (x.0 ∷ []) kept.zero_free (t.2, tt);
          size = omega (arith, args_size-push before x.0, t.1);
        },
      );
}

arg_items_again : ItemAgain (λ before. arg_at (args_size before)) sized KeepsArgs
arg_items_again = record {
  again = λ before arg at rest kept e. arg_again (args_size before) at arg rest (omega (arith, args_size-push before arg, kept.size)) (All-back IsZeroFree before (arg ∷ []) kept.zero_free).0 e;
  fronts = λ xs ys kept. record {
    zero_free = All-front IsZeroFree xs ys kept.zero_free;
    size = omega (arith, args_size-append xs ys, kept.size);
  };
}

pub args_take : (at : Rest) (x : List (List ℕ) × Rest) → IsBytes at.bytes → args_at at ≡ Ok x → Takes at (counted sized x.0) x.1 × AreArguments x.0
unfolding args_at counted
args_take at x fits e =
    step (word_up_to MOST_ARGS at) _ x e (λ n n_is rest.
    let t = word_up_to_takes MOST_ARGS at n fits n_is in
    let i = items_take (λ before. arg_at (args_size before)) sized KeepsArgs arg_items n.0 n.1 x t.0.rest_fits (record { zero_free = tt; size = omega arith }) rest in (
      subst (λ (k : ℕ). Takes at (word k ++ flat_map sized x.0) x.1) (sym i.1) (Takes-then at (word n.0) n.1 (flat_map sized x.0) x.1 t.0 i.0),
      record {
        number = omega (arith, t.1, i.1);
        zero_free = i.2.zero_free;
        size = i.2.size;
      },
    ))

pub args_again : (at : Rest) (args : List (List ℕ)) (rest : List ℕ) → AreArguments args → at.bytes ≡ counted sized args ++ rest → Again (args_at at) args rest
unfolding args_at counted
args_again at args rest fits e =
    from (word_up_to_again MOST_ARGS at (length args) (flat_map sized args ++ rest) fits.number (omega (arith, fits.number)) (e ∙ append_assoc (word (length args)) (flat_map sized args) rest)) (λ next0 reads0 stands0.
    from (items_again (λ before. arg_at (args_size before)) sized KeepsArgs arg_items_again args [] next0 rest (record { zero_free = fits.zero_free; size = fits.size }) stands0) (λ next1 reads1 stands1.
    record { next = next1; reads = rw (reads0, reads1) refl; stands = stands1 }))

-- ---- calls

call_takes : (at : Rest) (x : CallEntry × Rest) → IsBytes at.bytes → call_at at ≡ Ok x → Takes at (call x.0) x.1 × IsCallEntry x.0
unfolding call_at call
call_takes at x fits e =
    step (word_at at) _ x e (λ n n_is rest0.
    step (words_at 6 n.1) _ x rest0 (λ args args_is rest1.
    step (word_at args.1) _ x rest1 (λ result result_is rest2.
    step (sized_up_to MOST_CALL_BYTES result.1) _ x rest2 (λ bytes bytes_is rest3.
    let t0 = word_takes at n fits n_is in
    let t1 = words_take 6 n.1 args t0.0.rest_fits args_is in
    let t2 = word_takes args.1 result t1.0.rest_fits result_is in
    let t3 = sized_takes MOST_CALL_BYTES result.1 bytes t2.0.rest_fits bytes_is in
    let entry : CallEntry = record { call = record { number = n.0; args = args.0 }; result = result.0; bytes = bytes.0 } in
    let is_entry : IsCallEntry entry = record { number = t0.1; args = t1.1; result = t2.1; bytes = t3.1 } in
    let two = Takes-then at (word n.0) n.1 (flat_map word args.0) args.1 t0.0 t1.0 in
    let three = Takes-then at (word n.0 ++ flat_map word args.0) args.1 (word result.0) result.1 two t2.0 in
    let four = Takes-then at (word n.0 ++ flat_map word args.0 ++ word result.0) result.1 (sized bytes.0) bytes.1 three t3.0 in
    subst (λ (y : CallEntry × Rest). Takes at (call y.0) y.1 × IsCallEntry y.0) (ok_is (entry, bytes.1) x rest3) (four, is_entry)))))

call_again : (at : Rest) (entry : CallEntry) (rest : List ℕ) → IsCallEntry entry → at.bytes ≡ call entry ++ rest → Again (call_at at) entry rest
unfolding call_at call
call_again at entry rest fits e =
    let number = word entry.call.number in
    let args = flat_map word entry.call.args in
    let result = word entry.result in
    let bytes = sized entry.bytes in
    let regrouped : (number ++ args ++ result ++ bytes) ++ rest ≡ number ++ (args ++ (result ++ (bytes ++ rest))) = simp append_assoc in
    from (word_again at entry.call.number (args ++ (result ++ (bytes ++ rest))) fits.number (e ∙ regrouped)) (λ next0 reads0 stands0.
    from (words_again 6 next0 entry.call.args (result ++ (bytes ++ rest)) fits.args stands0) (λ next1 reads1 stands1.
    from (word_again next1 entry.result (bytes ++ rest) fits.result stands1) (λ next2 reads2 stands2.
    from (sized_again MOST_CALL_BYTES next2 entry.bytes rest fits.bytes (omega arith) stands2) (λ next3 reads3 stands3.
    record { next = next3; reads = rw (reads0, reads1, reads2, reads3) refl; stands = stands3 }))))

call_items : ItemTakes (λ _. call_at) call (AllByRecursion IsCallEntry)
call_items = record {
  takes = λ before at x fits kept e. let t = call_takes at x fits e in (t.0, All-join IsCallEntry before (x.0 ∷ []) kept (t.1, tt));
}

call_items_again : ItemAgain (λ _. call_at) call (AllByRecursion IsCallEntry)
call_items_again = record {
  again = λ before entry at rest kept e. call_again at entry rest (All-back IsCallEntry before (entry ∷ []) kept).0 e;
  fronts = All-front IsCallEntry;
}

pub calls_take : (at : Rest) (x : List CallEntry × Rest) → IsBytes at.bytes → calls_at at ≡ Ok x → Takes at (counted call x.0) x.1 × (length x.0 < 2 ^ 32) × AllByRecursion IsCallEntry x.0
unfolding calls_at counted
calls_take at x fits e =
    step (word_at at) _ x e (λ n n_is rest.
    let t = word_takes at n fits n_is in
    let i = items_take (λ _. call_at) call (AllByRecursion IsCallEntry) call_items n.0 n.1 x t.0.rest_fits tt rest in
    (subst (λ (k : ℕ). Takes at (word k ++ flat_map call x.0) x.1) (sym i.1) (Takes-then at (word n.0) n.1 (flat_map call x.0) x.1 t.0 i.0), omega (arith, t.1, i.1), i.2))

pub calls_again : (at : Rest) (entries : List CallEntry) (rest : List ℕ) → length entries < 2 ^ 32 → AllByRecursion IsCallEntry entries → at.bytes ≡ counted call entries ++ rest → Again (calls_at at) entries rest
unfolding calls_at counted
calls_again at entries rest number each e =
    from (word_again at (length entries) (flat_map call entries ++ rest) number (e ∙ append_assoc (word (length entries)) (flat_map call entries) rest)) (λ next0 reads0 stands0.
    from (items_again (λ _. call_at) call (AllByRecursion IsCallEntry) call_items_again entries [] next0 rest each stands0) (λ next1 reads1 stands1.
    record { next = next1; reads = rw (reads0, reads1) refl; stands = stands1 }))

-- ---- the end

known_ok : (o : Option End) (at after : Rest) (x : End × Rest) → known_end o at after ≡ Ok x → (o ≡ Some x.0) × (after ≡ x.1)
known_ok None at after x e = absurd cc
known_ok (Some end) at after x e = let same : (end, after) ≡ x = ok_is (end, after) x e in (ap (λ (y : End × Rest). Some y.0) same, ap (λ (y : End × Rest). y.1) same)

chosen : {A : Type 0} (b : Bool) (x y : A) → cond b (Some x) None ≡ Some y → (b ≡ true) × (x ≡ y)
chosen true x y e = (refl, cc)
chosen false x y e = absurd cc

-- an end that is found is spelled by the kind and the value
end_is : (kind value : ℕ) (end : End) → kind ≤ 2 → value < 2 ^ 32 → end_of_kind kind value ≡ Some end → (end_of_run end ≡ word kind ++ word value) × IsEnd end
unfolding end_of_run
end_is zero value end le lt e =
    let same : ends.Exited value ≡ end = cc in
    subst (λ (x : End). (end_of_run x ≡ word 0 ++ word value) × IsEnd x) same (refl, lt)
end_is (suc zero) value end le lt e =
    let c = chosen (is_trap value) (ends.Trapped value) end e in
    subst (λ (x : End). (end_of_run x ≡ word 1 ++ word value) × IsEnd x) c.1 (refl, c.0)
end_is (suc (suc kind)) value end le lt e =
    let c = chosen (eqb value 0) ends.Stopped end e in
    let nothing : value ≡ 0 = eqb-true value 0 c.0 in
    let two : suc (suc kind) ≡ 2 = omega arith in
    subst (λ (x : End). (end_of_run x ≡ word (suc (suc kind)) ++ word value) × IsEnd x) c.1 (rw (two, nothing) refl, tt)

pub end_takes : (at : Rest) (x : End × Rest) → IsBytes at.bytes → end_at at ≡ Ok x → Takes at (end_of_run x.0) x.1 × IsEnd x.0
unfolding end_at
end_takes at x fits e =
    step (word_up_to 2 at) _ x e (λ kind kind_is rest0.
    step (word_at kind.1) _ x rest0 (λ value value_is rest1.
    let k = known_ok (end_of_kind kind.0 value.0) kind.1 value.1 x rest1 in
    let t0 = word_up_to_takes 2 at kind fits kind_is in
    let t1 = word_takes kind.1 value t0.0.rest_fits value_is in
    let is = end_is kind.0 value.0 x.0 t0.1 t1.1 k.0 in
    (subst (Takes at (end_of_run x.0)) k.1 (subst (λ (t : List ℕ). Takes at t value.1) (sym is.0) (Takes-then at (word kind.0) kind.1 (word value.0) value.1 t0.0 t1.0)), is.1)))

-- the kind and the value of an end
record Spelled (end : End) : Type 0 where
  kind : ℕ
  value : ℕ
  spelled : end_of_run end ≡ word kind ++ word value
  kind_fits : kind ≤ 2
  value_fits : value < 2 ^ 32
  found : end_of_kind kind value ≡ Some end

trap_fits : (n : ℕ) → is_trap n ≡ true → n < 2 ^ 32
trap_fits n h = grind (arith, nat_tests)

spelled : (end : End) → IsEnd end → Spelled end
unfolding end_of_run
spelled (ends.Exited code) fits = record { kind = 0; value = code; spelled = refl; kind_fits = omega arith; value_fits = fits; found = refl }
spelled (ends.Trapped trap) fits = record { kind = 1; value = trap; spelled = refl; kind_fits = omega arith; value_fits = trap_fits trap fits; found = rw fits refl }
spelled ends.Stopped fits = record { kind = 2; value = 0; spelled = refl; kind_fits = omega arith; value_fits = omega arith; found = refl }

pub end_again : (at : Rest) (end : End) (rest : List ℕ) → IsEnd end → at.bytes ≡ end_of_run end ++ rest → Again (end_at at) end rest
unfolding end_at
end_again at end rest fits e =
    let s = spelled end fits in
    let regrouped : end_of_run end ++ rest ≡ word s.kind ++ (word s.value ++ rest) = ap (λ (t : List ℕ). t ++ rest) s.spelled ∙ append_assoc (word s.kind) (word s.value) rest in
    from (word_up_to_again 2 at s.kind (word s.value ++ rest) s.kind_fits (omega (arith, s.kind_fits)) (e ∙ regrouped)) (λ next0 reads0 stands0.
    from (word_again next0 s.value rest s.value_fits stands0) (λ next1 reads1 stands1.
    record { next = next1; reads = rw (reads0, reads1, s.found) refl; stands = stands1 }))
