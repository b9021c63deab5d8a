-- A word that is emitted.
use Rattle.std.specs.Prelude.{Bool, nat_lt, unwrap_or, slice_get, if◌then◌else◌}
use Rattle.std.proofs.Common.{◌≡◌, ℕ, zero, suc, ◌+◌, ◌*◌, ◌%◌, ◌^◌, ◌<◌, ◌≤◌, inl, inr, true, false, List, ◌++◌, [], ◌∷◌, length, Some, refl, ap, ◌∙◌, sym, subst, arith}
use Rattle.std.proofs.lemmas.Bool.Decides.{nat_tests}
use Rattle.sl_model.specs.declared.bank.TheConstants.{CODE_START, FRAMES_START, FRAMES_SIZE, LOG_START, OUTPUT_START, MOST_OUTPUT_WORDS}
use Rattle.sl_model.specs.declared.instr.BranchOp.TheVariants.{Bltu}
use Rattle.sl_model.specs.declared.instr.Instr.{Instr}
use Rattle.sl_model.specs.declared.layout.TheConstants.{MEMORY_END}
use Rattle.sl_model.specs.Arithmetic.{word_add, is_taken}
use Rattle.sl_model.specs.Bank.{words_at, output_count, code_size}
use Rattle.sl_model.specs.Pages.{Pages, ArePages}
use Rattle.sl_model.specs.Stores.{IsStored}
use Rattle.sl_model.specs.Undo.{word_at, log_count}
use Rattle.tracer_lang.specs.declared.record.TracerEnd.TheVariants.{TooManyWords}
use Rattle.tracer_lang.specs.Meaning.{Now, Outcome, Goes, Ended, emit_meaning}
use Rattle.tracer_code.specs.declared.outcomes.TheConstants.{TOO_MANY_WORDS}
use Rattle.tracer_code.specs.Runs.{IsContained}
use Rattle.word_blocks.specs.Code.{HasBlock}
use Rattle.word_blocks.specs.Configuration.{Registers, Configuration, at_place}
use Rattle.word_blocks.specs.Ways.{Leads}
use Rattle.word_blocks.proofs.Blocks.{Does, Leads-block}
use Rattle.word_blocks.proofs.Bytes.{SameBytes, SameBytes-stored, load_at-elsewhere, load_at-word}
use Rattle.word_blocks.proofs.Jumps.{Leads-taken, Leads-passed}
use Rattle.word_blocks.proofs.PuttingBack.{undone-elsewhere}
use Rattle.tracer_compile.specs.declared.roles.Role.TheVariants.{Zero, First, Second, Third, Value}
use Rattle.tracer_compile.specs.Blocks.{add_number, skip_if, add, times_four, high_number, load_word, store_word, end_with, end_without, emit_block}
use Rattle.tracer_compile.proofs.Relation.{World, promise, Holds, Body, Room, Roles, Matches, Stands, Kept, Reaches, holds_value, tells_nothing, Runs}
use Rattle.tracer_compile.proofs.Standing.{load_at-mapped, load_at-word_at, word_at-same, words_at-same, code_size_fits, Holds-stored, Stands-beside, Kept-frames}
use Rattle.tracer_compile.proofs.Running.{Roles-kept, Leads-known, Leads-straight, HasBlock-inside}
use Rattle.tracer_compile.proofs.Ends.{Leads-end_without}

-- ---- words in memory

length-words_at : (m : Pages) (address count : ℕ) → length (words_at m address count) ≡ count
unfolding words_at
length-words_at m address zero = refl
length-words_at m address (suc count) = omega (arith, length-words_at m (address + 4) count)

-- one more word
words_at-more : (m : Pages) (address count : ℕ) → words_at m address (count + 1) ≡ words_at m address count ++ word_at m (address + 4 * count) ∷ []
unfolding words_at
words_at-more m address zero =
    let here : address ≡ address + 0 = omega arith in
    ap (λ a. word_at m a ∷ []) here
words_at-more m address (suc count) =
    let further : suc count + 1 ≡ suc (count + 1) = omega arith in
    let there : address + 4 + 4 * count ≡ address + 4 * suc count = omega arith in
    ap (words_at m address) further
    ∙ ap (λ l. word_at m address ∷ l) (words_at-more m (address + 4) count ∙ ap (λ a. words_at m (address + 4) count ++ word_at m a ∷ []) there)

is_below : (n most : ℕ) → nat_lt n most ≡ true → n < most
is_below n most is = grind (arith, nat_tests)

-- how many words stand in memory that matches
pub words_counted : (now : Now) (m : Pages) → Matches now m → output_count m ≡ length now.words
words_counted now m matches = sym (length-words_at m (OUTPUT_START + 4) (output_count m)) ∙ ap length matches.words

-- ---- stores into the output

-- what a store there leaves
record BesideOutput (w : World) (m m' : Pages) : Type 0 where
  holds : Holds w m'
  stores : log_count m' ≡ log_count m
  frames : SameBytes FRAMES_START FRAMES_SIZE m m'
  program : SameBytes 0 (MEMORY_END + 4) m m'

beside_output : (w : World) (at width value : ℕ) (m m' : Pages) → ArePages m → ArePages m' → IsStored at width value m m' → OUTPUT_START ≤ at → output_count m' ≤ MOST_OUTPUT_WORDS → Holds w m → BesideOutput w m m'
beside_output w at width value m m' are are' is behind few holds =
    let entries : log_count m ≤ 4096 = holds.contained.few_entries in
    let logs = undone-elsewhere at width value m m' are are' is (omega arith) (inl (omega arith)) in
    let stores : log_count m' ≡ log_count m = word_at-same m m' LOG_START (SameBytes-stored LOG_START 4 at width value m m' is (inl (omega arith))) in
    let small : code_size w.words ≤ 2 ^ 20 + 4096 = code_size_fits w in
    let contained : IsContained w.words w.s m' = record {
      undone = λ page below. logs.1 page below ∙ holds.contained.undone page below;
      few_entries = rw stores holds.contained.few_entries;
      few_words = few;
      code = λ index below. load_at-elsewhere (CODE_START + 4 * index) 4 at width value m m' is (inl (omega arith)) ∙ holds.contained.code index below;
    } in
    record {
      holds = Holds-stored w at width value m m' are are' is (omega arith) holds contained;
      stores = stores;
      frames = SameBytes-stored FRAMES_START FRAMES_SIZE at width value m m' is (inl (omega arith));
      program = SameBytes-stored 0 (MEMORY_END + 4) at width value m m' is (inl (omega arith));
    }

module _ (w : World) (b : Body) where
  -- A word written behind the others, and then counted.
  emitted : (now : Now) (value : ℕ) (m n o : Pages) → ArePages m → ArePages n → ArePages o → value < 2 ^ 32 → output_count m < 256 → Stands w b now m
      → IsStored (OUTPUT_START + 4 + 4 * output_count m) 4 value m n → BesideOutput w m n
      → IsStored OUTPUT_START 4 (output_count m + 1) n o → BesideOutput w n o → Matches (record now { words = now.words ++ value ∷ [] }) o
  emitted now value m n o are aren areo small few stands written beside counted beside' =
      let count : ℕ = output_count m in
      let next : output_count o ≡ count + 1 = ap (λ a. unwrap_or a 0) (load_at-word OUTPUT_START (count + 1) n o counted (omega arith)) in
      let older : words_at o (OUTPUT_START + 4) count ≡ words_at n (OUTPUT_START + 4) count = words_at-same n o (OUTPUT_START + 4) count (SameBytes-stored (OUTPUT_START + 4) (4 * count) OUTPUT_START 4 (count + 1) n o counted (inr (omega arith))) in
      let oldest : words_at n (OUTPUT_START + 4) count ≡ words_at m (OUTPUT_START + 4) count = words_at-same m n (OUTPUT_START + 4) count (SameBytes-stored (OUTPUT_START + 4) (4 * count) (OUTPUT_START + 4 + 4 * count) 4 value m n written (inl (omega arith))) in
      let there : word_at n (OUTPUT_START + 4 + 4 * count) ≡ value = ap (λ a. unwrap_or a 0) (load_at-word (OUTPUT_START + 4 + 4 * count) value m n written small) in
      let still : word_at o (OUTPUT_START + 4 + 4 * count) ≡ word_at n (OUTPUT_START + 4 + 4 * count) = word_at-same n o (OUTPUT_START + 4 + 4 * count) (SameBytes-stored (OUTPUT_START + 4 + 4 * count) 4 OUTPUT_START 4 (count + 1) n o counted (inr (omega arith))) in
      let firsts : words_at o (OUTPUT_START + 4) count ≡ now.words = older ∙ oldest ∙ stands.matches.words in
      record {
        words = ap (words_at o (OUTPUT_START + 4)) next ∙ words_at-more o (OUTPUT_START + 4) count ∙ ap (λ l. l ++ word_at o (OUTPUT_START + 4 + 4 * count) ∷ []) firsts ∙ ap (λ v. now.words ++ v ∷ []) (still ∙ there);
        stores = beside'.stores ∙ beside.stores ∙ stands.matches.stores;
        program = λ a from before. sym (beside'.program a from before) ∙ sym (beside.program a from before) ∙ stands.matches.program a from before;
        are = stands.matches.are;
        below = stands.matches.below;
      }

  -- where the words are to be counted
  record Counting (now : Now) (top : ℕ) (m : Pages) (value : ℕ) (y : Registers) (n : Pages) : Type 0 where
    same : n ≡ m
    area : y 5 ≡ OUTPUT_START
    count : y 6 ≡ output_count m
    most : y 7 ≡ 256
    value_is : y 10 ≡ value
    roles : Roles b top now y

  writing : List Instr
  writing = times_four Third Second ∷ add Third Third First ∷ store_word Value Third 4 ∷ add_number Second Second 1 ∷ store_word Second First 0 ∷ []

  -- the word is written, and counted
  writes : (place top depth value : ℕ) (now : Now) (x : Registers) (m : Pages) → ArePages m → value < 2 ^ 32 → output_count m < 256 → Room b top depth → Stands w b now m → Counting now top m value x m
      → Does (promise w) place writing x m (λ y o. Roles b top (record now { words = now.words ++ value ∷ [] }) y × Stands w b (record now { words = now.words ++ value ∷ [] }) o × tells_nothing 0 y × Kept b top m o)
  unfolding writing
  writes place top depth value now x m are small few room stands counting =
      let count : ℕ = output_count m in
      let at : ℕ = OUTPUT_START + 4 + 4 * count in
      let scaled : x 6 * 4 % 2 ^ 32 ≡ 4 * count = omega (arith, counting.count) in
      let added : word_add (word_add (x 6 * 4 % 2 ^ 32) (x 5)) 4 ≡ at = omega (arith, scaled, counting.area) in
      let raised : word_add (x 6) 1 ≡ count + 1 = omega (arith, counting.count) in
      let start : word_add (x 5) 0 ≡ OUTPUT_START = omega (arith, counting.area) in
      let next : Now = record now { words = now.words ++ value ∷ [] } in (
        at,
        added,
        inr (inr (inl (omega arith, omega arith))),
        load_at-mapped m at 4 (λ a from before. stands.holds.output a (omega arith) (omega arith)),
        λ n is aren.
            let written : IsStored at 4 value m n = subst (λ v. IsStored at 4 v m n) counting.value_is is in
            let same : output_count n ≡ output_count m = word_at-same m n OUTPUT_START (SameBytes-stored OUTPUT_START 4 at 4 value m n written (inl (omega arith))) in
            let beside : BesideOutput w m n = beside_output w at 4 value m n are aren written (omega arith) (omega (arith, same)) stands.holds in (
              beside.holds,
              (
                OUTPUT_START,
                start,
                inr (inr (inl (omega arith, omega arith))),
                load_at-mapped n OUTPUT_START 4 (λ a from before. beside.holds.output a (omega arith) (omega arith)),
                λ o is' areo.
                    let counted : IsStored OUTPUT_START 4 (count + 1) n o = subst (λ v. IsStored OUTPUT_START 4 v n o) raised is' in
                    let more : output_count o ≡ count + 1 = ap (λ a. unwrap_or a 0) (load_at-word OUTPUT_START (count + 1) n o counted (omega arith)) in
                    let beside' : BesideOutput w n o = beside_output w OUTPUT_START 4 (count + 1) n o aren areo counted (omega arith) (omega (arith, more)) beside.holds in
                    let frames : SameBytes FRAMES_START FRAMES_SIZE m o = λ a from before. beside.frames a from before ∙ beside'.frames a from before in
                    let matches : Matches next o = emitted now value m n o are aren areo small few stands written beside counted beside' in
                    let roles = counting.roles in (
                      beside'.holds,
                      (
                        record { top_is = roles.top_is; frame_is = roles.frame_is; units_is = roles.units_is; calls_is = roles.calls_is; break_is = roles.break_is },
                        Stands-beside w b now next m o frames refl beside'.holds matches stands,
                        tt,
                        Kept-frames w b top depth m o stands.body room frames,
                      ),
                    ),
              ),
            ),
      )

  -- emits the value
  pub emit-runs : (depth value : ℕ) → Runs w b (holds_value value) tells_nothing depth emit_block (emit_meaning value)
  unfolding emit_block end_without end_with writing
  emit-runs depth value place top limit after now x m has given room roles stands enough =
      Leads-known w limit (at_place place x m) _ (λ small are.
      let block : List Instr = high_number First OUTPUT_START ∷ load_word Second First 0 ∷ add_number Third Zero MOST_OUTPUT_WORDS ∷ [] in
      Leads-block (promise w) block place limit x m (Counting now top m value) _ stands.holds (has.0, (has.1.0, (has.1.1.0, tt))) (omega (arith, enough)) (
        OUTPUT_START,
        refl,
        output_count m,
        load_at-word_at m OUTPUT_START (λ a from before. stands.holds.output a (omega arith) (omega arith)),
        record { same = refl; area = refl; count = refl; most = refl; value_is = given; roles = Roles-kept b top now x _ roles (refl, refl, refl, refl, refl) },
      )
      (λ left y n counted holds counting.
      subst (λ q. Leads (promise w) left (at_place (place + 3) y q) (Goal (emit_meaning value now))) (sym counting.same)
      (chosen (nat_lt (length now.words) 256) refl are (subst (λ v. v < 2 ^ 32) given (small 10)) left y counted (subst (Counting now top m value y) counting.same counting))))
    where
      Goal : Outcome → ℕ → Configuration → Type 0
      Goal = Reaches w b tells_nothing (place + 12) top after m now.units

      inside : place + 12 ≤ length w.code
      inside = HasBlock-inside w.code place emit_block has (omega arith)

      chosen : (t : Bool) → nat_lt (length now.words) 256 ≡ t → ArePages m → value < 2 ^ 32 → (left : ℕ) (y : Registers) → left + 3 ≡ limit → Counting now top m value y m
          → Leads (promise w) left (at_place (place + 3) y m) (Goal (if t then Goes 0 (record now { words = now.words ++ value ∷ [] }) else Ended TooManyWords now))
      chosen true few are small left y counted counting =
          let count : output_count m ≡ length now.words = words_counted now m stands.matches in
          let below : length now.words < 256 = is_below (length now.words) 256 few in
          let here : place + 1 + 1 + 1 ≡ place + 3 = omega arith in
          let there : place + 1 + 1 + 1 + 1 + 1 + 1 + 1 ≡ place + 3 + 4 = omega arith in
          let skip = subst (λ q. slice_get w.code q ≡ Some (skip_if Bltu Second Third 4)) here has.1.1.1.0 in
          let taken : is_taken Bltu (y 6) (y 7) ≡ true = rw (counting.count, counting.most) (ap (λ n. nat_lt n 256) count ∙ few) in
          Leads-taken (promise w) (place + 3) left y m _ stands.holds (omega (arith, enough, counted)) Bltu 6 7 4 skip (omega arith) (omega (arith, inside)) taken
          (λ rest less. Leads-straight w b tells_nothing writing (place + 3 + 4) (place + 12) top after 0 rest y m m now.units (record now { words = now.words ++ value ∷ [] }) (omega arith) stands.holds
          (subst (λ q. HasBlock w.code q writing) there has.1.1.1.1.1.1.1) (omega arith) (omega (arith, enough, counted, less))
          (writes (place + 3 + 4) top depth value now y m are small (omega (arith, count, below)) room stands counting))
      chosen false many are small left y counted counting =
          let count : output_count m ≡ length now.words = words_counted now m stands.matches in
          let here : place + 1 + 1 + 1 ≡ place + 3 = omega arith in
          let there : place + 1 + 1 + 1 + 1 ≡ place + 3 + 1 = omega arith in
          let skip = subst (λ q. slice_get w.code q ≡ Some (skip_if Bltu Second Third 4)) here has.1.1.1.0 in
          let passed : is_taken Bltu (y 6) (y 7) ≡ false = rw (counting.count, counting.most) (ap (λ n. nat_lt n 256) count ∙ many) in
          Leads-passed (promise w) (place + 3) left y m _ stands.holds (omega (arith, enough, counted)) Bltu 6 7 4 skip (omega arith) (omega (arith, inside)) passed
          (λ rest less. Leads-end_without w b TooManyWords TOO_MANY_WORDS (place + 3 + 1) rest after tells_nothing (place + 12) top now y m m now.units refl refl
          (subst (λ q. HasBlock w.code q (end_without TOO_MANY_WORDS)) there (has.1.1.1.1.0, (has.1.1.1.1.1.0, (has.1.1.1.1.1.1.0, tt)))) stands.holds stands.matches (omega (arith, enough, counted, less)))
