-- Calls: a function is entered behind its arguments, and its caller goes on when it returns.
use Rattle.std.specs.Prelude.{slice_index, replicate}
use Rattle.std.proofs.Common.{append-nil, ◌≡◌, ℕ, zero, suc, inl, inr, ◌+◌, ◌-◌, ◌*◌, ◌^◌, ◌<◌, ◌≤◌, List, ◌++◌, [], ◌∷◌, length, Some, refl, ap, ◌∙◌, sym, subst, arith, length-append, append_assoc}
use Rattle.std.proofs.lemmas.List.{length-replicate}
use Rattle.sl_model.specs.declared.bank.TheConstants.{CODE_START, FRAMES_START, FRAMES_SIZE}
use Rattle.sl_model.specs.declared.instr.BranchOp.TheVariants.{Bne}
use Rattle.sl_model.specs.declared.instr.Instr.{Instr}
use Rattle.sl_model.specs.declared.instr.Instr.TheVariants as instr
use Rattle.sl_model.specs.Arithmetic.{word_add, upper_word}
use Rattle.sl_model.specs.Pages.{Pages, ArePages, byte_at, load_at}
use Rattle.tracer_lang.specs.declared.record.TracerEnd.TheVariants.{TooDeep}
use Rattle.tracer_lang.specs.Limits.{statements_depth}
use Rattle.tracer_lang.specs.Meaning.{Now, Outcome, Goes, Returned, Ended, Enter, left_with, body_meaning, entering, statements_meaning, without_memory}
use Rattle.tracer_lang.specs.Tree.{FunctionTree}
use Rattle.tracer_code.specs.declared.outcomes.TheConstants.{TOO_DEEP}
use Rattle.word_blocks.specs.Code.{HasBlock}
use Rattle.word_blocks.specs.Configuration.{Registers, Configuration, write, at_place}
use Rattle.word_blocks.specs.Ways.{Leads}
use Rattle.word_blocks.proofs.Blocks.{Does, Leads-block}
use Rattle.word_blocks.proofs.Bytes.{load_at-elsewhere, load_at-word}
use Rattle.word_blocks.proofs.CodeLaws.{HasBlock-parts}
use Rattle.word_blocks.proofs.Jumps.{Leads-jalr, Leads-taken, Leads-passed}
use Rattle.word_blocks.proofs.Ways.{Leads-stay, Leads-then, Leads-map}
use Rattle.tracer_compile.specs.declared.roles.Role.TheVariants.{Zero, Link, Top, First, Frame, Value, Calls}
use Rattle.tracer_compile.specs.Roles.{number_of}
use Rattle.tracer_compile.specs.Blocks.{add_number, take_number, store_word, jump_to, constant, push, zeros, end_with, end_without, unit_block, depth_block, enter_block, return_block}
use Rattle.tracer_compile.specs.Code.{callee, call_block, statements_code, body_code, function_code}
use Rattle.tracer_compile.proofs.Relation.{World, Entry, worth, promise, Holds, Body, body_size, IsBody, Roles, Matches, Stands, Kept, KeptBelow, Reaches, Leaves, any, holds_value, tells_nothing, Runs}
use Rattle.tracer_compile.proofs.Standing.{load_at-mapped, Stands-below, Beside, Beside-frames, Kept-none}
use Rattle.tracer_compile.proofs.Running.{Leads-straight, Roles-kept, Leads-known, Reaches-since, Kept-then, worth-suc, HasBlock-inside}
use Rattle.tracer_compile.proofs.Temporaries.{Leads-push}
use Rattle.tracer_compile.proofs.Values.{two_parts}
use Rattle.tracer_compile.proofs.Choices.{is_taken-none, is_taken-some}
use Rattle.tracer_compile.proofs.Units.{number_taken, Stands-units, Leads-unit}
use Rattle.tracer_compile.proofs.Ends.{Leads-end_without}
use Rattle.tracer_compile.proofs.WholeBodies.{returned, body-runs}
use Rattle.tracer_compile.proofs.Nodes.{Pushed, Pushed-more, scope_in, CallsRun, statements-run}

-- ---- zeros for the other locals

zeros-length : (count : ℕ) → length (zeros count) ≡ 2 * count
unfolding zeros push
zeros-length zero = refl
zeros-length (suc count) = omega (arith, zeros-length count)

module _ (w : World) (b : Body) where
  -- They become further values behind those that are pushed.
  Leads-zeros : (count : ℕ) (values : List ℕ) (place base limit : ℕ) (now : Now) (x : Registers) (m : Pages) (goal : ℕ → Configuration → Type 0) → HasBlock w.code place (zeros count) → Pushed base values m
      → b.frame + 4 * b.locals + 8 ≤ base → base + 4 * (length values + count) ≤ b.frame + body_size → Roles b (base + 4 * length values) now x → Stands w b now m → 2 * count ≤ limit
      → ((y : Registers) (n : Pages) (left : ℕ) → left + 2 * count ≡ limit → Roles b (base + 4 * (length values + count)) now y → Stands w b now n → Pushed base (values ++ replicate count 0) n → Kept b base m n
      → Leads (promise w) left (at_place (place + 2 * count) y n) goal)
      → Leads (promise w) limit (at_place place x m) goal
  unfolding zeros push
  Leads-zeros zero values place base limit now x m goal has pushed behind fits roles stands enough further =
      let same : values ≡ values ++ [] = sym (append-nil values) in
      let here : base + 4 * length values ≡ base + 4 * (length values + 0) = omega arith in
      let there : place + 2 * 0 ≡ place = omega arith in
      subst (λ q. Leads (promise w) limit (at_place q x m) goal) there
      (further x m limit (omega arith) (subst (λ q. Roles b q now x) here roles) stands (subst (λ l. Pushed base l m) same pushed) (Kept-none b base m))
  Leads-zeros (suc count) values place base limit now x m goal has pushed behind fits roles stands enough further =
      let parts = HasBlock-parts w.code place (push Zero) (zeros count) has in
      let top : ℕ = base + 4 * length values in
      let more : List ℕ = values ++ 0 ∷ [] in
      let longer : length more ≡ length values + 1 = length-append values (0 ∷ []) in
      let next : top + 4 ≡ base + 4 * length more = omega (arith, longer) in
      let size : length more + count ≡ length values + suc count = omega (arith, longer) in
      let end : place + 2 + 2 * count ≡ place + 2 * suc count = omega arith in
      let whole : more ++ replicate count 0 ≡ values ++ replicate (suc count) 0 = simp append_assoc in
      Leads-push w b Zero place top limit 0 now x m goal parts.0 refl (omega arith) (omega arith) roles stands (omega arith)
      (λ y n left counted roles' stands' loaded kept.
      let below : Kept b base m n = λ a from before apart. kept a from (omega arith) apart in
      let pushed' : Pushed base more n = Pushed-more base 0 values m n pushed (λ a from before. kept a (omega (arith, stands.body.behind)) before (inr (omega arith))) loaded in
      Leads-zeros count more (place + 2) base left now y n goal parts.1 pushed' behind (omega (arith, longer)) (subst (λ q. Roles b q now y) next roles') stands' (omega (arith, counted))
      (λ z o rest counted' roles'' stands'' pushed'' kept'.
      subst (λ q. Leads (promise w) rest (at_place q z o) goal) (sym end)
      (further z o rest (omega (arith, counted, counted')) (subst (λ q. Roles b (base + 4 * q) now z) size roles'') stands'' (subst (λ l. Pushed base l o) whole pushed'') (Kept-then w b base m n o below kept'))))

-- ---- where a function is entered

-- the body that is entered from a place
abbrev callee_body : ℕ → ℕ → ℕ → ℕ → ℕ → Body
callee_body base locals calls place frame = record { frame = base; locals = locals; calls = calls; place = place + 10; caller = frame }

-- before the jump to a function
record Entered (w : World) (b : Body) (now : Now) (address : ℕ) (m : Pages) (y : Registers) (n : Pages) : Type 0 where
  address_is : y 5 ≡ address
  roles : Roles b (b.frame + 4 * b.locals + 8) now y
  stands : Stands w b now n
  below : KeptBelow b m n

entering_words : ℕ → ℕ → List Instr
entering_words locals address =
    instr.Auipc (number_of Link) 0 ∷ add_number Link Link 40 ∷ store_word Link Top 0 ∷ store_word Frame Top 4 ∷ take_number Frame Top (4 * locals) ∷ add_number Top Top 8 ∷ take_number Calls Calls 1 ∷ constant First address

module _ (w : World) where
  -- what is saved for the return, and the callee's registers
  enters : (place base locals calls frame address : ℕ) (now : Now) (x : Registers) (m : Pages) → ArePages m → IsBody w (callee_body base locals calls place frame) → length now.locals ≡ locals → address < 2 ^ 32 → frame < 2 ^ 32 → suc calls < 2 ^ 32
      → Holds w m → Matches now m → Pushed base now.locals m → x 2 ≡ base + 4 * locals → x 8 ≡ frame → x 9 ≡ now.units → x 18 ≡ suc calls → x 19 ≡ now.brk
      → Does (promise w) place (entering_words locals address) x m (Entered w (callee_body base locals calls place frame) now address m)
  unfolding entering_words constant
  enters place base locals calls frame address now x m are body count small frame_small calls_small holds matches pushed top_is frame_is units_is calls_is break_is =
      let few : locals ≤ 16 = body.few_locals in
      let within : base + 4608 * (calls + 1) ≤ FRAMES_START + FRAMES_SIZE = body.room in
      let behind : FRAMES_START + 148 ≤ base = body.behind in
      let inside : place + 10 ≤ length w.code = body.inside in
      let top : ℕ = base + 4 * locals in
      let link : word_add (word_add (CODE_START + 4 * place) (upper_word 0)) 40 ≡ CODE_START + 4 * (place + 10) = omega (arith, w.few_words) in
      let saved : base + (4 * locals + 4) ≡ top + 4 = omega arith in
      let first_at : word_add (x 2) 0 ≡ top = omega arith in
      let second_at : word_add (x 2) 4 ≡ top + 4 = omega arith in (
        top,
        first_at,
        inl (omega arith, omega arith),
        load_at-mapped m top 4 (λ a from before. holds.frames a (omega arith) (omega arith)),
        λ n is aren.
            let first : Beside w m n = Beside-frames w top 4 _ m n are aren is (omega arith) (omega arith) holds in (
              first.holds,
              (
                top + 4,
                second_at,
                inl (omega arith, omega arith),
                load_at-mapped n (top + 4) 4 (λ a from before. first.holds.frames a (omega arith) (omega arith)),
                λ o is' areo.
                    let second : Beside w n o = Beside-frames w (top + 4) 4 (x 8) n o aren areo is' (omega arith) (omega arith) first.holds in (
                      second.holds,
                      record {
                        address_is = two_parts address small;
                        roles = record {
                          top_is = omega (arith, top_is);
                          frame_is = number_taken (x 2) base (4 * locals) top_is (omega arith) (omega arith);
                          units_is = units_is;
                          calls_is = number_taken (x 18) calls 1 (omega (arith, calls_is)) (omega arith) (omega arith);
                          break_is = break_is;
                        };
                        stands = record {
                          holds = second.holds;
                          body = body;
                          matches = second.matches now (first.matches now matches);
                          count = count;
                          locals = λ index below. load_at-elsewhere (base + 4 * index) 4 (top + 4) 4 (x 8) n o is' (inl (omega arith)) ∙ load_at-elsewhere (base + 4 * index) 4 top 4 _ m n is (inl (omega arith)) ∙ pushed index (omega arith);
                          place = load_at-elsewhere top 4 (top + 4) 4 (x 8) n o is' (inl (omega arith)) ∙ load_at-word top _ m n is (omega (arith, link, w.few_words)) ∙ ap Some link;
                          caller = ap (λ a. load_at o a 4) saved ∙ load_at-word (top + 4) (x 8) n o is' (omega arith) ∙ ap Some frame_is;
                        };
                        below = λ a from before. sym (is.elsewhere a (inl (omega arith))) ∙ sym (is'.elsewhere a (inl (omega arith)));
                      },
                    ),
              ),
            ),
      )

-- ---- where a caller goes on

module _ (w : World) (b : Body) where
  -- The function has left its value, and the next instruction lets one more call be open.
  Leads-back : (base locals calls place after : ℕ) (m n : Pages) (now next : Now) (most value left : ℕ) (c : Configuration) → HasBlock w.code (place + 10) (add_number Calls Calls 1 ∷ []) → b.calls ≡ suc calls → b.frame + 4 * b.locals + 8 ≤ base → base ≤ b.frame + body_size
      → Stands w b now m → ((a : ℕ) → FRAMES_START ≤ a → a < base → byte_at m a ≡ byte_at n a) → most ≤ now.units
      → Leaves w (callee_body base locals calls place b.frame) (1 + after) n most value next left c
      → Leads (promise w) left c (Reaches w b holds_value (place + 11) base after m now.units (Goes value (record next { locals = now.locals })))
  Leads-back base locals calls place after m n now next most value left c has is behind fits stands below fewer leaves =
      let then : Now = record next { locals = now.locals } in
      let same : (a : ℕ) → FRAMES_START ≤ a → a < base → byte_at m a ≡ byte_at c.pages a = λ a from before. below a from before ∙ leaves.kept a from before in
      let matches : Matches then c.pages = record {
        words = leaves.matches.words;
        stores = leaves.matches.stores;
        program = leaves.matches.program;
        are = leaves.matches.are;
        below = leaves.matches.below;
      } in
      let raised : word_add (c.registers 18) 1 ≡ b.calls = omega (arith, leaves.calls_is, is, stands.body.room) in
      subst (λ q. Leads (promise w) left (at_place q c.registers c.pages) (Reaches w b holds_value (place + 11) base after m now.units (Goes value then))) (sym leaves.place_is)
      (Leads-straight w b holds_value (add_number Calls Calls 1 ∷ []) (place + 10) (place + 11) base after value left c.registers c.pages m now.units then (omega (arith, leaves.units, fewer)) leaves.holds has (omega arith) (omega (arith, leaves.steps)) (
        record { top_is = leaves.top_is; frame_is = leaves.frame_is; units_is = leaves.units_is; calls_is = raised; break_is = leaves.break_is },
        Stands-below w b now then base m c.pages same behind refl leaves.holds matches stands,
        leaves.value_is,
        λ a from before apart. same a from before,
      ))

-- ---- calls

module _ (w : World) where
  -- a caller goes on with what becomes of the function's body
  goes_back : (b : Body) (base locals calls place after : ℕ) (m n : Pages) (now : Now) (most : ℕ) (o : Outcome) → HasBlock w.code (place + 10) (add_number Calls Calls 1 ∷ []) → b.calls ≡ suc calls → b.frame + 4 * b.locals + 8 ≤ base → base ≤ b.frame + body_size
      → Stands w b now m → ((a : ℕ) → FRAMES_START ≤ a → a < base → byte_at m a ≡ byte_at n a) → most ≤ now.units
      → (end top left : ℕ) (c : Configuration) → Reaches w (callee_body base locals calls place b.frame) tells_nothing end top (1 + after) n most (returned o) left c
      → Leads (promise w) left c (Reaches w b holds_value (place + 11) base after m now.units (left_with now.locals o))
  goes_back b base locals calls place after m n now most (Goes value next) has is behind fits stands below fewer end top left c leaves = Leads-back w b base locals calls place after m n now next most 0 left c has is behind fits stands below fewer leaves
  goes_back b base locals calls place after m n now most (Returned value next) has is behind fits stands below fewer end top left c leaves = Leads-back w b base locals calls place after m n now next most value left c has is behind fits stands below fewer leaves
  goes_back b base locals calls place after m n now most (Ended end' next) has is behind fits stands below fewer end top left c ends = Leads-stay (promise w) left c _ ends

  -- the bodies of functions, where further calls are known
  abbrev pub enter_in : ℕ → Enter
  enter_in = entering (without_memory w.s) w.functions

  -- From where a function's locals are pushed, it is entered and left.
  called : (b : Body) (calls : ℕ) → b.calls ≡ suc calls → ((c : Body) → c.calls ≡ calls → CallsRun w c (enter_in calls))
      → (function : ℕ) → function < length w.counts → (place base limit after : ℕ) (inside : Now) (x : Registers) (m : Pages) (locals : List ℕ)
      → HasBlock w.code place (enter_block (callee (scope_in w b) function).locals (slice_index w.addresses function)) → length locals ≡ (callee (scope_in w b) function).locals
      → Pushed base locals m → b.frame + 4 * b.locals + 8 ≤ base → base + 64 ≤ b.frame + body_size → Roles b (base + 4 * (callee (scope_in w b) function).locals) inside x → Stands w b inside m
      → 11 + length w.code + worth w inside.units + after ≤ limit
      → Leads (promise w) limit (at_place place x m) (Reaches w b holds_value (place + 11) base after m inside.units
      (left_with inside.locals (statements_meaning (without_memory w.s) (enter_in calls) (callee (scope_in w b) function).body (record inside { locals = locals }))))
  unfolding enter_block constant entering_words function_code body_code
  called b calls is known function below place base limit after inside x m locals has count pushed behind fits roles stands enough =
      let entry : Entry w.code w.functions w.addresses w.counts function = w.entries function below in
      let f : FunctionTree = callee (scope_in w b) function in
      let address : ℕ = slice_index w.addresses function in
      let inner : Body = callee_body base f.locals calls place b.frame in
      let starts : Now = record inside { locals = locals } in
      let parts = HasBlock-parts w.code place (entering_words f.locals address) (jump_to First ∷ add_number Calls Calls 1 ∷ []) has in
      let o : Outcome = statements_meaning (without_memory w.s) (enter_in calls) f.body starts in
      let long : place + 11 ≤ length w.code = HasBlock-inside w.code place (enter_block f.locals address) has (omega arith) in
      let code : List Instr = function_code w.functions w.addresses f in
      let size : length code ≡ length (statements_code (scope_in w inner) f.body) + suc (length (return_block f.locals)) = length-append (statements_code (scope_in w inner) f.body) (add_number Value Zero 0 ∷ return_block f.locals) in
      let there : entry.place + length code ≤ length w.code = HasBlock-inside w.code entry.place code entry.body (omega (arith, size)) in
      let body : IsBody w inner = record {
        few_locals = entry.fits.body.few_locals;
        behind = omega (arith, stands.body.behind);
        room = omega (arith, stands.body.room, is);
        inside = omega (arith, long);
      } in
      let last : place + 9 + 1 ≡ place + 10 = omega arith in
      let has_last : HasBlock w.code (place + 10) (add_number Calls Calls 1 ∷ []) = subst (λ q. HasBlock w.code q (add_number Calls Calls 1 ∷ [])) last parts.1.1 in
      let matches : Matches starts m = record {
        words = stands.matches.words;
        stores = stands.matches.stores;
        program = stands.matches.program;
        are = stands.matches.are;
        below = stands.matches.below;
      } in
      let address_is : address ≡ CODE_START + 4 * entry.place = entry.address in
      let address_small : address < 2 ^ 32 = omega (arith, w.few_words) in
      let frame_small : b.frame < 2 ^ 32 = omega (arith, stands.body.room) in
      let calls_small : suc calls < 2 ^ 32 = omega (arith, stands.body.room, is) in
      let goal : ℕ → Configuration → Type 0 = Reaches w b holds_value (place + 11) base after m inside.units (left_with inside.locals o) in
      Leads-known w limit (at_place place x m) _ (λ small are.
      Leads-block (promise w) (entering_words f.locals address) place limit x m (Entered w inner starts address m) _ stands.holds parts.0 (omega (arith, enough))
      (enters w place base f.locals calls b.frame address starts x m are body count address_small frame_small calls_small stands.holds matches pushed roles.top_is roles.frame_is roles.units_is (roles.calls_is ∙ is) roles.break_is)
      (λ left y n counted holds entered.
      let at : word_add (y 5) 0 ≡ CODE_START + 4 * entry.place = omega (arith, entered.address_is, address_small) in
      Leads-jalr (promise w) (place + 9) left y n goal holds (omega (arith, enough, counted)) 0 5 0 entry.place parts.1.0 at (omega (arith, there))
      (λ rest less.
      let z : Registers = write y 0 (CODE_START + 4 * (place + 9 + 1)) in
      let end : ℕ = entry.place + length code in
      let top : ℕ = base + 4 * f.locals + 8 in
      let depth : ℕ = statements_depth f.body in
      let runs : Runs w inner any tells_nothing depth code (λ t. returned (statements_meaning (without_memory w.s) (enter_in calls) f.body t)) =
      body-runs w inner depth (scope_in w inner) f.body (statements_meaning (without_memory w.s) (enter_in calls) f.body) refl (statements-run w inner (enter_in calls) (known inner refl) f.body entry.fits.body.numbers) in
      Leads-then (promise w) rest (at_place entry.place z n) (Reaches w inner tells_nothing end top (1 + after) n starts.units (returned o)) goal
      (runs entry.place top rest (1 + after) starts z n entry.body tt (record { behind = omega arith; fits = omega (arith, entry.fits.body.few_locals, entry.fits.body.shallow) })
      (Roles-kept inner top starts y z entered.roles (refl, refl, refl, refl, refl)) entered.stands (omega (arith, enough, counted, less, there)))
      (λ left' c reached. goes_back b base f.locals calls place after m n inside starts.units o has_last is behind (omega (arith, fits)) stands entered.below (omega arith) end top left' c reached))))

  -- Calls, with so many further ones.
  pub calls-run : (calls : ℕ) (b : Body) → b.calls ≡ calls → CallsRun w b (enter_in calls)
  unfolding call_block depth_block unit_block end_without end_with enter_block constant entering
  calls-run zero b is function values below count place base limit after now x m has pushed room roles stands enough =
      let f : FunctionTree = callee (scope_in w b) function in
      let address : ℕ = slice_index w.addresses function in
      let block : List Instr = call_block f address in
      let long : length block ≡ 4 + length (unit_block ++ (zeros (f.locals - f.parameters) ++ enter_block f.locals address)) = length-append depth_block (unit_block ++ (zeros (f.locals - f.parameters) ++ enter_block f.locals address)) in
      let inside : place + length block ≤ length w.code = HasBlock-inside w.code place block has (omega (arith, long)) in
      Leads-passed (promise w) place limit x m _ stands.holds (omega (arith, enough)) Bne 18 0 4 has.0 (omega arith) (omega (arith, long, inside)) (is_taken-none (x 18) (roles.calls_is ∙ is))
      (λ left counted. Leads-end_without w b TooDeep TOO_DEEP (place + 1) left after holds_value (place + length block) base now x m m now.units refl refl (has.1.0, (has.1.1.0, (has.1.1.1.0, tt))) stands.holds stands.matches (omega (arith, enough, counted)))
  calls-run (suc calls) b is function values below count place base limit after now x m has pushed room roles stands enough =
      let entry : Entry w.code w.functions w.addresses w.counts function = w.entries function below in
      let f : FunctionTree = callee (scope_in w b) function in
      let address : ℕ = slice_index w.addresses function in
      let others : ℕ = f.locals - f.parameters in
      let few : f.locals ≤ 16 = entry.fits.body.few_locals in
      let parameters : length values ≡ f.parameters = count ∙ sym entry.parameters in
      let all : length values + others ≡ f.locals = omega (arith, entry.fits.parameters) in
      let entering_part : List Instr = zeros others ++ enter_block f.locals address in
      let unit_part : List Instr = unit_block ++ entering_part in
      let block : List Instr = depth_block ++ unit_part in
      let parts = HasBlock-parts w.code place depth_block unit_part has in
      let unit_parts = HasBlock-parts w.code (place + 4) unit_block entering_part parts.1 in
      let zero_parts = HasBlock-parts w.code (place + 4 + 5) (zeros others) (enter_block f.locals address) unit_parts.1 in
      let size : length block ≡ 20 + 2 * others = omega (arith, length-append (zeros others) (enter_block f.locals address), zeros-length others) in
      let inside : place + length block ≤ length w.code = HasBlock-inside w.code place block has (omega (arith, size)) in
      Leads-taken (promise w) place limit x m _ stands.holds (omega (arith, enough, size)) Bne 18 0 4 has.0 (omega arith) (omega (arith, inside, size)) (is_taken-some (x 18) calls (roles.calls_is ∙ is))
      (λ left counted. Leads-unit w b holds_value (place + length block) base (base + 4 * length values) after (place + 4) left now x m m (body_meaning (without_memory w.s) (enter_in calls) f values) unit_parts.0 roles stands (omega (arith, enough, counted, size))
      (λ units rest y some same roles' less.
      let within : Now = record now { units = units } in
      let locals : List ℕ = values ++ replicate others 0 in
      let spent : worth w now.units ≡ length w.code + worth w units = ap (worth w) some ∙ worth-suc w units in
      let missing : f.locals - length values ≡ others = ap (λ k. f.locals - k) parameters in
      let behind_zeros : place + 4 + 5 + length (zeros others) ≡ place + 4 + 5 + 2 * others = ap (λ k. place + 4 + 5 + k) (zeros-length others) in
      let end : place + 4 + 5 + 2 * others + 11 ≡ place + length block = omega (arith, size) in
      let meaning : List ℕ → Outcome = λ l. left_with now.locals (statements_meaning (without_memory w.s) (enter_in calls) f.body (record within { locals = l })) in
      subst (λ k. Leads (promise w) rest (at_place (place + 4 + 5) y m) (Reaches w b holds_value (place + length block) base after m now.units (meaning (values ++ replicate k 0)))) (sym missing)
      (Leads-zeros w b others values (place + 4 + 5) base rest within y m _ zero_parts.0 pushed room.behind (omega (arith, room.fits, all, few)) roles' (Stands-units w b now units m stands) (omega (arith, enough, size, counted, less))
      (λ z n left' counted' roles'' stands'' pushed' kept.
      let count' : length locals ≡ f.locals = length-append values (replicate others 0) ∙ ap (λ k. length values + k) (length-replicate others 0) ∙ all in
      let placed : HasBlock w.code (place + 4 + 5 + 2 * others) (enter_block f.locals address) = subst (λ q. HasBlock w.code q (enter_block f.locals address)) behind_zeros zero_parts.1 in
      Leads-map (promise w) left' (at_place (place + 4 + 5 + 2 * others) z n) (Reaches w b holds_value (place + length block) base after n units (meaning locals)) (Reaches w b holds_value (place + length block) base after m now.units (meaning locals))
      (subst (λ q. Leads (promise w) left' (at_place (place + 4 + 5 + 2 * others) z n) (Reaches w b holds_value q base after n units (meaning locals))) end
      (called b calls is (calls-run calls) function below (place + 4 + 5 + 2 * others) base left' after within z n locals placed count' pushed' room.behind (omega (arith, room.fits))
      (subst (λ q. Roles b (base + 4 * q) within z) all roles'') stands'' (omega (arith, enough, size, counted, less, counted', spent))))
      (λ r e. Reaches-since w b holds_value (place + length block) base after m n now.units units (meaning locals) r e (omega (arith, room.behind)) kept (omega (arith, some)))))))
