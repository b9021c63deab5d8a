-- Laws of parts of the code, one after the other.
use Rattle.std.specs.Prelude.{slice_index}
use Rattle.std.specs.List.{AllByRecursion}
use Rattle.std.proofs.Common.{◌≡◌, ℕ, zero, suc, ◌+◌, ◌^◌, ◌<◌, ◌≤◌, inl, List, [], ◌∷◌, ◌++◌, length, ◌∙◌, sym, subst, arith, length-append}
use Rattle.std.proofs.lemmas.Option.{slice_get_within}
use Rattle.sl_model.specs.declared.instr.Instr.{Instr}
use Rattle.sl_model.specs.Pages.{Pages, ArePages}
use Rattle.sl_model.specs.Words.{IsWord}
use Rattle.tracer_lang.specs.Meaning.{Now, Outcome, Goes, Returned, Ended, then_do}
use Rattle.word_blocks.specs.Code.{HasBlock}
use Rattle.word_blocks.specs.Configuration.{Registers, Configuration, at_place, read}
use Rattle.word_blocks.specs.Ways.{Leads}
use Rattle.word_blocks.proofs.Blocks.{Does, Leads-block}
use Rattle.word_blocks.proofs.CodeLaws.{HasBlock-parts, HasBlock-within}
use Rattle.word_blocks.proofs.Ways.{Leads-stay, Leads-then, Leads-map}
use Rattle.tracer_compile.proofs.Relation.{World, Holds, worth, promise, Body, Roles, Stands, Kept, Reaches, Runs}

-- ---- units

pub worth-suc : (w : World) (units : ℕ) → worth w (suc units) ≡ length w.code + worth w units
unfolding worth
worth-suc w units = grind arith

-- ---- registers

-- writes of other registers
pub Roles-kept : (b : Body) (top : ℕ) (now : Now) (x y : Registers) → Roles b top now x → (y 2 ≡ x 2) × (y 8 ≡ x 8) × (y 9 ≡ x 9) × (y 18 ≡ x 18) × (y 19 ≡ x 19) → Roles b top now y
Roles-kept b top now x y roles same = record {
  top_is = same.0 ∙ roles.top_is;
  frame_is = same.1 ∙ roles.frame_is;
  units_is = same.2 ∙ roles.units_is;
  calls_is = same.3 ∙ roles.calls_is;
  break_is = same.4 ∙ roles.break_is;
}

-- ---- what is known at each configuration

word_here : (xs : List ℕ) (r : ℕ) → AllByRecursion IsWord xs → slice_index xs r < 2 ^ 32
word_here [] r words = omega arith
word_here (first ∷ rest) zero words = words.0
word_here (first ∷ rest) (suc r) words = word_here rest r words.1

module _ (w : World) where
  -- registers are words, and memory has whole pages
  pub Leads-known : (limit : ℕ) (c : Configuration) (goal : ℕ → Configuration → Type 0)
      → (((r : ℕ) → read c.registers r < 2 ^ 32) → ArePages c.pages → Leads (promise w) limit c goal) → Leads (promise w) limit c goal
  Leads-known limit c goal way t is =
      way (λ r. subst (λ n. n < 2 ^ 32) (is.registers r) (word_here t.x r is.words)) is.bytes t is

  module _ (b : Body) where
    pub Kept-then : (top : ℕ) (m n o : Pages) → Kept b top m n → Kept b top n o → Kept b top m o
    Kept-then top m n o first second a from before apart = first a from before apart ∙ second a from before apart

    -- what is reached from a memory is reached from one before it
    pub Reaches-since : (told : ℕ → Registers → Type 0) (place top after : ℕ) (m n : Pages) (most fewer : ℕ) (outcome : Outcome) (left : ℕ) (c : Configuration) → b.frame ≤ top → Kept b top m n → fewer ≤ most
        → Reaches w b told place top after n fewer outcome left c → Reaches w b told place top after m most outcome left c
    Reaches-since told place top after m n most fewer (Goes value now) left c high kept less went = record {
      place_is = went.place_is;
      roles = went.roles;
      stands = went.stands;
      tells = went.tells;
      kept = Kept-then top m n c.pages kept went.kept;
      units = omega (arith, went.units);
      steps = went.steps;
    }
    Reaches-since told place top after m n most fewer (Returned value now) left c high kept less leaves = record {
      place_is = leaves.place_is;
      top_is = leaves.top_is;
      frame_is = leaves.frame_is;
      units_is = leaves.units_is;
      calls_is = leaves.calls_is;
      break_is = leaves.break_is;
      value_is = leaves.value_is;
      holds = leaves.holds;
      matches = leaves.matches;
      kept = λ a from before. kept a from (omega arith) (inl before) ∙ leaves.kept a from before;
      units = omega (arith, leaves.units);
      steps = leaves.steps;
    }
    Reaches-since told place top after m n most fewer (Ended end now) left c high kept less ends = ends

    -- A way to what an outcome comes to, and on from where it goes on.
    pub Leads-next : (told' told : ℕ → Registers → Type 0) (middle place high top between after limit : ℕ) (m : Pages) (most : ℕ) (c : Configuration) (outcome : Outcome) (follow : ℕ → Now → Outcome)
        → b.frame ≤ top → top ≤ high → after ≤ between → Leads (promise w) limit c (Reaches w b told' middle high between m most outcome)
        → ((value : ℕ) (now : Now) (left : ℕ) (x : Registers) (n : Pages) → told' value x → Roles b high now x → Stands w b now n → Kept b high m n → now.units ≤ most → worth w now.units + between ≤ left
        → Leads (promise w) left (at_place middle x n) (Reaches w b told place top after n now.units (follow value now)))
        → Leads (promise w) limit c (Reaches w b told place top after m most (then_do outcome follow))
    Leads-next told' told middle place high top between after limit m most c outcome follow above higher later first second =
        Leads-then (promise w) limit c (Reaches w b told' middle high between m most outcome) (Reaches w b told place top after m most (then_do outcome follow)) first (further outcome)
      where
        further : (o : Outcome) (left : ℕ) (d : Configuration) → Reaches w b told' middle high between m most o left d → Leads (promise w) left d (Reaches w b told place top after m most (then_do o follow))
        further (Goes value now) left d went =
            Leads-map (promise w) left d (Reaches w b told place top after d.pages now.units (follow value now)) (Reaches w b told place top after m most (follow value now))
            (subst (λ q. Leads (promise w) left (at_place q d.registers d.pages) (Reaches w b told place top after d.pages now.units (follow value now))) (sym went.place_is)
            (second value now left d.registers d.pages went.tells went.roles went.stands went.kept went.units went.steps))
            (λ rest e. Reaches-since told place top after m d.pages most now.units (follow value now) rest e above (λ a from before apart. went.kept a from (omega arith) apart) went.units)
        further (Returned value now) left d leaves = Leads-stay (promise w) left d _ (record {
          place_is = leaves.place_is;
          top_is = leaves.top_is;
          frame_is = leaves.frame_is;
          units_is = leaves.units_is;
          calls_is = leaves.calls_is;
          break_is = leaves.break_is;
          value_is = leaves.value_is;
          holds = leaves.holds;
          matches = leaves.matches;
          kept = leaves.kept;
          units = leaves.units;
          steps = omega (arith, leaves.steps, later);
        })
        further (Ended end now) left d ends = Leads-stay (promise w) left d _ ends

    -- a part after another
    pub Runs-then : (given : Registers → Type 0) (told' told : ℕ → Registers → Type 0) (depth : ℕ) (first second : List Instr) (f : Now → Outcome) (g : ℕ → Now → Outcome)
        → Runs w b given told' depth first f → ((value : ℕ) → Runs w b (told' value) told depth second (g value)) → Runs w b given told depth (first ++ second) (λ now. then_do (f now) g)
    Runs-then given told' told depth first second f g one other place top limit after now x m has is_given room roles stands enough =
        let parts = HasBlock-parts w.code place first second has in
        let lengths : length (first ++ second) ≡ length first + length second = length-append first second in
        let end : place + length first + length second ≡ place + length (first ++ second) = omega (arith, lengths) in
        Leads-next told' told (place + length first) (place + length (first ++ second)) top top (length second + after) after limit m now.units (at_place place x m) (f now) g (omega (arith, room.behind)) (omega arith) (omega arith)
        (one place top limit (length second + after) now x m parts.0 is_given room roles stands (omega (arith, lengths, enough)))
        (λ value then left y n tells roles' stands' kept less steps.
        subst (λ q. Leads (promise w) left (at_place (place + length first) y n) (Reaches w b told q top after n then.units (g value then))) end
        (other value (place + length first) top left after then y n parts.1 tells room roles' stands' (omega (arith, steps))))

    -- a part that needs fewer levels of temporaries
    pub Runs-within : (given : Registers → Type 0) (told : ℕ → Registers → Type 0) (depth deeper : ℕ) (block : List Instr) (f : Now → Outcome) → depth ≤ deeper
        → Runs w b given told depth block f → Runs w b given told deeper block f
    Runs-within given told depth deeper block f less runs place top limit after now x m has is_given room =
        runs place top limit after now x m has is_given (record { behind = room.behind; fits = omega (arith, room.fits) })

    -- a block of instructions that go straight on
    pub Leads-straight : (told : ℕ → Registers → Type 0) (block : List Instr) (place end top after value limit : ℕ) (x : Registers) (m before : Pages) (most : ℕ) (next : Now) → next.units ≤ most → Holds w m → HasBlock w.code place block → place + length block ≡ end
        → length block + worth w next.units + after ≤ limit
        → Does (promise w) place block x m (λ y n. Roles b top next y × Stands w b next n × told value y × Kept b top before n)
        → Leads (promise w) limit (at_place place x m) (Reaches w b told end top after before most (Goes value next))
    Leads-straight told block place end top after value limit x m before most next less holds has there enough does =
        Leads-block (promise w) block place limit x m (λ y n. Roles b top next y × Stands w b next n × told value y × Kept b top before n) _ holds has (omega (arith, enough)) does
        (λ left y n counted holds reached. Leads-stay (promise w) left (at_place (place + length block) y n) _
        (record {
          place_is = there;
          roles = reached.0;
          stands = reached.1;
          tells = reached.2;
          kept = reached.3;
          units = less;
          steps = omega (arith, enough, counted);
        }))

-- a block that is not empty lies within the code
pub HasBlock-inside : (code : List Instr) (place : ℕ) (block : List Instr) → HasBlock code place block → 0 < length block → place + length block ≤ length code
HasBlock-inside code place [] has some = absurd (omega arith)
HasBlock-inside code place (first ∷ rest) has some =
    HasBlock-within code place (first ∷ rest) has (omega (arith, slice_get_within code place first has.0))
