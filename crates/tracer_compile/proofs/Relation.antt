-- What holds of registers and memory while the code of a tracer runs, and what its parts come to.
use Rattle.std.specs.Prelude.{IsSome, IsTrue, slice_index, slice_index_or, ⊤}
use Rattle.std.specs.FinMap.{get}
use Rattle.std.proofs.Common.{◌≡◌, ℕ, ◌+◌, ◌*◌, ◌^◌, ◌<◌, ◌≤◌, List, [], ◌∷◌, length, Some, refl, arith}
use Rattle.sl_model.specs.declared.bank.TheConstants.{CODE_START, FRAMES_START, FRAMES_SIZE, LOG_START, LOG_SIZE, OUTPUT_START, OUTPUT_SIZE}
use Rattle.sl_model.specs.declared.instr.Instr.{Instr}
use Rattle.sl_model.specs.declared.layout.TheConstants.{MEMORY_END, PROGRAM_PAGES}
use Rattle.sl_model.specs.Bank.{copied_words, output_of}
use Rattle.sl_model.specs.Pages.{Pages, ArePages, byte_at, load_at}
use Rattle.sl_model.specs.Runs.{is_end}
use Rattle.sl_model.specs.State.{State}
use Rattle.sl_model.specs.Step.{step}
use Rattle.sl_model.specs.Stores.{IsElsewhere}
use Rattle.sl_model.specs.Undo.{log_count}
use Rattle.tracer_lang.specs.declared.record.TracerEnd.{TracerEnd}
use Rattle.tracer_lang.specs.Limits.{FitsFunction}
use Rattle.tracer_lang.specs.Meaning.{Now, Outcome, Goes, Returned, Ended, no_function}
use Rattle.tracer_lang.specs.Tree.{FunctionTree}
use Rattle.tracer_code.specs.Outcomes.{end_number, end_value}
use Rattle.tracer_code.specs.Runs.{IsObserved, MayStore, IsContained, EndsWell}
use Rattle.word_blocks.specs.Code.{CodeStands, HasBlock, Spells}
use Rattle.word_blocks.specs.Configuration.{Registers, Configuration, at_place, IsAt}
use Rattle.word_blocks.specs.Ways.{Promise, Leads}
use Rattle.word_blocks.proofs.Bytes.{SameBytes}
use Rattle.word_blocks.proofs.CodeLaws.{CodeStands-spelled}
use Rattle.tracer_compile.specs.Code.{function_code}

-- ---- what stays

-- the code of a function, at its address
pub record Entry (code : List Instr) (functions : List FunctionTree) (addresses : List ℕ) (counts : List ℕ) (number : ℕ) : Type 0 where
  pub place : ℕ
  pub address : slice_index addresses number ≡ CODE_START + 4 * place
  pub body : HasBlock code place (function_code functions addresses (slice_index_or functions number no_function))
  pub fits : FitsFunction counts (slice_index_or functions number no_function)
  pub parameters : (slice_index_or functions number no_function).parameters ≡ slice_index counts number

-- a program at a tracepoint, and the code that runs beside it
pub record World : Type 0 where
  pub s : State
  pub observed : IsObserved s
  pub words : List ℕ
  pub code : List Instr
  pub spells : Spells words code
  pub few_words : length code < 2 ^ 18
  pub functions : List FunctionTree
  pub addresses : List ℕ
  -- how many parameters the functions have
  pub counts : List ℕ
  pub entries : (number : ℕ) → number < length counts → Entry code functions addresses counts number

-- all bytes of an area are mapped
abbrev pub Mapped : ℕ → ℕ → Pages → Type 0
Mapped start size m = (a : ℕ) → start ≤ a → a < start + size → IsSome (byte_at m a)

-- What holds of memory at every step: it is contained, the areas are mapped, and the copied words
-- stand.
pub record Holds (w : World) (m : Pages) : Type 0 where
  pub contained : IsContained w.words w.s m
  pub frames : Mapped FRAMES_START FRAMES_SIZE m
  pub log : Mapped LOG_START LOG_SIZE m
  pub output : Mapped OUTPUT_START OUTPUT_SIZE m
  pub copies : (index : ℕ) → index < 37 → load_at m (FRAMES_START + 4 * index) 4 ≡ Some (slice_index_or (copied_words w.s) index 0)

-- how many steps so many units are worth
unfoldable pub worth : World → ℕ → ℕ
worth w units = length w.code * units

-- ---- the promise that is kept

pub Spells-length : (words : List ℕ) (code : List Instr) → Spells words code → length words ≡ length code
Spells-length [] [] spells = refl
Spells-length [] (instr ∷ rest) spells = absurd spells
Spells-length (word ∷ words) [] spells = absurd spells
Spells-length (word ∷ words) (instr ∷ rest) spells = omega (arith, Spells-length words rest spells.1)

pub code_stands : (w : World) (m : Pages) → Holds w m → CodeStands CODE_START w.code m
code_stands w m holds =
    let same : length w.words ≡ length w.code = Spells-length w.words w.code w.spells in
    let few : length w.code < 2 ^ 18 = w.few_words in
    CodeStands-spelled CODE_START w.words w.code m (omega arith) (omega arith) w.spells
    (λ k below. holds.contained.code k (omega arith))

abbrev pub promise : World → Promise
promise w = record { start = CODE_START; code = w.code; holds = Holds w; may_store = MayStore; stands = code_stands w }

-- ---- bodies

-- a body that runs, and what it returns to
pub record Body : Type 0 where
  -- the address of its first local
  pub frame : ℕ
  -- how many locals it has
  pub locals : ℕ
  -- how many further calls may be open
  pub calls : ℕ
  -- the place and the frame to which it returns
  pub place : ℕ
  pub caller : ℕ

-- the most bytes that the locals and the temporaries of a body take
abbrev pub body_size : ℕ
body_size = 4608

-- it lies behind the copied words, and its calls have room behind it
pub record IsBody (w : World) (b : Body) : Type 0 where
  pub few_locals : b.locals ≤ 16
  pub behind : FRAMES_START + 148 ≤ b.frame
  pub room : b.frame + body_size * (b.calls + 1) ≤ FRAMES_START + FRAMES_SIZE
  pub inside : b.place ≤ length w.code

-- the temporaries end at an address, and so many levels of temporaries have room behind it
pub record Room (b : Body) (top depth : ℕ) : Type 0 where
  pub behind : b.frame + 4 * b.locals + 8 ≤ top
  pub fits : top + 64 * depth ≤ b.frame + body_size

-- ---- where the code matches a tracer's meaning

-- registers
pub record Roles (b : Body) (top : ℕ) (now : Now) (x : Registers) : Type 0 where
  pub top_is : x 2 ≡ top
  pub frame_is : x 8 ≡ b.frame
  pub units_is : x 9 ≡ now.units
  pub calls_is : x 18 ≡ b.calls
  pub break_is : x 19 ≡ now.brk

-- memory outside of the frames
pub record Matches (now : Now) (m : Pages) : Type 0 where
  pub words : output_of m ≡ now.words
  pub stores : log_count m ≡ now.stores
  pub program : SameBytes 0 (MEMORY_END + 4) m now.pages
  pub are : ArePages now.pages
  pub below : (page : ℕ) → IsSome (get now.pages page) → page < PROGRAM_PAGES

-- memory, where a body runs
pub record Stands (w : World) (b : Body) (now : Now) (m : Pages) : Type 0 where
  pub holds : Holds w m
  pub body : IsBody w b
  pub matches : Matches now m
  pub count : length now.locals ≡ b.locals
  pub locals : (index : ℕ) → index < b.locals → load_at m (b.frame + 4 * index) 4 ≡ Some (slice_index now.locals index)
  pub place : load_at m (b.frame + 4 * b.locals) 4 ≡ Some (CODE_START + 4 * b.place)
  pub caller : load_at m (b.frame + (4 * b.locals + 4)) 4 ≡ Some b.caller

-- ---- what a part of the code comes to

-- the bytes of the frames that lie before an address, beside the locals, are the same
abbrev pub Kept : Body → ℕ → Pages → Pages → Type 0
Kept b top m m' = (a : ℕ) → FRAMES_START ≤ a → a < top → IsElsewhere b.frame (4 * b.locals) a → byte_at m a ≡ byte_at m' a

-- the same of all that lies before the body's frame
abbrev pub KeptBelow : Body → Pages → Pages → Type 0
KeptBelow b m m' = (a : ℕ) → FRAMES_START ≤ a → a < b.frame → byte_at m a ≡ byte_at m' a

-- it goes on to a place, with a value, and with no more units than there were
pub record Went (w : World) (b : Body) (told : ℕ → Registers → Type 0) (place top after : ℕ) (before : Pages) (most value : ℕ) (now : Now) (left : ℕ) (c : Configuration) : Type 0 where
  pub place_is : c.place ≡ place
  pub roles : Roles b top now c.registers
  pub stands : Stands w b now c.pages
  pub tells : told value c.registers
  pub kept : Kept b top before c.pages
  pub units : now.units ≤ most
  pub steps : worth w now.units + after ≤ left

-- the body is left with a value, and its caller goes on
pub record Leaves (w : World) (b : Body) (after : ℕ) (before : Pages) (most value : ℕ) (now : Now) (left : ℕ) (c : Configuration) : Type 0 where
  pub place_is : c.place ≡ b.place
  pub top_is : c.registers 2 ≡ b.frame
  pub frame_is : c.registers 8 ≡ b.caller
  pub units_is : c.registers 9 ≡ now.units
  pub calls_is : c.registers 18 ≡ b.calls
  pub break_is : c.registers 19 ≡ now.brk
  pub value_is : c.registers 10 ≡ value
  pub holds : Holds w c.pages
  pub matches : Matches now c.pages
  pub kept : KeptBelow b before c.pages
  pub units : now.units ≤ most
  pub steps : worth w now.units + after ≤ left

-- the tracer ends
pub record Ends (w : World) (end : TracerEnd) (now : Now) (c : Configuration) : Type 0 where
  pub number_told : c.registers 10 ≡ end_number end
  pub value_told : c.registers 11 ≡ end_value end
  pub words : output_of c.pages ≡ now.words
  pub stores : log_count c.pages ≡ now.stores
  pub holds : Holds w c.pages
  pub ends : (t : State) → IsAt CODE_START c t → IsTrue (is_end t) × EndsWell t (step t)

-- what the meaning says of the one becomes of the other
abbrev pub Reaches : World → Body → (ℕ → Registers → Type 0) → ℕ → ℕ → ℕ → Pages → ℕ → Outcome → ℕ → Configuration → Type 0
Reaches w b told place top after before most (Goes value now) left c = Went w b told place top after before most value now left c
Reaches w b told place top after before most (Returned value now) left c = Leaves w b after before most value now left c
Reaches w b told place top after before most (Ended end now) left c = Ends w end now c

-- ---- laws of parts

-- nothing is asked of registers
abbrev pub any : Registers → Type 0
any x = ⊤

-- x10 holds a value; and nothing is told, as after a statement
abbrev pub holds_value : ℕ → Registers → Type 0
holds_value value x = x 10 ≡ value

abbrev pub tells_nothing : ℕ → Registers → Type 0
tells_nothing value x = ⊤

-- Code does what a meaning says, wherever it stands: from a matching state with what is given it
-- comes to what the meaning comes to, with a step for each of its words beside those that units are
-- worth.
abbrev pub Runs : World → Body → (Registers → Type 0) → (ℕ → Registers → Type 0) → ℕ → List Instr → (Now → Outcome) → Type 0
Runs w b given told depth block meaning =
    (place top limit after : ℕ) (now : Now) (x : Registers) (m : Pages) → HasBlock w.code place block → given x → Room b top depth → Roles b top now x → Stands w b now m
    → length block + worth w now.units + after ≤ limit
    → Leads (promise w) limit (at_place place x m) (Reaches w b told (place + length block) top after m now.units (meaning now))
