-- What stores into the frames leave: the promise, what matches the meaning, and the body's own words.
use Rattle.std.specs.Prelude.{Option, IsSome, is_some, unwrap_or, slice_index}
use Rattle.std.specs.Option.{option_and_then, option_map}
use Rattle.std.proofs.Common.{◌≡◌, ℕ, zero, suc, ◌+◌, ◌*◌, ◌^◌, ◌<◌, ◌≤◌, inl, inr, Some, None, true, length, refl, ap, ◌∙◌, sym, arith}
use Rattle.sl_model.specs.declared.bank.TheConstants.{CODE_START, FRAMES_START, FRAMES_SIZE, LOG_START, LOG_SIZE, OUTPUT_START, OUTPUT_SIZE}
use Rattle.sl_model.specs.declared.layout.TheConstants.{MEMORY_END}
use Rattle.sl_model.specs.Bank.{code_size, words_at, output_count}
use Rattle.sl_model.specs.Pages.{Pages, ArePages, byte_at, bytes_at, load_at}
use Rattle.sl_model.specs.Stores.{IsStored}
use Rattle.sl_model.specs.Undo.{word_at, log_count}
use Rattle.sl_model.proofs.PagesLaws.{load_at-suc}
use Rattle.tracer_lang.specs.Meaning.{Now}
use Rattle.tracer_code.specs.Runs.{IsContained}
use Rattle.word_blocks.proofs.Bytes.{SameBytes, SameBytes-part, SameBytes-stored, load_at-same, load_at-elsewhere, SameMapped, SameMapped-stored}
use Rattle.word_blocks.proofs.PuttingBack.{undone-elsewhere}
use Rattle.tracer_compile.proofs.Relation.{Spells-length, World, Mapped, Holds, Body, IsBody, Room, Matches, Stands, Kept}

-- ---- mapped bytes

both : (b r : Option ℕ) → is_some b ≡ true → is_some r ≡ true → is_some (option_and_then (λ x. option_map (λ n. x + 256 * n) r) b) ≡ true
both None r first rest = absurd cc
both (Some b) None first rest = absurd cc
both (Some b) (Some r) first rest = refl

-- bytes that are mapped can be loaded
pub load_at-mapped : (m : Pages) (address width : ℕ) → Mapped address width m → IsSome (load_at m address width)
unfolding load_at bytes_at
load_at-mapped m address zero mapped = refl
load_at-mapped m address (suc width) mapped =
    ap is_some (load_at-suc m address width)
    ∙ both (byte_at m address) (load_at m (address + 1) width) (mapped address (omega arith) (omega arith)) (load_at-mapped m (address + 1) width (λ a from before. mapped a (omega arith) (omega arith)))

pub Mapped-same : (start size : ℕ) (m m' : Pages) → SameMapped m m' → Mapped start size m → Mapped start size m'
Mapped-same start size m m' same mapped a from before = sym (same a) ∙ mapped a from before

-- ---- words

pub word_at-same : (m m' : Pages) (address : ℕ) → SameBytes address 4 m m' → word_at m' address ≡ word_at m address
word_at-same m m' address same = rw (load_at-same m m' address 4 same) refl

pub words_at-same : (m m' : Pages) (address count : ℕ) → SameBytes address (4 * count) m m' → words_at m' address count ≡ words_at m address count
unfolding words_at
words_at-same m m' address zero same = refl
words_at-same m m' address (suc count) same =
    let first : word_at m' address ≡ word_at m address = word_at-same m m' address (SameBytes-part address (4 * suc count) address 4 m m' same (omega arith) (omega arith)) in
    let rest : words_at m' (address + 4) count ≡ words_at m (address + 4) count = words_at-same m m' (address + 4) count (SameBytes-part address (4 * suc count) (address + 4) (4 * count) m m' same (omega arith) (omega arith)) in
    rw (first, rest) refl

-- ---- a store that lies in the frames behind the copied words, or in the output, or in the log

-- what a store leaves of the promise, where it is beside the program, the code and the copied words
pub Holds-stored : (w : World) (at width value : ℕ) (m m' : Pages) → ArePages m → ArePages m' → IsStored at width value m m' → FRAMES_START + 148 ≤ at → Holds w m → IsContained w.words w.s m' → Holds w m'
Holds-stored w at width value m m' are are' is behind holds contained =
    let same : SameMapped m m' = SameMapped-stored at width value m m' are are' is in
    record {
      contained = contained;
      frames = Mapped-same FRAMES_START FRAMES_SIZE m m' same holds.frames;
      log = Mapped-same LOG_START LOG_SIZE m m' same holds.log;
      output = Mapped-same OUTPUT_START OUTPUT_SIZE m m' same holds.output;
      copies = λ index below. load_at-elsewhere (FRAMES_START + 4 * index) 4 at width value m m' is (inl (omega arith)) ∙ holds.copies index below;
    }

-- what a store into the frames leaves
pub record Beside (w : World) (m m' : Pages) : Type 0 where
  pub holds : Holds w m'
  pub matches : (now : Now) → Matches now m → Matches now m'

pub code_size_fits : (w : World) → code_size w.words ≤ 2 ^ 20 + 4096
code_size_fits w =
    let same : length w.words ≡ length w.code = Spells-length w.words w.code w.spells in
    omega (arith, w.few_words)

pub Beside-frames : (w : World) (at width value : ℕ) (m m' : Pages) → ArePages m → ArePages m' → IsStored at width value m m' → FRAMES_START + 148 ≤ at → at + width ≤ FRAMES_START + FRAMES_SIZE → Holds w m → Beside w m m'
Beside-frames w at width value m m' are are' is behind within holds =
    let logs = undone-elsewhere at width value m m' are are' is (omega arith) (inr (omega arith)) in
    let count : output_count m' ≡ output_count m = word_at-same m m' OUTPUT_START (SameBytes-stored OUTPUT_START 4 at width value m m' is (inr (omega arith))) in
    let stores : log_count m' ≡ log_count m = word_at-same m m' LOG_START (SameBytes-stored LOG_START 4 at width value m m' is (inr (omega arith))) in
    let small : code_size w.words ≤ 2 ^ 20 + 4096 = code_size_fits w in
    let contained : IsContained w.words w.s m' = record {
      undone = λ page below. logs.1 page below ∙ holds.contained.undone page below;
      few_entries = rw stores holds.contained.few_entries;
      few_words = rw count holds.contained.few_words;
      code = λ index below. load_at-elsewhere (CODE_START + 4 * index) 4 at width value m m' is (inl (omega arith)) ∙ holds.contained.code index below;
    } in
    record {
      holds = Holds-stored w at width value m m' are are' is behind holds contained;
      matches = λ now matches. record {
        words = rw count (words_at-same m m' (OUTPUT_START + 4) (output_count m) (SameBytes-stored (OUTPUT_START + 4) (4 * output_count m) at width value m m' is (inr (omega arith)))) ∙ matches.words;
        stores = stores ∙ matches.stores;
        program = λ a from before. sym (SameBytes-stored 0 (MEMORY_END + 4) at width value m m' is (inl (omega arith)) a from before) ∙ matches.program a from before;
        are = matches.are;
        below = matches.below;
      };
    }

-- ---- the words of a body

-- A store behind the words that a body needs leaves it.
pub Stands-stored : (w : World) (b : Body) (now : Now) (at value : ℕ) (m m' : Pages) → ArePages m → ArePages m' → IsStored at 4 value m m' → b.frame + 4 * b.locals + 8 ≤ at → at + 4 ≤ FRAMES_START + FRAMES_SIZE → Stands w b now m → Stands w b now m'
Stands-stored w b now at value m m' are are' is behind within stands =
    let beside : Beside w m m' = Beside-frames w at 4 value m m' are are' is (omega (arith, stands.body.behind)) within stands.holds in
    record {
      holds = beside.holds;
      body = stands.body;
      matches = beside.matches now stands.matches;
      count = stands.count;
      locals = λ index below. load_at-elsewhere (b.frame + 4 * index) 4 at 4 value m m' is (inl (omega arith)) ∙ stands.locals index below;
      place = load_at-elsewhere (b.frame + 4 * b.locals) 4 at 4 value m m' is (inl (omega arith)) ∙ stands.place;
      caller = load_at-elsewhere (b.frame + (4 * b.locals + 4)) 4 at 4 value m m' is (inl (omega arith)) ∙ stands.caller;
    }

-- a store behind all temporaries keeps what lies before them
pub Kept-stored : (b : Body) (top at width value : ℕ) (m m' : Pages) → IsStored at width value m m' → top ≤ at → Kept b top m m'
Kept-stored b top at width value m m' is behind a from before apart = sym (is.elsewhere a (inl (omega arith)))

pub Kept-none : (b : Body) (top : ℕ) (m : Pages) → Kept b top m m
Kept-none b top m a from before apart = refl

-- ---- stores outside of the frames

-- where the bytes of the frames up to a body's temporaries are the same, its words are
pub Stands-below : (w : World) (b : Body) (now next : Now) (end : ℕ) (m m' : Pages) → ((a : ℕ) → FRAMES_START ≤ a → a < end → byte_at m a ≡ byte_at m' a) → b.frame + 4 * b.locals + 8 ≤ end → next.locals ≡ now.locals → Holds w m' → Matches next m' → Stands w b now m → Stands w b next m'
Stands-below w b now next end m m' same reaches locals holds matches stands =
    let few : b.locals ≤ 16 = stands.body.few_locals in
    let behind : FRAMES_START + 148 ≤ b.frame = stands.body.behind in
    let word : (at : ℕ) → FRAMES_START ≤ at → at + 4 ≤ end → load_at m' at 4 ≡ load_at m at 4 =
    λ at from within. sym (load_at-same m m' at 4 (λ a after before. same a (omega arith) (omega arith))) in
    record {
      holds = holds;
      body = stands.body;
      matches = matches;
      count = ap length locals ∙ stands.count;
      locals = λ index below. word (b.frame + 4 * index) (omega arith) (omega arith) ∙ stands.locals index below ∙ ap (λ l. Some (slice_index l index)) (sym locals);
      place = word (b.frame + 4 * b.locals) (omega arith) (omega arith) ∙ stands.place;
      caller = word (b.frame + (4 * b.locals + 4)) (omega arith) (omega arith) ∙ stands.caller;
    }

-- where all the frames' bytes are
pub Stands-beside : (w : World) (b : Body) (now next : Now) (m m' : Pages) → SameBytes FRAMES_START FRAMES_SIZE m m' → next.locals ≡ now.locals → Holds w m' → Matches next m' → Stands w b now m → Stands w b next m'
Stands-beside w b now next m m' same locals holds matches stands =
    Stands-below w b now next (FRAMES_START + FRAMES_SIZE) m m' same (omega (arith, stands.body.few_locals, stands.body.room)) locals holds matches stands

-- they keep all that lies in the frames
pub Kept-frames : (w : World) (b : Body) (top depth : ℕ) (m m' : Pages) → IsBody w b → Room b top depth → SameBytes FRAMES_START FRAMES_SIZE m m' → Kept b top m m'
Kept-frames w b top depth m m' body room same a from before apart = same a from (omega (arith, body.room, room.fits))

-- the word at an address of mapped bytes
pub load_at-word_at : (m : Pages) (address : ℕ) → Mapped address 4 m → load_at m address 4 ≡ Some (word_at m address)
load_at-word_at m address mapped = of (load_at m address 4) refl (load_at-mapped m address 4 mapped)
  where
    of : (o : Option ℕ) → load_at m address 4 ≡ o → is_some o ≡ true → load_at m address 4 ≡ Some (word_at m address)
    of None found some = absurd cc
    of (Some n) found some = found ∙ ap Some (sym (ap (λ o. unwrap_or o 0) found))
