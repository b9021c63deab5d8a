-- Areas that hold words, in memory; and what a bank is made from and starts with.
use Rattle.std.specs.List.{All}
use Rattle.std.specs.FinMap.{empty}
use Rattle.std.proofs.Common.{◌≡◌, ℕ, ◌+◌, ◌*◌, ◌%◌, ◌<◌, ◌≤◌, List, [], length, replicate, refl, ap, ◌∙◌, sym, arith}
use Rattle.sl_model.specs.declared.bank.TheConstants.{CODE_START, FRAMES_START, FRAMES_SIZE, LOG_START, LOG_SIZE, OUTPUT_START, OUTPUT_SIZE, MOST_CODE_WORDS}
use Rattle.sl_model.specs.Pages.{Pages}
use Rattle.sl_model.specs.Bank.{IsArea, code_size}
use Rattle.undo_bank.specs.Dense.{HoldsWords}
use Rattle.undo_bank.specs.Areas.{Areas, AreAreas, IsDense, bank_pages, IsMadeFrom, IsStarted}
use Rattle.undo_bank.proofs.DenseLaws.{All-zero}
use Rattle.undo_bank.proofs.AreasLaws.{IsLaid, load-laid, code-laid, frames-laid, log-laid, output-laid}
use Rattle.undo_bank.proofs.LogLaws.{IsProgram-empty}

-- an area that holds words is one of memory, and the other way round
pub IsArea-laid : (start size : ℕ) (words area : List ℕ) (pages : Pages) → IsLaid start area pages → length area ≡ size → HoldsWords words area → IsArea start size words pages
IsArea-laid start size words area pages laid long holds index below =
    let short = laid.short in
    load-laid start area pages (4 * index) 4 laid (omega arith) (omega arith) ∙ holds index (omega arith)

pub HoldsWords-laid : (start size : ℕ) (words area : List ℕ) (pages : Pages) → IsLaid start area pages → length area ≡ size → IsArea start size words pages → HoldsWords words area
HoldsWords-laid start size words area pages laid long is index below =
    let short = laid.short in
    sym (load-laid start area pages (4 * index) 4 laid (omega arith) (omega arith)) ∙ is index (omega arith)

pub IsStarted-held : (copies : List ℕ) (a : Areas) → AreAreas a → HoldsWords copies a.frames → HoldsWords [] a.log → HoldsWords [] a.output → IsStarted copies a
IsStarted-held copies a are frames log output = record {
  frames = IsArea-laid FRAMES_START FRAMES_SIZE copies a.frames (bank_pages a) (frames-laid a empty are IsProgram-empty) are.frames_size frames;
  log = IsArea-laid LOG_START LOG_SIZE [] a.log (bank_pages a) (log-laid a empty are IsProgram-empty) are.log_size log;
  output = IsArea-laid OUTPUT_START OUTPUT_SIZE [] a.output (bank_pages a) (output-laid a empty are IsProgram-empty) are.output_size output;
}

pub IsMadeFrom-held : (words : List ℕ) (a : Areas) → AreAreas a → length a.code ≡ code_size words → HoldsWords words a.code → IsMadeFrom words a
IsMadeFrom-held words a are size holds = record {
  size = size;
  code = IsArea-laid CODE_START (code_size words) words a.code (bank_pages a) (code-laid a empty are IsProgram-empty) size holds;
}

-- ---- areas of the sizes that a bank has

pub IsDense-sized : (area : List ℕ) (size : ℕ) → size % 4096 ≡ 0 → length area ≡ size → All (λ b. b < 256) area → IsDense area
IsDense-sized area size whole long bytes = record { whole = ap (λ n. n % 4096) long ∙ whole; bytes = bytes }

-- the size of the code, by the least multiple of a page's bytes that is not below its own
pub code_size-multiple : (words : List ℕ) (size : ℕ) → 4 * length words ≤ size → size < 4 * length words + 4096 → size % 4096 ≡ 0 → size ≡ code_size words
code_size-multiple words size lower upper multiple = omega arith

-- areas of a bank that was just made
pub AreAreas-made : (code frames log output : List ℕ) → length code % 4096 ≡ 0 → length code ≤ 4 * MOST_CODE_WORDS → All (λ b. b < 256) code
    → length frames ≡ FRAMES_SIZE → frames ≡ replicate (length frames) 0 → length log ≡ LOG_SIZE → log ≡ replicate (length log) 0 → length output ≡ OUTPUT_SIZE → output ≡ replicate (length output) 0
    → AreAreas (record { code = code; frames = frames; log = log; output = output; last_log_len = 0 })
AreAreas-made code frames log output whole size bytes frames_size frames_zero log_size log_zero output_size output_zero = record {
  code = record { whole = whole; bytes = bytes };
  frames = IsDense-sized frames FRAMES_SIZE refl frames_size (All-zero frames frames_zero);
  log = IsDense-sized log LOG_SIZE refl log_size (All-zero log log_zero);
  output = IsDense-sized output OUTPUT_SIZE refl output_size (All-zero output output_zero);
  code_size = size;
  frames_size = frames_size;
  log_size = log_size;
  output_size = output_size;
}
