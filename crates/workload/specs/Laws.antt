-- That every program which is generated assembles, and that its script is read.
use Rattle.std.specs.Prelude.{◌≡◌, ℕ, ◌^◌, ◌<◌, ◌≤◌, [], ◌∷◌, codes, Some, Ok}
use Rattle.elf_image.specs.declared.image.Image.{Image}
use Rattle.rv_asm.specs.Assembly.{assembly}
use Rattle.tracer_lang.specs.declared.tree.Point.TheVariants.{Enter}
use Rattle.tracer_lang.specs.Tree.{register, emit, no_statements, statement, ScriptTree}
use Rattle.tracer_read.specs.Parts.{symbol_value}
use Rattle.tracer_read.specs.Scripts.{script_of_text}
use Rattle.workload.specs.Source.{SCRIPT, source_text}

-- the script with one tracer, at an address, which emits t2 (x7)
abbrev pub sums_at : ℕ → ScriptTree
sums_at address = record {
  budget = 1000000;
  functions = [];
  tracepoints = record {
    point = Enter address;
    locals = 0;
    body = statement (emit (register 7)) no_statements;
  } ∷ [];
}

-- The source has an image, and the image a symbol `mark`, at which the script's tracer fires.
pub record Assembles (seed size : ℕ) : Type 0 where
  pub image : Image
  pub address : ℕ
  pub assembled : assembly (source_text seed size) ≡ Ok image
  pub marked : symbol_value image.symbols (codes "mark") ≡ Some address
  pub script : script_of_text SCRIPT image.symbols ≡ Ok (sums_at address)

-- so it is for every seed and number of turns
abbrev pub EveryProgramAssembles : Type 0
EveryProgramAssembles =
    (seed size : ℕ) → seed < 2 ^ 32 → 1 ≤ size → size ≤ 1000000 → Assembles seed size
