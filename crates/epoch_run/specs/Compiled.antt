-- A script with the code that its tracers run as.
use Rattle.std.specs.Coded.{Coded, codes, prop_coded}
use Rattle.tracer_lang.specs.declared.script.Script.{Script}
use Rattle.tracer_lang.specs.contracts.tree.Block as block
use Rattle.tracer_lang.specs.Limits.{IsWithinLimits}
use Rattle.tracer_lang.specs.OneProof.{IsWithinLimits-prop}
use Rattle.tracer_lang.specs.Tree.{ScriptTree}
use Rattle.tracer_code.specs.declared.code.TracerCode.{TracerCode}

pub record Compiled : Type 0 where
  pub script : Script
  pub code : TracerCode

limits_code : (s : ScriptTree) → Coded (IsWithinLimits s)
limits_code s = prop_coded (IsWithinLimits-prop s)

script_code : Coded Script
script_code = Prim.hlevel (limits_code, block.the_row.coded, codes)

pub compiled_code : Coded Compiled
compiled_code = Prim.hlevel (script_code, codes)
