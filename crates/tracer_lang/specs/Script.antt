-- A script as its tree.
use Rattle.tracer_lang.specs.declared.script.Script.{Script}
use Rattle.tracer_lang.specs.Tree.{ScriptTree, script_of}

abbrev pub tree_of : Script → ScriptTree
tree_of script = script_of script.budget script.functions script.tracepoints
