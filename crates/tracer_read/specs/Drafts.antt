-- What the reader keeps of the top level.
use Rattle.std.specs.Prelude.{map}
use Rattle.tracer_lang.specs.Tree.{function_of, tracepoint_of}
use Rattle.tracer_read.specs.declared.draft.Draft.{Draft as Kept}
use Rattle.tracer_read.specs.Scripts.{Draft}

abbrev pub draft_of : Kept → Draft
draft_of kept = record {
  budget = kept.budget;
  names = kept.names.items;
  functions = map function_of kept.functions;
  tracepoints = map tracepoint_of kept.tracepoints;
}
