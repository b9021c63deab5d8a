-- What the reader keeps of a script while it reads.
use Rattle.std.specs.Prelude.{map}
use Rattle.tracer_text.specs.Nodes.{trees_of}
use Rattle.tracer_read.specs.declared.context.Signature.{Signature}
use Rattle.tracer_read.specs.declared.context.Context.{Context}
use Rattle.tracer_read.specs.Expressions.{Callee, Around}
use Rattle.tracer_read.specs.Parts.{part_count}

abbrev pub callee_of : Signature → Callee
callee_of signature =
    record { name = signature.name; parameters = part_count (trees_of signature.parameters.now) }

abbrev pub around : Context → Around
around context = record {
  text = context.text.now;
  symbols = context.symbols.now;
  callees = map callee_of context.functions.now;
}
