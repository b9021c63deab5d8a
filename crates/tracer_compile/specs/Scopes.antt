-- The scope of the code as that of the definitions.
use Rattle.std.specs.Prelude.{ℕ, List, map}
use Rattle.tracer_lang.specs.Tree.{FunctionTree, function_of}
use Rattle.tracer_compile.specs.declared.scope.Scope.{Scope as CodeScope}
use Rattle.tracer_compile.specs.Code.{Scope}

abbrev pub scope_of : CodeScope → Scope
scope_of s = record {
  functions = map function_of s.functions.now;
  addresses = s.addresses.now;
  locals = s.locals;
}

-- how many parameters each function has
abbrev pub counts_of : CodeScope → List ℕ
counts_of s = map (λ (f : FunctionTree). f.parameters) (scope_of s).functions
