-- What holds in the loops of the emission: the code so far and that of the rest make the whole.
use Rattle.std.proofs.Common.{◌≡◌, ℕ, ◌≤◌, List, ◌++◌}
use Rattle.sl_model.specs.declared.instr.Instr.{Instr}
use Rattle.tracer_lang.specs.Limits.{arguments_nodes, statements_nodes, FitsArguments, FitsStatements}
use Rattle.tracer_lang.specs.Tree.{Arguments, Statements}
use Rattle.tracer_compile.specs.Code.{Scope, arguments_code, statements_code}

pub record ArgumentsRemain (counts : List ℕ) (scope : Scope) (all : Arguments) (base : List Instr)
    (rest : Arguments) (code : List Instr) : Type 0 where
  pub grown : code ++ arguments_code scope rest ≡ base ++ arguments_code scope all
  pub fits : FitsArguments counts scope.locals rest
  pub nodes : arguments_nodes rest ≤ arguments_nodes all

pub record StatementsRemain (counts : List ℕ) (scope : Scope) (all : Statements)
    (base : List Instr) (rest : Statements) (code : List Instr) : Type 0 where
  pub grown : code ++ statements_code scope rest ≡ base ++ statements_code scope all
  pub fits : FitsStatements counts scope.locals rest
  pub nodes : statements_nodes rest ≤ statements_nodes all
