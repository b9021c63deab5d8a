-- Lists in front of arguments and statements.
use Rattle.std.specs.Prelude.{List, [], ◌∷◌}
use Rattle.tracer_lang.specs.Tree.{Expression, Arguments, argument, Statement, Statements, statement}

-- some expressions in front of arguments
abbrev pub arguments_before : List Expression → Arguments → Arguments
arguments_before [] rest = rest
arguments_before (e ∷ es) rest = argument e (arguments_before es rest)

-- some statements in front of others
abbrev pub statements_before : List Statement → Statements → Statements
statements_before [] rest = rest
statements_before (s ∷ ss) rest = statement s (statements_before ss rest)
