-- Laws of what is read, in the subject's own words.
use Rattle.std.specs.Prelude.{◌≡◌, ℕ, ◌+◌, List, length, is_some, All, Ok, IfOk, MatchResult, if◌then◌else◌}
use Rattle.sl_base.specs.declared.symbol.Symbol.{Symbol}
use Rattle.tracer_lang.specs.Tree.{Statements, no_statements, statement, ScriptTree}
use Rattle.tracer_text.specs.declared.token.Token.{Token}
use Rattle.tracer_text.specs.FirstPass.{first_pass}
use Rattle.tracer_text.specs.Nodes.{Trees}
use Rattle.tracer_read.specs.Parts.{part_count}
use Rattle.tracer_read.specs.Expressions.{Around}
use Rattle.tracer_read.specs.Statements.{in_order, steps_of}
use Rattle.tracer_read.specs.Scripts.{Draft, items, nothing, script_of_text}
use Rattle.tracer_read.specs.GrammarScripts.{IsSpelling}
use Rattle.tracer_read.specs.Findings.{IsClean, IsFirstFault}
use Rattle.tracer_read.specs.FindingsScripts.{script_nodes}

abbrev pub statement_count : Statements → ℕ
statement_count no_statements = 0
statement_count (statement first rest) = 1 + statement_count rest

-- a body has a statement for each of its lists
abbrev pub EachStatementStays : Type 0
EachStatementStays =
    (around : Around) (trees : Trees) (locals : List Token)
    → IfOk (in_order (steps_of around trees) locals)
    (λ read. statement_count read.0 ≡ part_count trees)

-- how many lists of the top level are read
abbrev pub list_count : Draft → ℕ
list_count draft =
    length draft.functions + length draft.tracepoints + (if is_some draft.budget then 1 else 0)

-- a script has a function, a tracepoint or the budget for each of its lists
abbrev pub EachListStays : Type 0
EachListStays =
    (around : Around) (trees : Trees)
    → IfOk (items around trees nothing) (λ draft. list_count draft ≡ part_count trees)

-- what a text is read as, it spells
abbrev pub SpellsWhatIsRead : Type 0
SpellsWhatIsRead =
    (text : List ℕ) (symbols : List Symbol) (script : ScriptTree)
    → script_of_text text symbols ≡ Ok script → IsSpelling text symbols script

-- a text is read as the script that it spells
abbrev pub ReadsWhatIsSpelled : Type 0
ReadsWhatIsSpelled =
    (text : List ℕ) (symbols : List Symbol) (script : ScriptTree)
    → IsSpelling text symbols script → script_of_text text symbols ≡ Ok script

-- no text spells two scripts
abbrev pub OneReading : Type 0
OneReading =
    (text : List ℕ) (symbols : List Symbol) (script other : ScriptTree)
    → IsSpelling text symbols script → IsSpelling text symbols other → script ≡ other

-- A text whose tokens pass the first pass is read exactly where no node has a fault. Else it is
-- refused with the fault of the first node that has one, and of its causes with the first.
abbrev pub FirstFaultIsTold : Type 0
FirstFaultIsTold =
    (text : List ℕ) (symbols : List Symbol) (tokens : List Token)
    → first_pass text ≡ Ok tokens
    → MatchResult (script_of_text text symbols)
    (λ script. All IsClean (script_nodes text symbols tokens))
    (λ fault. IsFirstFault (script_nodes text symbols tokens) fault)
