-- The function that is called, step by step.
use Rattle.std.proofs.Common.{◌≡◌, ◌==◌, ℕ, not, Some, None, Result, Ok, Err, ap, ◌∙◌, slice_index}
use Rattle.tracer_text.specs.declared.fault.ScriptCause.TheVariants as causes
use Rattle.tracer_text.specs.declared.fault.ScriptFault.{ScriptFault}
use Rattle.tracer_text.specs.declared.token.Token.{Token}
use Rattle.tracer_text.specs.FirstPass.{fault}
use Rattle.tracer_text.specs.Nodes.{Tree, Trees, tree}
use Rattle.tracer_read.specs.Parts.{◌>>=◌, or_fault, unless, word_of, name_index, part_count}
use Rattle.tracer_read.specs.Expressions.{Around, called, callee_names, parameter_counts}

-- what is done with a name, and with its number
abbrev from_name : Around → ℕ → Trees → Token → Result ℕ ScriptFault
from_name around place arguments token =
    or_fault token.place causes.NameUnknown (name_index around.text
    (callee_names around.callees) token) >>= λ index.
    unless (not (part_count arguments == slice_index (parameter_counts around.callees) index)) place
    causes.Arity (Ok index)

from_word : (around : Around) (place : ℕ) (f : Tree) (arguments : Trees) (token : Token)
    → word_of around.text f ≡ Ok token → called around place
    (tree f arguments) ≡ from_name around place arguments token
from_word around place f arguments token is = ap (λ r. r >>= from_name around place arguments) is

pub called_unknown : (around : Around) (place : ℕ) (f : Tree) (arguments : Trees) (token : Token)
    → word_of around.text f ≡ Ok token
    → name_index around.text (callee_names around.callees) token ≡ None
    → called around place (tree f arguments) ≡ Err (fault token.place causes.NameUnknown)
called_unknown around place f arguments token is none =
    from_word around place f arguments token is
    ∙ ap (λ o. or_fault token.place causes.NameUnknown o >>= λ index.
    unless (not (part_count arguments == slice_index (parameter_counts around.callees) index)) place
    causes.Arity (Ok index)) none

pub called_known : (around : Around) (place : ℕ) (f : Tree) (arguments : Trees) (token : Token)
    (index parameters : ℕ)
    → word_of around.text f ≡ Ok token
    → name_index around.text (callee_names around.callees) token ≡ Some index
    → slice_index (parameter_counts around.callees) index ≡ parameters
    → called around place (tree f arguments) ≡ unless
    (not (part_count arguments == parameters)) place causes.Arity (Ok index)
called_known around place f arguments token index parameters is some counts =
    from_word around place f arguments token is
    ∙ ap (λ o. or_fault token.place causes.NameUnknown o >>= λ index.
    unless (not (part_count arguments == slice_index (parameter_counts around.callees) index)) place
    causes.Arity (Ok index)) some
    ∙ ap (λ n. unless (not (part_count arguments == n)) place causes.Arity (Ok index)) counts
