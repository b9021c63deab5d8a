-- Both passes, one after the other.
use Rattle.std.proofs.Common.{◌≡◌, List, ℕ, Result, Ok, IfOk, sym, ap, subst, ◌∙◌}
use Rattle.sl_base.specs.declared.refused.Refused.{Refused}
use Rattle.sl_base.specs.declared.symbol.Symbol.{Symbol}
use Rattle.sl_base.specs.Refusals.{Fails}
use Rattle.tracer_text.specs.declared.fault.ScriptFault.{ScriptFault}
use Rattle.tracer_text.specs.declared.token.Token.{Token}
use Rattle.tracer_text.specs.FirstPass.{first_pass}
use Rattle.tracer_text.specs.Nodes.{Trees, nodes_from}
use Rattle.tracer_lang.specs.Limits.{IsWithinLimits}
use Rattle.tracer_read.specs.Parts.{◌>>=◌}
use Rattle.tracer_read.specs.Scripts.{Draft, items, nothing, surroundings, script_from, second_pass, script_of_text}
use Rattle.tracer_read.proofs.Refusals.{Fails-bind}
use Rattle.tracer_read.proofs.Accepted.{Small, first_pass-small}
use Rattle.tracer_read.proofs.SoundScripts.{draft-within}

pub refused_first : (text : List ℕ) (symbols : List Symbol) (e : Refused ScriptFault)
    → Fails e (first_pass text) → Fails e (script_of_text text symbols)
unfolding script_of_text
refused_first text symbols e h = Fails-bind e (first_pass text)
    (λ tokens. second_pass text symbols (nodes_from text tokens).inside) h

-- the second pass is over the nodes of what the first accepts
both_passes : (text : List ℕ) (symbols : List Symbol) (tokens : List Token) (trees : Trees)
    → first_pass text ≡ Ok tokens → trees ≡ (nodes_from text tokens).inside
    → script_of_text text symbols ≡ second_pass text symbols trees
unfolding script_of_text
both_passes text symbols tokens trees passed nodes =
    ap (λ r. r >>= λ tokens. second_pass text symbols (nodes_from text tokens).inside) passed
    ∙ ap (second_pass text symbols) (sym nodes)

pub refused_second : (text : List ℕ) (symbols : List Symbol) (tokens : List Token) (trees : Trees)
    (e : Refused ScriptFault)
    → first_pass text ≡ Ok tokens → trees ≡ (nodes_from text tokens).inside
    → Fails e (items (surroundings text symbols trees) trees nothing)
    → Fails e (script_of_text text symbols)
refused_second text symbols tokens trees e passed nodes h =
    subst (Fails e) (sym (both_passes text symbols tokens trees passed nodes))
    (Fails-bind e (items (surroundings text symbols trees) trees nothing)
    (λ d. Ok (script_from d)) h)

pub read_whole : (text : List ℕ) (symbols : List Symbol) (tokens : List Token) (trees : Trees)
    (d : Draft)
    → first_pass text ≡ Ok tokens → trees ≡ (nodes_from text tokens).inside
    → items (surroundings text symbols trees) trees nothing ≡ Ok d
    → script_of_text text symbols ≡ Ok (script_from d)
read_whole text symbols tokens trees d passed nodes is =
    both_passes text symbols tokens trees passed nodes ∙ ap (λ r. r >>= λ d. Ok (script_from d)) is

pub trees-small : (text : List ℕ) (tokens : List Token) (trees : Trees)
    → first_pass text ≡ Ok tokens → trees ≡ (nodes_from text tokens).inside → Small trees
trees-small text tokens trees passed nodes = subst Small (sym nodes)
    (first_pass-small text tokens passed)

pub read_within : (text : List ℕ) (symbols : List Symbol) (trees : Trees) (d : Draft) → Small trees
    → items (surroundings text symbols trees) trees nothing ≡ Ok d → IsWithinLimits (script_from d)
read_within text symbols trees d small is =
    let P : Result Draft ScriptFault → Type 0 = λ r. IfOk r (λ d. IsWithinLimits (script_from d)) in
    subst P is (draft-within text symbols trees small)
