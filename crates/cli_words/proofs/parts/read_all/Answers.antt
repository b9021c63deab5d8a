use Rattle.std.proofs.Common.{◌+◌, ℕ, List, ◌∷◌, map, drop, ap, sym, ◌∙◌, arith}
use Rattle.std.specs.Prelude.{string_bytes}
use Rattle.std.proofs.lemmas.List.{drop_more}
use Rattle.std.proofs.lemmas.Result.{err_from_is_err_and}
use Rattle.cli_words.specs.Parts.{Any, parts_from}
use Rattle.cli_words.specs.Views.{texts, settings_view, parts_view, next_view, all_parts}
use Rattle.cli_words.proofs.Reading.{none_before, stopped}
use Rattle.cli_words.proofs.parts.read_all.Goals as goal

pub loop-word-init : goal.loop-word-init
loop-word-init c =
    none_before (parts_view (record { plain = c.new.result; settings = c.new-2.result })) Any (texts c.args.words.now)
    (ap (λ words. map (λ word. word.now) words) c.new.ensures.items) (ap settings_view c.new-2.ensures.items)

pub returns-in_err-next : goal.returns-in_err-next
returns-in_err-next c =
    let words = c.args.words.now in
    let i = c.loop-word.word-index in
    let word = c.word-item.result in
    let old = parts_view c.loop-word.parts in
    let next = next_view c.loop-word.next in
    let rest = texts (drop (i + 1) words) in
    let here = ap (λ (w : List ℕ). w ∷ rest) (c.as_str.ensures.value ∙ ap string_bytes c.word-item.is) ∙ sym (ap texts (drop_more words i word (omega arith))) in
    let all = ap (all_parts old next) here ∙ c.loop-word.invariant in
    let failed = stopped c.in_err-next.field-0.0 old (parts_view c.read_word.new.parts) next c.as_str.result.now rest (parts_from Any (texts words)) c.in_err-next.ensures all in
    let p = err_from_is_err_and c.from_residual.result c.from_residual.ensures.1 in
    rw (p.1, p.2) failed
