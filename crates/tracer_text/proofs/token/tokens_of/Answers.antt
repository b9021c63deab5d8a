use Rattle.std.proofs.Common.{◌≡◌, ◌+◌, ◌++◌, ◌∷◌, [], drop, get_or, length, All, refl, sym, ap, subst, ◌∙◌, arith}
use Rattle.std.proofs.lemmas.List.{take_rest, append-nil, drop_all}
use Rattle.tracer_text.specs.Tokens.{more_of, tokens_from, tokens_of, IsWithin}
use Rattle.tracer_text.proofs.Within.{all_within}
use Rattle.tracer_text.proofs.Skips.{read_token, read_none}
use Rattle.tracer_text.proofs.token.tokens_of.Goals as goal

pub loop-place-preserved-in_ok-push : goal.loop-place-preserved-in_ok-push
loop-place-preserved-in_ok-push c =
    let more_is = c.more_of.ensures.value ∙ ap (more_of (get_or c.args.text.now c.loop-place.place 0)) (take_rest c.args.text.now (c.loop-place.place + 1)) in
    let read = read_token c.args.text.now c.loop-place.place _ c.more_of.result c.loop-place.all.items _ c.loop-place-test.true refl more_is
    (sym c.begins_token.ensures ∙ c.if-begins_token.true) c.loop-place.invariant.read in
    let items : c.push.new.self.items ≡ c.loop-place.all.items ++ record { place = c.loop-place.place; end = c.loop-place.place + 1 + c.more_of.result } ∷ [] = c.in_ok-push.ensures.items in
    record {
      within = omega (arith, c.more_of.ensures.within);
      read = ap (λ ts. ts ++ tokens_from 0 (c.loop-place.place + 1 + c.more_of.result) (drop (c.loop-place.place + 1 + c.more_of.result) c.args.text.now)) items ∙ read;
    }

pub loop-place-preserved : goal.loop-place-preserved
loop-place-preserved c =
    let more_is = c.more_of.ensures.value ∙ ap (more_of (get_or c.args.text.now c.loop-place.place 0)) (take_rest c.args.text.now (c.loop-place.place + 1)) in
    record {
      within = omega (arith, c.more_of.ensures.within);
      read = read_none c.args.text.now c.loop-place.place _ c.more_of.result c.loop-place.all.items _ c.loop-place-test.true refl more_is
          (sym c.begins_token.ensures ∙ c.if-begins_token.false) c.loop-place.invariant.read;
    }

pub returns-clause-within : goal.returns-clause-within
returns-clause-within c =
    let text = c.args.text.now in
    let none : tokens_from 0 c.loop-place.place (drop c.loop-place.place text) ≡ [] = ap (tokens_from 0 c.loop-place.place) (drop_all c.loop-place.place text (omega arith)) in
    let all_is : c.loop-place.all.items ≡ tokens_of text = sym (append-nil c.loop-place.all.items) ∙ ap (λ ts. c.loop-place.all.items ++ ts) (sym none) ∙ c.loop-place.invariant.read in
    subst (All (IsWithin (length text))) (sym all_is) (all_within 0 0 text (length text) (omega arith))
