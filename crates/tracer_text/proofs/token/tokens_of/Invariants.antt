use Rattle.std.proofs.Common.{◌≡◌, ◌≤◌, ◌-◌, ◌++◌, length, drop}
use Rattle.tracer_text.specs.Tokens.{tokens_from, tokens_of}
use Rattle.tracer_text.proofs.token.tokens_of.Given as goal

abbrev pub invariant-loop-place : goal.invariant-loop-place
invariant-loop-place l = record {
  within : l.place ≤ length l.text;
  read : l.all.items ++ tokens_from 0 l.place (drop l.place l.text) ≡ tokens_of l.text;
}

abbrev pub decreases-loop-place : goal.decreases-loop-place
decreases-loop-place l = length l.text - l.place
