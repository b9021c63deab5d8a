use Rattle.std.proofs.Common.{subst}
use Rattle.std.specs.Prelude.{IfSome}
use Rattle.sl_model.specs.Words.{HasBits}
use Rattle.sl_model.proofs.Meanings.{meaning_has, meaning-Means}
use Rattle.sl_model.proofs.laws.words_mean.Goals as goal

pub returns-clause-found : goal.returns-clause-found
returns-clause-found c word instr word_range e = record { in_range = word_range; has_bits = subst (λ o. IfSome o (HasBits word)) e (meaning_has word) }

pub returns-clause-only : goal.returns-clause-only
returns-clause-only c = meaning-Means
