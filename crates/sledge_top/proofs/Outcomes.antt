-- A command that records no run, by its outcome.
use Rattle.std.specs.Prelude.{IsSomeAnd}
use Rattle.std.specs.Option.{option_map}
use Rattle.std.proofs.Common.{◌≡◌, ℕ, List, Option, Some, None, Result, Err, inl, inr, refl, sym, ap, subst, ◌∙◌}
use Rattle.outside.specs.Files.{Files}
use Rattle.outside.specs.World.{Heard, HearsAll}
use Rattle.report.specs.declared.status.Refusal.{Refusal}
use Rattle.report.specs.declared.status.Status.{Status}
use Rattle.report.specs.declared.status.Status.TheVariants as ending
use Rattle.cli_words.specs.Orders.{Order, Trace, TraceAt, Replay, Check, Record, Recut, Asm, Show, Gen, order_of}
use Rattle.cli_words.specs.Working.{worked_alone, DifferInWork}
use Rattle.cli_words.proofs.Working.{same_but_for_work}
use Rattle.sledge_top.specs.Done.{Put, Done, put_of}
use Rattle.sledge_top.specs.Endings.{KeepsOthers, Does, GivesUp, Answers}
use Rattle.sledge_top.specs.Answer.{ordered, outcome, ComesTo, OutcomeAnswers}

-- ---- what a command comes to

is_due : (due defined : Result Done Refusal) (named : Option (Result Done Refusal)) → named ≡ Some due → IsSomeAnd named (λ d. defined ≡ d) → defined ≡ due
is_due due defined None is so = absurd so
is_due due defined (Some other) is so = let same : other ≡ due = cc in so ∙ same

none_due : (due : Result Done Refusal) → None ≡ Some due → ⊥
none_due due is = cc

comes_due : (files : Files) (named : Option Order) (heard : List Heard → Type 0) (due defined : Result Done Refusal) → ordered files named ≡ Some due → ComesTo files named heard defined → defined ≡ due
comes_due files None heard due defined is comes = is_due due defined (ordered files None) is comes.0
comes_due files (Some (Trace recording script options)) heard due defined is comes = is_due due defined (ordered files (Some (Trace recording script options))) is comes.0
comes_due files (Some (TraceAt recording address options)) heard due defined is comes = is_due due defined (ordered files (Some (TraceAt recording address options))) is comes.0
comes_due files (Some (Replay recording)) heard due defined is comes = is_due due defined (ordered files (Some (Replay recording))) is comes.0
comes_due files (Some (Check recording)) heard due defined is comes = is_due due defined (ordered files (Some (Check recording))) is comes.0
comes_due files (Some (Record image output options)) heard due defined is comes = absurd (none_due due is)
comes_due files (Some (Recut recording output every)) heard due defined is comes = is_due due defined (ordered files (Some (Recut recording output every))) is comes.0
comes_due files (Some (Asm source output)) heard due defined is comes = is_due due defined (ordered files (Some (Asm source output))) is comes.0
comes_due files (Some (Show image address lines flat)) heard due defined is comes = is_due due defined (ordered files (Some (Show image address lines flat))) is comes.0
comes_due files (Some (Gen seed size)) heard due defined is comes = absurd (none_due due is)

-- ---- what is cut off does whatever is due

kept : (put : Option Put) (files : Files) (new : Option Files) → new ≡ Some files → KeepsOthers put files new
kept None files new same = same
kept (Some put) files new same = subst (KeepsOthers (Some put) files) (sym same) (λ other apart. refl)

cut_off : (due : Result Done Refusal) (status : Status) (files : Files) (new : Option Files) (said says : Option (List ℕ)) → GivesUp status files new said says → Does status files new said says due
cut_off due ending.Ok files new said says gives = absurd gives.cut_off
cut_off due (ending.Refused why) files new said says gives = absurd gives.cut_off
cut_off due ending.StoreFault files new said says gives = record { ends = tt; text = gives.silent; leaves = kept (put_of due) files new gives.same }
cut_off due ending.SinkFault files new said says gives = absurd gives.cut_off
cut_off due ending.Memory files new said says gives = record { ends = tt; text = gives.silent; leaves = gives.same }

pub does_due : (files : Files) (named : Option Order) (heard : List Heard → Type 0) (due : Result Done Refusal) (status : Status) (new : Option Files) (said says : Option (List ℕ))
    → ordered files named ≡ Some due → Answers (ComesTo files named heard) status files new said says → Does status files new said says due
does_due files named heard due status new said says is (inl so) =
    subst (Does status files new said says) (comes_due files named heard due so.0 is so.1) so.2
does_due files named heard due status new said says is (inr gives) = cut_off due status files new said says gives

pub outcome_answers : {X : Type 0} (hears : X → Heard → X → Type 0) (words : List (List ℕ)) → OutcomeAnswers hears words
outcome_answers hears words files due was now status new said says is answers = does_due files (order_of words) (HearsAll hears was now) due status new said says is answers

-- ---- how it is worked out

ordered_alone : (files : Files) (order : Order) → ordered files (Some order) ≡ ordered files (Some (worked_alone order))
ordered_alone files (Trace recording script options) = refl
ordered_alone files (TraceAt recording address options) = refl
ordered_alone files (Replay recording) = refl
ordered_alone files (Check recording) = refl
ordered_alone files (Record image output options) = refl
ordered_alone files (Recut recording output every) = refl
ordered_alone files (Asm source output) = refl
ordered_alone files (Show image address lines flat) = refl
ordered_alone files (Gen seed size) = refl

all_alone : (files : Files) (named : Option Order) → ordered files named ≡ ordered files (option_map worked_alone named)
all_alone files None = refl
all_alone files (Some order) = ordered_alone files order

pub same_outcome : (first second : List (List ℕ)) (files : Files) → DifferInWork first second → outcome first files ≡ outcome second files
same_outcome first second files differ =
    all_alone files (order_of first) ∙ ap (ordered files) (same_but_for_work first second differ) ∙ sym (all_alone files (order_of second))
