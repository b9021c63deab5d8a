-- A command that ends by what it comes to.
use Rattle.std.proofs.Common.{◌≡◌, ℕ, List, Option, Some, None, Result, Ok, Err, IfSome, inl, inr, subst}
use Rattle.outside.specs.Files.{Files}
use Rattle.report.specs.declared.status.Refusal.{Refusal}
use Rattle.report.specs.declared.status.Status.{Status}
use Rattle.sledge_top.specs.declared.done.Done.{Done as GivenDone}
use Rattle.sledge_top.specs.declared.failure.Failure.{Failure}
use Rattle.sledge_top.specs.declared.failure.Failure.TheVariants as failure
use Rattle.cli_words.specs.Orders.{Order, Trace, TraceAt, Replay, Check, Record, Recut, Asm, Show, Gen}
use Rattle.sledge_top.specs.Generating.{GeneratesTo, IfGen}
use Rattle.sledge_top.specs.Done.{Done}
use Rattle.sledge_top.specs.Endings.{Answers, AnswersAlone}
use Rattle.sledge_top.specs.Views.{done_view, ComesSo, Finishes, FinishesAlone}

answered : (Is : Result Done Refusal → Type 0) (outcome : Result GivenDone Failure) (status : Status) (files : Files) (new : Option Files) (said says : Option (List ℕ))
    → ComesSo Is outcome → Finishes outcome status files new said says → Answers Is status files new said says
answered Is (Ok done) status files new said says is ends = inl (Ok (done_view done), is, ends)
answered Is (Err (failure.Refused why)) status files new said says is ends = inl (Err why, is, ends)
answered Is (Err failure.StoreFault) status files new said says is ends = inr ends
answered Is (Err failure.Memory) status files new said says is ends = inr ends

-- the same where the files are told
pub answered_where_told : (Is : Files → Result Done Refusal → Type 0) (told later : Option Files) (outcome : Result GivenDone Failure)
    (status : Status) (new : Option Files) (said says : Option (List ℕ)) → later ≡ told
    → IfSome told (λ files. ComesSo (Is files) outcome) → IfSome later (λ files. Finishes outcome status files new said says)
    → IfSome told (λ files. Answers (Is files) status files new said says)
answered_where_told Is told later outcome status new said says same is ends =
    by told is (subst (λ (t : Option Files). IfSome t (λ files. Finishes outcome status files new said says)) same ends)
  where
    by : (told : Option Files) → IfSome told (λ files. ComesSo (Is files) outcome) → IfSome told (λ files. Finishes outcome status files new said says)
        → IfSome told (λ files. Answers (Is files) status files new said says)
    by None is ends = tt
    by (Some files) is ends = answered (Is files) outcome status files new said says is ends

-- a command that needs no file
answered_alone : (Is : Result Done Refusal → Type 0) (outcome : Result GivenDone Failure) (status : Status) (said says : Option (List ℕ))
    → ComesSo Is outcome → FinishesAlone outcome status said says → AnswersAlone Is status said says
answered_alone Is (Ok done) status said says is ends = inl (Ok (done_view done), is, ends)
answered_alone Is (Err (failure.Refused why)) status said says is ends = inl (Err why, is, ends)
answered_alone Is (Err failure.StoreFault) status said says is ends = inr ends
answered_alone Is (Err failure.Memory) status said says is ends = inr ends

-- the same of the one that generates a program
pub generated_so : (order : Option Order) (outcome : Result GivenDone Failure) (status : Status) (said says : Option (List ℕ)) → IfGen order (λ seed size. ComesSo (GeneratesTo seed size) outcome)
    → FinishesAlone outcome status said says → IfGen order (λ seed size. AnswersAlone (GeneratesTo seed size) status said says)
generated_so (Some (Gen seed size)) outcome status said says is ends = answered_alone (GeneratesTo seed size) outcome status said says is ends
generated_so (Some (Trace recording script options)) outcome status said says is ends = tt
generated_so (Some (TraceAt recording address options)) outcome status said says is ends = tt
generated_so (Some (Replay recording)) outcome status said says is ends = tt
generated_so (Some (Check recording)) outcome status said says is ends = tt
generated_so (Some (Record image output options)) outcome status said says is ends = tt
generated_so (Some (Recut recording output every)) outcome status said says is ends = tt
generated_so (Some (Show image address lines flat)) outcome status said says is ends = tt
generated_so (Some (Asm source output)) outcome status said says is ends = tt
generated_so None outcome status said says is ends = tt
