-- What the code keeps, as the definitions have it.
use Rattle.std.specs.Prelude.{◌≡◌, ℕ, List, Option, Result, Ok, Err, ⊤}
use Rattle.outside.specs.Files.{Files}
use Rattle.report.specs.declared.status.Status.{Status}
use Rattle.std.specs.Option.{option_map}
use Rattle.sl_base.specs.declared.refused.Refused.{Refused}
use Rattle.sl_base.specs.declared.refused.Refused.TheVariants as refused
use Rattle.report.specs.declared.status.Refusal.{Refusal}
use Rattle.sledge_top.specs.declared.done.Put.{Put as GivenPut}
use Rattle.sledge_top.specs.declared.done.Done.{Done as GivenDone}
use Rattle.sledge_top.specs.declared.failure.Failure.{Failure}
use Rattle.sledge_top.specs.declared.failure.Failure.TheVariants as failure
use Rattle.sledge_top.specs.Done.{Put, Done}
use Rattle.sledge_top.specs.Endings.{IsLater, IsCutOff, Does, EndsAlone, GivesUp}

abbrev pub put_view : GivenPut → Put
put_view put = record { name = put.name.now; bytes = put.bytes.items }

abbrev pub done_view : GivenDone → Done
done_view done = record { text = done.text.items; put = option_map put_view done.put }

-- what a part of a command returned, seen by a view, is what it comes to, unless memory was wanting
-- or the store failed
abbrev pub Comes : {X A : Type 0} → (X → A) → Result X Failure → Result A Refusal → Type 0
Comes view (Ok x) defined = defined ≡ Ok (view x)
Comes view (Err (failure.Refused why)) defined = defined ≡ Err why
Comes view (Err failure.StoreFault) defined = ⊤
Comes view (Err failure.Memory) defined = ⊤

-- the same of a command, where what it comes to is of a kind
abbrev pub ComesSo : (Result Done Refusal → Type 0) → Result GivenDone Failure → Type 0
ComesSo Is (Ok done) = Is (Ok (done_view done))
ComesSo Is (Err (failure.Refused why)) = Is (Err why)
ComesSo Is (Err failure.StoreFault) = ⊤
ComesSo Is (Err failure.Memory) = ⊤

-- Such a command ends so, says this and leaves the files so.
abbrev pub Finishes :
    Result GivenDone Failure → Status → Files → Option Files
    → Option (List ℕ) → Option (List ℕ) → Type 0
Finishes (Ok done) status files new said says =
    Does status files new said says (Ok (done_view done))
Finishes (Err (failure.Refused why)) status files new said says =
    Does status files new said says (Err why)
Finishes (Err failure.StoreFault) status files new said says = GivesUp status files new said says
Finishes (Err failure.Memory) status files new said says = GivesUp status files new said says

-- the same of a command that needs no file
abbrev pub FinishesAlone :
    Result GivenDone Failure → Status → Option (List ℕ) → Option (List ℕ) → Type 0
FinishesAlone (Ok done) status said says = EndsAlone status said says (Ok (done_view done))
FinishesAlone (Err (failure.Refused why)) status said says =
    EndsAlone status said says (Err why)
FinishesAlone (Err failure.StoreFault) status said says = IsCutOff status × (says ≡ said)
FinishesAlone (Err failure.Memory) status said says = IsCutOff status × (says ≡ said)

abbrev pub MaySo : (Result Done Refusal → Type 0) → Result GivenDone (Refused Refusal) → Type 0
MaySo Is (Ok done) = Is (Ok (done_view done))
MaySo Is (Err (refused.Fault why)) = Is (Err why)
MaySo Is (Err refused.Memory) = ⊤

-- a refusal or want of memory, as the failure that it is
abbrev pub failure_of : Refused Refusal → Failure
failure_of (refused.Fault why) = failure.Refused why
failure_of refused.Memory = failure.Memory

abbrev pub IsLaterFailure : Failure → Type 0
IsLaterFailure (failure.Refused why) = IsLater why
IsLaterFailure failure.StoreFault = ⊤
IsLaterFailure failure.Memory = ⊤
