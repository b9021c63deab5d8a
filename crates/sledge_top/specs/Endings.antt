-- How a command ends, what it says and what it leaves, by what its words and the files come to.
use Rattle.std.specs.Prelude.{◌≡◌, ◌⊎◌, ℕ, List, Option, Some, None, Result, Err, IsOk, IsSomeAnd, ⊤}
use Rattle.outside.specs.Files.{Files, SameButAt}
use Rattle.outside.specs.Written.{Adds, AddsPrefix}
use Rattle.sl_base.specs.declared.refused.Refused.{Refused}
use Rattle.sl_base.specs.declared.refused.Refused.TheVariants as refused
use Rattle.report.specs.declared.status.Refusal.{Refusal}
use Rattle.report.specs.declared.status.Refusal.TheVariants as refusal
use Rattle.report.specs.declared.status.Status.{Status}
use Rattle.report.specs.declared.status.Status.TheVariants as status
use Rattle.sledge_top.specs.Done.{Put, Done, text_of, put_of, with_put}

-- A command ends as it comes to. Memory may be wanting at any place, and the store may fail; the
-- first output can only fail where there is a text.
abbrev pub Ends : Status → Result Done Refusal → Type 0
Ends status.Ok defined = IsOk defined
Ends (status.Refused why) defined = defined ≡ Err why
Ends status.StoreFault defined = ⊤
Ends status.SinkFault defined = IsOk defined
Ends status.Memory defined = ⊤

-- what the first output gains: the whole text, after a fault of it some of the text from the first
-- byte on, and else nothing
abbrev pub Says : Status → Option (List ℕ) → Option (List ℕ) → List ℕ → Type 0
Says status.Ok old new text = Adds old new text
Says status.SinkFault old new text = AddsPrefix old new text
Says other old new text = new ≡ old

-- after each ending but these two the first output has gained nothing
abbrev pub IsSilent : Status → Type 0
IsSilent status.Ok = ⊥
IsSilent status.SinkFault = ⊥
IsSilent other = ⊤

-- after a fault of the store, the file that was to be put may have any bytes or none
abbrev pub KeepsOthers : Option Put → Files → Option Files → Type 0
KeepsOthers None files new = new ≡ Some files
KeepsOthers (Some put) files new = IsSomeAnd new (SameButAt put.name files)

-- the files afterwards: with the one that is put, also where the text could not be written behind
-- it; and else as they were
abbrev pub Leaves : Status → Files → Option Files → Result Done Refusal → Type 0
Leaves status.Ok files new defined = new ≡ Some (with_put files (put_of defined))
Leaves status.SinkFault files new defined = new ≡ Some (with_put files (put_of defined))
Leaves status.StoreFault files new defined = KeepsOthers (put_of defined) files new
Leaves other files new defined = new ≡ Some files

-- A command with this status ends as it comes to, says it, and leaves the files so.
pub record Does (status : Status) (files : Files) (new : Option Files)
    (said says : Option (List ℕ)) (defined : Result Done Refusal) : Type 0 where
  pub ends : Ends status defined
  pub text : Says status said says (text_of defined)
  pub leaves : Leaves status files new defined

-- the same of a command that needs no file
pub record EndsAlone (status : Status) (said says : Option (List ℕ))
    (defined : Result Done Refusal) : Type 0 where
  pub ends : Ends status defined
  pub text : Says status said says (text_of defined)

-- want of memory, and a fault of the store
abbrev pub IsCutOff : Status → Type 0
IsCutOff status.StoreFault = ⊤
IsCutOff status.Memory = ⊤
IsCutOff other = ⊥

-- A command may be cut off before it comes to anything: it says nothing, and no file is changed.
pub record GivesUp (status : Status) (files : Files) (new : Option Files)
    (said says : Option (List ℕ)) : Type 0 where
  pub cut_off : IsCutOff status
  pub silent : says ≡ said
  pub same : new ≡ Some files

-- a command does something of this kind, or it is cut off before
abbrev pub Answers :
    (Result Done Refusal → Type 0) → Status → Files → Option Files
    → Option (List ℕ) → Option (List ℕ) → Type 0
Answers Is status files new said says =
    ((defined : Result Done Refusal) × Is defined × Does status files new said says defined)
    ⊎ GivesUp status files new said says

-- the same of a command that needs no file
abbrev pub AnswersAlone :
    (Result Done Refusal → Type 0) → Status → Option (List ℕ) → Option (List ℕ) → Type 0
AnswersAlone Is status said says =
    ((defined : Result Done Refusal) × Is defined × EndsAlone status said says defined)
    ⊎ (IsCutOff status × (says ≡ said))

-- a refusal for another reason than the words
abbrev pub IsLater : Refusal → Type 0
IsLater refusal.Usage = ⊥
IsLater other = ⊤

abbrev pub IsLaterFault : Refused Refusal → Type 0
IsLaterFault (refused.Fault why) = IsLater why
IsLaterFault refused.Memory = ⊤
