-- The one spelling of a recorded run, of version 1.
use Rattle.std.specs.Prelude.{◌≡◌, ℕ, ◌≤◌, List, ◌++◌, length, codes}
use Rattle.std.specs.List.{flat_map}
use Rattle.std.specs.Int.{w32, w64, to_le_bytes}
use Rattle.call_log.specs.declared.entry.CallEntry.{CallEntry}
use Rattle.call_log.specs.declared.entry.End.{End}
use Rattle.call_log.specs.declared.entry.End.TheVariants as ends
use Rattle.rec_format.specs.declared.limits.TheConstants.{MOST_BYTES}
use Rattle.rec_format.specs.declared.recording.ListedPage.{ListedPage}
use Rattle.rec_format.specs.declared.recording.CheckpointData.{CheckpointData}
use Rattle.rec_format.specs.declared.recording.Recording.{Recording}
use Rattle.rec_format.specs.Rules.{IsRecordingValue}

-- a number of four bytes, and of eight, the lowest byte first
unfoldable pub word : ℕ → List ℕ
word n = to_le_bytes w32 n

unfoldable pub double_word : ℕ → List ℕ
double_word n = to_le_bytes w64 n

-- bytes after their number
unfoldable pub sized : List ℕ → List ℕ
sized bytes = word (length bytes) ++ bytes

-- items after their number
unfoldable pub counted : {X : Type 0} → (X → List ℕ) → List X → List ℕ
counted item items = word (length items) ++ flat_map item items

-- the format's name, and its version
unfoldable pub name : List ℕ
name = codes "SLDGREC"

unfoldable pub version : List ℕ
version = codes "1"

unfoldable pub call : CallEntry → List ℕ
call entry =
    word entry.call.number ++ flat_map word entry.call.args ++ word entry.result
    ++ sized entry.bytes

unfoldable pub listed_page : ListedPage → List ℕ
listed_page page = word page.number ++ page.bytes

unfoldable pub checkpoint : CheckpointData → List ℕ
checkpoint c =
    double_word c.count ++ word c.pc ++ flat_map word c.x ++ word c.brk ++ word c.brk_end
    ++ word c.next_call ++ counted listed_page c.pages

unfoldable pub end_of_run : End → List ℕ
end_of_run (ends.Exited code) = word 0 ++ word code
end_of_run (ends.Trapped trap) = word 1 ++ word trap
end_of_run ends.Stopped = word 2 ++ word 0

unfoldable pub spelling : Recording → List ℕ
spelling rec =
    name ++ version ++ word rec.kind ++ word rec.load_addr ++ sized rec.image
    ++ counted sized rec.args ++ counted call rec.calls ++ counted checkpoint rec.checkpoints
    ++ end_of_run rec.end ++ checkpoint rec.last

-- the bytes are the spelling of a recorded run that meets the rules
pub record IsRecording (bytes : List ℕ) (rec : Recording) : Type 0 where
  pub spelled : bytes ≡ spelling rec
  pub value : IsRecordingValue rec
  pub size : length bytes ≤ MOST_BYTES
