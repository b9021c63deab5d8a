use Rattle.report.proofs.fault_line.write_refusal.Goals as goal

pub returns-in-Usage-clause-written : goal.returns-in-Usage-clause-written
returns-in-Usage-clause-written g c = rw c.in-Usage.is c.write_line.ensures.written

pub returns-in-Absent-clause-written : goal.returns-in-Absent-clause-written
returns-in-Absent-clause-written g c = rw c.in-Absent.is c.write_line-in-Absent.ensures.written

pub returns-in-TooLong-clause-written : goal.returns-in-TooLong-clause-written
returns-in-TooLong-clause-written g c = rw c.in-TooLong.is c.write_line-in-TooLong.ensures.written

pub returns-in-RecordingBroken-clause-written : goal.returns-in-RecordingBroken-clause-written
returns-in-RecordingBroken-clause-written g c = rw (c.in-RecordingBroken.is, ← c.rec_cause_name.ensures) c.write_line-in-RecordingBroken.ensures.written

pub returns-in-ImageBroken-clause-written : goal.returns-in-ImageBroken-clause-written
returns-in-ImageBroken-clause-written g c = rw (c.in-ImageBroken.is, ← c.image_cause_name.ensures) c.write_line-in-ImageBroken.ensures.written

pub returns-in-ScriptRefused-clause-written : goal.returns-in-ScriptRefused-clause-written
returns-in-ScriptRefused-clause-written g c = rw (c.in-ScriptRefused.is, ← c.script_cause_name.ensures) c.write_line-in-ScriptRefused.ensures.written

pub returns-in-AnalysisRefused-clause-written : goal.returns-in-AnalysisRefused-clause-written
returns-in-AnalysisRefused-clause-written g c = rw c.in-AnalysisRefused.is c.write_line-in-AnalysisRefused.ensures.written

pub returns-in-AsmRefused-clause-written : goal.returns-in-AsmRefused-clause-written
returns-in-AsmRefused-clause-written g c = rw (c.in-AsmRefused.is, ← c.asm_cause_name.ensures) c.write_line-in-AsmRefused.ensures.written

pub returns-in-TooLarge-clause-written : goal.returns-in-TooLarge-clause-written
returns-in-TooLarge-clause-written g c = rw c.in-TooLarge.is c.write_line-in-TooLarge.ensures.written
