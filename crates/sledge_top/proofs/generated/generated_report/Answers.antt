use Rattle.std.proofs.Common.{arith}
use Rattle.sledge_top.proofs.GeneratedRuns.{IsReported, is_reported, generates_so, never_refused}
use Rattle.sledge_top.proofs.generated.generated_report.Goals as goal

pub returns-in-Ok : goal.returns-in-Ok
returns-in-Ok g c =
    let rec = c.in_ok-rec.rec in
    let is : IsReported c.args.seed c.args.size rec =
    is_reported c.args.seed c.args.size rec (omega (arith, c.ranges.seed)) c.requires.some c.requires.most c.every_program_assembles.ensures c.in_ok-rec.ensures in
    generates_so c.args.seed c.args.size rec c.in-Ok.done is c.in-Ok.ensures.value

pub unreachable-requires : goal.unreachable-requires
unreachable-requires g c =
    let rec = c.in_ok-rec.rec in
    let said = c.in-Err-Fault in
    let is : IsReported c.args.seed c.args.size rec =
    is_reported c.args.seed c.args.size rec (omega (arith, c.ranges.seed)) c.requires.some c.requires.most c.every_program_assembles.ensures c.in_ok-rec.ensures in
    never_refused c.args.seed c.args.size rec said.field-0 said.field-0-0 is said.field-0-is said.ensures.value
