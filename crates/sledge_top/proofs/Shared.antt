-- A plan may be shared by threads.
use denote.Param.Send.{IsSync, sendable}
use Rattle.std.proofs.Crossing.{crosses}
use Rattle.tracer_lang.proofs.tree.Args.TheLaws.TheKnot as expressions
use Rattle.tracer_lang.proofs.tree.Block.TheLaws.TheKnot as statements
use Rattle.elf_image.specs.contracts.image.Image as image
use Rattle.checkpoints.specs.contracts.kept.Checkpoints as checkpoints
use Rattle.epoch_cut.specs.contracts.cutting.Cutting as cutting
use Rattle.tracer_lang.specs.contracts.tree.Block as block
use Rattle.tracer_lang.specs.contracts.script.Script as script
use Rattle.tracer_code.specs.contracts.code.TracerCode as code
use Rattle.tracepoints.specs.contracts.points.Points as points
use Rattle.analysers.specs.contracts.kind.Kind as kind
use Rattle.epoch_run.specs.contracts.compiled.CompiledScript as tracers
use Rattle.epoch_run.specs.contracts.plan.Plan as plan

image_is_shared : IsSync (image.the_field).row
image_is_shared = search (sendable, crosses) depth 40 fits 20000

checkpoints_are_shared : IsSync (checkpoints.the_field).row
checkpoints_are_shared = search (sendable, crosses) depth 40 fits 20000

cutting_is_shared : IsSync (cutting.the_field).row
cutting_is_shared = search (sendable, crosses) depth 40 fits 20000

block_is_shared : IsSync (block.the_field).row
block_is_shared = search (statements.crosses, expressions.crosses, sendable, crosses) depth 40 fits 20000

script_is_shared : IsSync (script.the_field).row
script_is_shared = search (block_is_shared, sendable, crosses) depth 40 fits 20000

code_is_shared : IsSync (code.the_field).row
code_is_shared = search (sendable, crosses) depth 40 fits 20000

tracers_are_shared : IsSync (tracers.the_field).row
tracers_are_shared = search (script_is_shared, code_is_shared, sendable, crosses) depth 40 fits 20000

points_are_shared : IsSync (points.the_field).row
points_are_shared = search (sendable, crosses) depth 40 fits 20000

kind_is_shared : IsSync kind.the_row
kind_is_shared = search (sendable, crosses) depth 40 fits 20000

pub plan_is_shared : IsSync (plan.the_field).row
plan_is_shared =
    search (image_is_shared, checkpoints_are_shared, cutting_is_shared, tracers_are_shared, points_are_shared, kind_is_shared, sendable, crosses) depth 20 fits 20000
