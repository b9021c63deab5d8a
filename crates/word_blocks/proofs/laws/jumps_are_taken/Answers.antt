use Rattle.word_blocks.proofs.Jumps.{step-jal, step-jalr, step-branch}
use Rattle.word_blocks.proofs.laws.jumps_are_taken.Goals as goal

pub returns-clause-relative : goal.returns-clause-relative
returns-clause-relative c start code from s rd to stands is = step-jal start code from s stands is rd to

pub returns-clause-register : goal.returns-clause-register
returns-clause-register c start code from s rd rs1 offset to stands is = step-jalr start code from s stands is rd rs1 offset to

pub returns-clause-branch : goal.returns-clause-branch
returns-clause-branch c start code from s op rs1 rs2 count stands is = step-branch start code from s stands is op rs1 rs2 count
