use Rattle.tracer_table.proofs.tests.in_place.left_in_place.Goals as goal

pub left_by-requires : goal.left_by-requires
left_by-requires c = c.standing_code_is_sound.ensures c.in_ok-code.code _ c.in_ok-code.ensures
