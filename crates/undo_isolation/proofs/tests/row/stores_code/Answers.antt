use Rattle.undo_isolation.proofs.tests.row.stores_code.Goals as goal

pub returns : goal.returns
returns c = c.standing_code_is_sound.ensures c.in_ok-compile.field-0 _ c.in_ok-compile.ensures
