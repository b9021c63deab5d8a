use Rattle.sl_model.proofs.Memory.{is_some-store_at, IsStored-stored, ArePages-stored}
use Rattle.sl_model.proofs.laws.stores_are_loaded.Goals as goal

pub returns-clause-done : goal.returns-clause-done
returns-clause-done c = is_some-store_at

pub returns-clause-stored : goal.returns-clause-stored
returns-clause-stored c before after address width value = IsStored-stored before address width value after

pub returns-clause-pages : goal.returns-clause-pages
returns-clause-pages c before after address width value = ArePages-stored before address width value after
