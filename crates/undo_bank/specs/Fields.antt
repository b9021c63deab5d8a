-- What the fields of a bank stand for, and what holds of them.
use Rattle.undo_bank.specs.declared.bank.Bank.TheInside.{Inside}
use Rattle.undo_bank.specs.Areas.{Areas, AreAreas}

abbrev pub areas_of : Inside → Areas
areas_of a = record {
  code = a.code;
  frames = a.frames;
  log = a.log;
  output = a.output;
  last_log_len = a.last_log_len;
}

abbrev pub AreFields : Inside → Type 0
AreFields a = AreAreas (areas_of a)
