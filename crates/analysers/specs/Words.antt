-- The words of records.
use Rattle.std.specs.Prelude.{ℕ, min, max, Option, Some, None, slice_get}
use Rattle.tracer_lang.specs.declared.record.Record.{Record}

-- the word of a record at a place, where it has one
abbrev pub word_at : ℕ → Record → Option ℕ
word_at place r = slice_get r.words place

-- the greater of two words, where there are two
abbrev pub greater : Option ℕ → Option ℕ → Option ℕ
greater None b = b
greater (Some a) None = Some a
greater (Some a) (Some b) = Some (max a b)

-- the lesser of two words, where there are two
abbrev pub lesser : Option ℕ → Option ℕ → Option ℕ
lesser None b = b
lesser (Some a) None = Some a
lesser (Some a) (Some b) = Some (min a b)
