-- The pieces of a line, as bytes.
use Rattle.std.specs.Prelude.{ℕ, List}
use Rattle.std.specs.Fmt.{decimal}
use Rattle.sl_base.specs.Text.{word_text}
use Rattle.report.specs.declared.fault_line.Piece.{Piece}
use Rattle.report.specs.declared.fault_line.Piece.TheVariants as piece
use Rattle.report.specs.Report.{end_kind, end_value}

abbrev pub piece_text : Piece → List ℕ
piece_text (piece.Text text) = text.now
piece_text (piece.Name name) = name.now
piece_text (piece.Number number) = decimal number
piece_text (piece.Index index) = decimal index
piece_text (piece.Word word) = word_text word
piece_text (piece.Kind end) = end_kind end.now
piece_text (piece.Value end) = word_text (end_value end.now)
