-- The words of the reasons for which a line is refused.
use Rattle.std.specs.Prelude.{◌++◌, codes}
use Rattle.ojp_values.specs.Texts.{Text}
use Rattle.ojp_feed_lines.specs.Columns.{column_name}
use Rattle.ojp_feed_lines.specs.declared.refusals.RowReason.{RowReason}
use Rattle.ojp_feed_lines.specs.declared.refusals.RowReason.TheVariants as reasons

-- the words, and behind them the column that they name
abbrev pub row_words : RowReason → Text
row_words reasons.MissingFile = codes "missing file"
row_words (reasons.MissingColumn column) = codes "missing column " ++ column_name column
row_words reasons.Width = codes "width"
row_words reasons.NotText = codes "no UTF-8"
row_words (reasons.Value column) = codes "bad " ++ column_name column
row_words reasons.TwoZones = codes "two zones"
row_words (reasons.Doubled column) = codes "doubled " ++ column_name column
row_words (reasons.Unknown column) = codes "unknown " ++ column_name column
row_words reasons.LineForm = codes "line form"
row_words reasons.Limit = codes "limit"
