use Rattle.std.proofs.Common.{◌≡◌, List, [], ◌∷◌, length}
use Rattle.ojp_values.specs.Texts.{Text}
use Rattle.ojp_feed_lines.specs.Rows.{Record}
use Rattle.ojp_feed_lines.specs.Tables.{HasRead}
use Rattle.ojp_feed_lines.proofs.rows.take_rows.Given as goal

abbrev pub invariant-taking : goal.invariant-taking
invariant-taking g l =
    (l.table.file ≡ l.fn.table.file)
    × ((bytes : Text) (head : Record) → HasRead g.F.Read.remaining l.fn.table.rows bytes (head ∷ []) → g.T.Rows.holds l.fn.rows l.columns []
    → (all : List Record) × HasRead g.F.Read.remaining l.table.rows bytes (head ∷ all) × g.T.Rows.holds l.rows l.columns all × (length all ≡ l._count))
