use Rattle.std.proofs.Common.{◌≡◌, ◌∙◌, ◌+◌, ◌∷◌, ◌++◌, [], ℕ, Ok, length-append, true, false, ap, arith, refl, rules}
use Rattle.csv.specs.Records.{fields_of}
use Rattle.ojp_feed_lines.specs.Refusals.{IsTableRefusal}
use Rattle.ojp_feed_lines.proofs.CauseFacts.{begins, limit_refused, row_refused}
use Rattle.ojp_feed_lines.proofs.Explained.{passed_is, passed_on, passed_read, row_is_read, row_is_table}
use Rattle.ojp_feed_lines.proofs.rows.take_rows.Goals as goal

pub returns-in_err-next-clause-refused : goal.returns-in_err-next-clause-refused
returns-in_err-next-clause-refused g c =
    passed_on c.from_residual.result c.in_err-next.field-0.0 (IsTableRefusal c.args.table.now.file) c.from_residual.ensures.1
    (rw c.taking.invariant.0 at c.in_err-next.ensures.at)

pub returns-in_err-take_row-clause-refused : goal.returns-in_err-take_row-clause-refused
returns-in_err-take_row-clause-refused g c =
    passed_on c.from_residual-in_err-take_row.result c.in_err-take_row.field-0.0 (IsTableRefusal c.args.table.now.file) c.from_residual-in_err-take_row.ensures.1
    (row_is_table _ _ (rw (c.next.ensures.file, c.taking.invariant.0) at c.in_err-take_row.ensures.refused))

pub returns-in_err-take_row-clause-unread : goal.returns-in_err-take_row-clause-unread
returns-in_err-take_row-clause-unread g c =
    passed_read c.from_residual-in_err-take_row.result c.in_err-take_row.field-0.0 _ c.from_residual-in_err-take_row.ensures.1
    (row_is_read _ _ c.in_err-take_row.ensures.refused)

pub taking-init : goal.taking-init
taking-init g c = (refl, λ bytes head read held. ([], read, held, refl))

pub taking-preserved : goal.taking-preserved
taking-preserved g c = (
  c.next.ensures.file ∙ c.taking.invariant.0,
  λ bytes head read held.
      let (all, so_far, taken, count) = c.taking.invariant.1 bytes head read held in
      let found : c.next.result ≡ Ok true = search rules in (
        all ++ fields_of c.next.new.self.row ∷ [],
        c.next.ensures.row found bytes (head ∷ all) so_far,
        c.in_ok-take_row.ensures.taken all taken,
        length-append all (fields_of c.next.new.self.row ∷ []) ∙ ap (λ (n : ℕ). n + 1) count,
      ),
)

pub returns-then-not-branch-clause-taken : goal.returns-then-not-branch-clause-taken
returns-then-not-branch-clause-taken g c =
    λ bytes head read held.
    let (all, so_far, taken, count) = c.taking.invariant.1 bytes head read held in
    let ended : c.next.result ≡ Ok false = search rules in
    (all, c.next.ensures.end ended bytes (head ∷ all) so_far, taken)

pub returns-in_err-next-clause-why : goal.returns-in_err-next-clause-why
returns-in_err-next-clause-why g c =
    rw (passed_is c.from_residual.result c.in_err-next.field-0.0 c.from_residual.ensures.1)
    (λ text head read placed held.
    let (all, so_far, taken, count) = c.taking.invariant.1 text head read held in
    c.in_err-next.ensures.why g.T.Rows.file text (head ∷ all) so_far)

pub returns-in_err-take_row-clause-why : goal.returns-in_err-take_row-clause-why
returns-in_err-take_row-clause-why g c =
    rw (passed_is c.from_residual-in_err-take_row.result c.in_err-take_row.field-0.0 c.from_residual-in_err-take_row.ensures.1)
    (λ text head read placed held.
    let (all, so_far, taken, count) = c.taking.invariant.1 text head read held in
    let found : c.next.result ≡ Ok true = search rules in
    let row = fields_of c.next.new.self.row in
    row_refused g.T.Rows.file text head all row c.in_err-take_row.field-0.0
    (begins g.F.Read.remaining c.next.new.self.rows text (head ∷ all ++ row ∷ []) (c.next.ensures.row found text (head ∷ all) so_far))
    (c.in_err-take_row.ensures.why head all placed taken))

pub returns-clause-why : goal.returns-clause-why
returns-clause-why g c =
    λ text head read placed held.
    let (all, so_far, taken, count) = c.taking.invariant.1 text head read held in
    limit_refused g.T.Rows.file text c.refused.result c.refused.ensures.reason
    (head, all, begins g.F.Read.remaining c.taking.table.rows text (head ∷ all) so_far, omega (arith, count, c.taking-test.false))
