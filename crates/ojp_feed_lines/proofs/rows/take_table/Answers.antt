use Rattle.std.proofs.Common.{◌≡◌, [], ◌∷◌, Result, Ok, Err, true, false, rules}
use Rattle.std.specs.Prelude.{OnOk}
use Rattle.csv.specs.Records.{fields_of}
use Rattle.ojp_feed_lines.specs.Refusals.{IsTableRefusal}
use Rattle.ojp_feed_lines.proofs.CauseFacts.{begins, head_refused, no_head}
use Rattle.ojp_feed_lines.proofs.Explained.{on_err, passed_is, passed_on, passed_read, row_is_read, row_is_table}
use Rattle.ojp_feed_lines.proofs.rows.take_table.Goals as goal

pub returns-in_err-columns-clause-refused : goal.returns-in_err-columns-clause-refused
returns-in_err-columns-clause-refused g c =
    passed_on c.from_residual-in_err-columns.result c.in_err-columns.field-0.0 (IsTableRefusal c.args.table.now.file) c.from_residual-in_err-columns.ensures.1
    (row_is_table _ _ (rw c.next.ensures.file at c.in_err-columns.ensures.refused))

pub returns-in_err-columns-clause-unread : goal.returns-in_err-columns-clause-unread
returns-in_err-columns-clause-unread g c =
    passed_read c.from_residual-in_err-columns.result c.in_err-columns.field-0.0 _ c.from_residual-in_err-columns.ensures.1
    (row_is_read _ _ c.in_err-columns.ensures.refused)

on_ok : {T E A B : Type 0} (result : Result T E) → OnOk result A → (A → B) → OnOk result B
on_ok (Ok value) h f = f h
on_ok (Err refused) h f = h

pub returns-clause-taken : goal.returns-clause-taken
returns-clause-taken g c =
    on_ok c.take_rows.result c.take_rows.ensures.taken
    (λ rest bytes read none.
    let found : c.next.result ≡ Ok true = search rules in
    let head = fields_of c.next.new.self.row in
    let (all, ended, held) = rest bytes head (c.next.ensures.row found bytes [] read) (none c.in_ok-columns.columns) in
    record {
      columns = c.in_ok-columns.columns;
      head = head;
      rows = all;
      all = ended;
      placed = c.in_ok-columns.ensures.places;
      held = held;
    })

pub returns-in_err-next-clause-why : goal.returns-in_err-next-clause-why
returns-in_err-next-clause-why g c =
    rw (passed_is c.from_residual.result c.in_err-next.field-0.0 c.from_residual.ensures.1)
    (λ text read none. c.in_err-next.ensures.why g.T.Rows.file text [] read)

pub returns-then-not-branch-clause-why : goal.returns-then-not-branch-clause-why
returns-then-not-branch-clause-why g c =
    λ text read none.
    let ended : c.next.result ≡ Ok false = search rules in
    no_head g.T.Rows.file text c.args.key c.refused.result c.refused.ensures.reason (c.next.ensures.end ended text [] read) c.requires

pub returns-in_err-columns-clause-why : goal.returns-in_err-columns-clause-why
returns-in_err-columns-clause-why g c =
    rw (passed_is c.from_residual-in_err-columns.result c.in_err-columns.field-0.0 c.from_residual-in_err-columns.ensures.1)
    (λ text read none.
    let found : c.next.result ≡ Ok true = search rules in
    let head = fields_of c.next.new.self.row in
    head_refused g.T.Rows.file text head c.in_err-columns.field-0.0
    (begins g.F.Read.remaining c.next.new.self.rows text (head ∷ []) (c.next.ensures.row found text [] read)) c.in_err-columns.ensures.why)

pub returns-clause-why : goal.returns-clause-why
returns-clause-why g c =
    on_err c.take_rows.result _ _ c.take_rows.ensures.why
    (λ e why text read none.
    let found : c.next.result ≡ Ok true = search rules in
    let head = fields_of c.next.new.self.row in
    why text head (c.next.ensures.row found text [] read) c.in_ok-columns.ensures.places (none c.in_ok-columns.columns))
