use Rattle.std.proofs.Common.{◌∙◌, Some, refl, sym}
use Rattle.std.proofs.lemmas.Bool.{false≢true}
use Rattle.csv.specs.Records.{fields_of}
use Rattle.ojp_feed_lines.proofs.CauseFacts.{bad_field, other_zone}
use Rattle.ojp_feed_lines.proofs.Explained.{passed_is}
use Rattle.ojp_feed_lines.proofs.StandFacts.{zone_more}
use Rattle.ojp_feed_lines.specs.declared.files.FeedFile.TheVariants.{Agency}
use Rattle.ojp_feed_lines.specs.declared.columns.Column.TheVariants as columns
use Rattle.ojp_feed_lines.proofs.agency.ZoneRowsRows.take_row.Goals as goal

pub returns-then-is_same-clause-taken : goal.returns-then-is_same-clause-taken
returns-then-is_same-clause-taken g c =
    λ rows held.
    let same = sym c.field.ensures ∙ c.is_same.ensures.0 c.if-is_same.true ∙ c.as_str.ensures.value in
    rw c.in-Some.is (zone_more c.in-Some.name c.args.column rows (fields_of c.args.table.now.row) (rw c.in-Some.is at held) same)

pub returns-in_err-name-in-None-clause-why : goal.returns-in_err-name-in-None-clause-why
returns-in_err-name-in-None-clause-why g c =
    rw (passed_is c.from_residual.result c.in_err-name-in-None.field-0.0 c.from_residual.ensures.1)
    (λ head above placed held.
    bad_field Agency columns.AgencyTimezone head above (fields_of c.args.table.now.row) (Some c.args.column) c.in_err-name-in-None.field-0.0 refl placed
    c.in_err-name-in-None.ensures.why.0 c.in_err-name-in-None.ensures.why.1)

pub returns-else-is_same-clause-why : goal.returns-else-is_same-clause-why
returns-else-is_same-clause-why g c =
    λ head above placed held.
    other_zone head above (fields_of c.args.table.now.row) c.args.column c.in-Some.name c.refused.result placed (rw c.in-Some.is at held)
    (λ same. false≢true (sym c.if-is_same.false ∙ c.is_same.ensures.1 (c.field.ensures ∙ same ∙ sym c.as_str.ensures.value))) c.refused.ensures.reason
