use Rattle.std.proofs.Common.{◌≡◌, Ok, true, false, rules}
use Rattle.csv.specs.Records.{fields_of}
use Rattle.ojp_feed_lines.specs.IdTexts.{id_texts}
use Rattle.ojp_feed_lines.specs.ServiceDates.{IsDateOf}
use Rattle.ojp_feed_lines.specs.declared.services.Dated.{Dated}
use Rattle.ojp_feed_lines.proofs.CauseFacts.{date_doubled}
use Rattle.ojp_feed_lines.proofs.DateFacts.{dated_above, dates_more, holds_on}
use Rattle.ojp_feed_lines.proofs.Explained.{passed_is}
use Rattle.ojp_feed_lines.proofs.services.DatedRowsRows.take_row.Goals as goal

pub returns-in_err-service-clause-why : goal.returns-in_err-service-clause-why
returns-in_err-service-clause-why g c =
    rw (passed_is c.from_residual.result c.in_err-service.field-0.0 c.from_residual.ensures.1)
    (λ head above placed held. c.in_err-service.ensures.why head above placed.id)

pub returns-in_err-exception-clause-why : goal.returns-in_err-exception-clause-why
returns-in_err-exception-clause-why g c =
    rw (passed_is c.from_residual-in_err-exception.result c.in_err-exception.field-0.0 c.from_residual-in_err-exception.ensures.1)
    (λ head above placed held. c.in_err-exception.ensures.why head above placed)

pub returns-then-not-branch-clause-why : goal.returns-then-not-branch-clause-why
returns-then-not-branch-clause-why g c =
    let there : c.keep_date.result ≡ Ok false = search rules in
    λ head above placed held.
    let dated : Dated = record { service = c.in_ok-service.service; day = c.in_ok-exception.exception.day } in
    let is : IsDateOf (id_texts c.service_of.new.services.ids) c.args.columns (fields_of c.args.table.now.row) dated =
    record { service = c.in_ok-service.ensures.number; day = c.in_ok-exception.ensures.day } in
    let (other, among, date, service) =
    dated_above (id_texts c.args.self.now.services.ids) (id_texts c.service_of.new.services.ids) c.args.self.now.dated.keys c.args.columns head above (fields_of c.args.table.now.row) dated
    c.in_ok-service.ensures.kept placed held is (c.keep_date.ensures.there there)
    in
    date_doubled head above (fields_of c.args.table.now.row) other c.refused.result among date service c.refused.ensures.reason

pub returns-clause-taken : goal.returns-clause-taken
returns-clause-taken g c =
    let fresh : c.keep_date.result ≡ Ok true = search rules in
    let dated : Dated = record { service = c.in_ok-service.service; day = c.in_ok-exception.exception.day } in
    let is : IsDateOf (id_texts c.service_of.new.services.ids) c.args.columns (fields_of c.args.table.now.row) dated =
    record { service = c.in_ok-service.ensures.number; day = c.in_ok-exception.ensures.day } in
    holds_on c.add_exception.result
    (λ rows held.
    dates_more (id_texts c.args.self.now.services.ids) (id_texts c.service_of.new.services.ids) c.args.self.now.dated.keys c.keep_date.new.dates.keys c.args.columns rows
    (fields_of c.args.table.now.row) dated c.in_ok-service.ensures.kept (c.keep_date.ensures.kept fresh) is held)
