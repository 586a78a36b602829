use Rattle.std.specs.Prelude.{option_map}
use Rattle.ojp_feed_lines.specs.IdTexts.{id_texts}
use Rattle.ojp_feed_lines.specs.Refusals.{ExplainsAll}
use Rattle.ojp_feed_lines.proofs.Explained.{operator_explained, operator_is_read, passed_on, passed_read}
use Rattle.ojp_feed_lines.proofs.reading.read_feed.Goals as goal

pub returns-in_err-operator-clause-unread : goal.returns-in_err-operator-clause-unread
returns-in_err-operator-clause-unread g c =
    passed_read c.from_residual-in_err-operator.result c.in_err-operator.field-0.0 _ c.from_residual-in_err-operator.ensures.1
    (operator_is_read c.args.asked.code c.args.asked.operator (id_texts c.in_ok-places.places.stops.ids) c.in_err-operator.field-0.0 c.in_err-operator.ensures)

pub returns-in_err-operator-clause-refused : goal.returns-in_err-operator-clause-refused
returns-in_err-operator-clause-refused g c =
    passed_on c.from_residual-in_err-operator.result c.in_err-operator.field-0.0
    (ExplainsAll (g.D.Folder.seen c.args.folder.now).contents c.args.asked.code (option_map (λ lines. lines.now) c.args.asked.operator))
    c.from_residual-in_err-operator.ensures.1
    (operator_explained (g.D.Folder.seen c.args.folder.now).contents c.args.asked.code c.args.asked.operator (id_texts c.in_ok-places.places.stops.ids)
    c.in_err-operator.field-0.0 (rw c.read_zone_name.ensures.kept at c.in_ok-places.ensures.ids) c.in_err-operator.ensures)

pub returns-clause-zone : goal.returns-clause-zone
returns-clause-zone g c = rw c.feed_of.ensures.zone c.in_ok-zone_name.ensures.told

pub returns-clause-routes : goal.returns-clause-routes
returns-clause-routes g c = rw c.feed_of.ensures.routes (rw c.read_zone_name.ensures.kept at c.in_ok-places.ensures.routes)
