use Rattle.std.proofs.Common.{◌∙◌}
use Rattle.ojp_gateway.proofs.LengthFacts.{points_well}
use Rattle.ojp_gateway.proofs.answering.answer_points.Goals as goal

pub returns-clause-well : goal.returns-clause-well
returns-clause-well c =
    points_well c.args.book.now c.args.ask.now.place c.without_search.result.delivery c.is_well.ensures
    (c.in_ok-points.points, c.in_ok-points.ensures, c.without_search.ensures.delivery ∙ c.delivery_of_points.ensures)
