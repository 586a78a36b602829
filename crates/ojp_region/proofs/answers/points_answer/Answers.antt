use Rattle.std.proofs.Common.{◌∙◌, ap, List}
use Rattle.ojp_values.specs.declared.trips.Point.{Point}
use Rattle.ojp_values.specs.declared.replies.PointsReply.{PointsReply}
use Rattle.ojp_values.specs.declared.replies.Delivery.TheVariants as deliveries
use Rattle.ojp_region.specs.Replies.{points_reply}
use Rattle.ojp_region.proofs.PointListFacts.{points_answered}
use Rattle.ojp_region.proofs.answers.points_answer.Goals as goal

pub returns : goal.returns
returns c =
    ap deliveries.Points c.points_reply.ensures
    ∙ ap (λ (found : List Point). deliveries.Points (points_reply c.args.ask.now.place found)) c.in_ok-found.ensures.among
    ∙ points_answered c.args.table.now c.args.ask.now.place c.requires.points.rising
