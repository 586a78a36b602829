use Rattle.std.proofs.Common.{Some, List, ap, ◌∙◌, subst, sym}
use Rattle.ojp_values.specs.declared.replies.Delivery.TheVariants as deliveries
use Rattle.ojp_values.specs.declared.replies.MultiReply.{MultiReply}
use Rattle.ojp_values.specs.declared.replies.TripResult.{TripResult}
use Rattle.ojp_records.specs.Pairs.{ends_towards}
use Rattle.ojp_labels.specs.Hearing.{told_in, told_by, Follow}
use Rattle.ojp_labels.proofs.hearing.take_multi.Goals as goal

pub returns-in-Results-clause-follow : goal.returns-in-Results-clause-follow
returns-in-Results-clause-follow c =
    subst (λ (r : MultiReply). Follow c.args.book.now c.args.ask.now (told_in c.args.ask.now c.args.region (ends_towards c.args.book.now c.args.ask.now.target c.args.stop c.args.region) (Some (deliveries.Multi r))) c.args.labels.now.items c.take_results.new.labels.items) (sym c.in-Results.is)
    (subst (λ (found : List TripResult). Follow c.args.book.now c.args.ask.now (told_by c.args.ask.now c.args.region (ends_towards c.args.book.now c.args.ask.now.target c.args.stop c.args.region) found) c.args.labels.now.items c.take_results.new.labels.items) c.as_slice.ensures c.take_results.ensures.follow)
