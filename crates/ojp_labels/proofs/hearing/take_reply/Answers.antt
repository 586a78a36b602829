use Rattle.std.proofs.Common.{Option, subst, sym}
use Rattle.ojp_values.specs.declared.replies.Delivery.{Delivery}
use Rattle.ojp_records.specs.Pairs.{ends_towards}
use Rattle.ojp_labels.specs.Hearing.{told_in, Follow}
use Rattle.ojp_labels.proofs.hearing.take_reply.Goals as goal

pub returns-in-Some-clause-follow : goal.returns-in-Some-clause-follow
returns-in-Some-clause-follow c =
    subst (λ (r : Option Delivery). Follow c.args.book.now c.args.ask.now (told_in c.args.ask.now c.args.region (ends_towards c.args.book.now c.args.ask.now.target c.args.stop c.args.region) r) c.args.labels.now.items c.take_delivery.new.labels.items) (sym c.in-Some.is) c.take_delivery.ensures.follow
