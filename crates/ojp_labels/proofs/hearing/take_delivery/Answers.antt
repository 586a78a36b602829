use Rattle.std.proofs.Common.{Some, subst, sym}
use Rattle.ojp_values.specs.declared.replies.Delivery.{Delivery}
use Rattle.ojp_records.specs.Pairs.{ends_towards}
use Rattle.ojp_labels.specs.Hearing.{told_in, Follow}
use Rattle.ojp_labels.proofs.hearing.take_delivery.Goals as goal

pub returns-in-Multi-clause-follow : goal.returns-in-Multi-clause-follow
returns-in-Multi-clause-follow c =
    subst (λ (r : Delivery). Follow c.args.book.now c.args.ask.now (told_in c.args.ask.now c.args.region (ends_towards c.args.book.now c.args.ask.now.target c.args.stop c.args.region) (Some r)) c.args.labels.now.items c.take_multi.new.labels.items) (sym c.in-Multi.is) c.take_multi.ensures.follow
