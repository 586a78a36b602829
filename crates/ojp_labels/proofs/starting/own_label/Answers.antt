use Rattle.std.proofs.Common.{sym, ◌∙◌}
use Rattle.ojp_exchange.proofs.BookFacts.{serves_home}
use Rattle.ojp_labels.proofs.StartingFacts.{own_label, no_own_label}
use Rattle.ojp_labels.proofs.starting.own_label.Goals as goal

pub first_label-requires : goal.first_label-requires
first_label-requires c = serves_home c.args.book.now c.in-Some.region c.args.ask.now.origin (sym c.region.ensures ∙ c.in-Some.is)

pub returns-in-Some : goal.returns-in-Some
returns-in-Some c = own_label c.args.book.now c.args.ask.now c.in-Some.region c.first_label.result (sym c.region.ensures ∙ c.in-Some.is) c.first_label.ensures

pub returns-in-None : goal.returns-in-None
returns-in-None c = no_own_label c.args.book.now c.args.ask.now _ (sym c.region.ensures ∙ c.in-None.is)
