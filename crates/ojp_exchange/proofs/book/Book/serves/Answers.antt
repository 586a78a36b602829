use Rattle.std.proofs.Common.{◌∙◌, ap}
use Rattle.ojp_exchange.specs.Book.{is_home}
use Rattle.ojp_exchange.proofs.SpotFacts.{serves_away, serves_own}
use Rattle.ojp_exchange.proofs.book.Book.serves.Goals as goal

pub returns-then-is_home : goal.returns-then-is_home
returns-then-is_home c = serves_own c.args.self.now c.args.region c.args.stop c.is_home.result (c.is_home.ensures ∙ ap (is_home c.args.region) c.region.ensures) c.if-is_home.true

pub returns : goal.returns
returns c =
    serves_away c.args.self.now c.args.region c.args.stop c.is_home.result c.place_of.result c.is_some.result (c.is_home.ensures ∙ ap (is_home c.args.region) c.region.ensures) c.if-is_home.false c.is_some.ensures c.place_of.ensures
