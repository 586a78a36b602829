use Rattle.std.proofs.Common.{sym, subst}
use Rattle.ojp_links.specs.Seen.{View}
use Rattle.ojp_values.specs.Limits.{IsWellDelivery}
use Rattle.ojp_values.specs.declared.asks.Ask.{Ask}
use Rattle.ojp_gateway.specs.Answers.{Answers}
use Rattle.ojp_gateway.proofs.AnswerFacts.{points_answered, unserved_events, unserved_multi}
use Rattle.ojp_gateway.proofs.answering.begin.Goals as goal

pub returns-in-Multi-clause-begins : goal.returns-in-Multi-clause-begins
returns-in-Multi-clause-begins c =
    let answer = c.without_search.result in (
      λ (v : View).
          subst (λ (ask : Ask). Answers c.args.book.now v v answer.told ask answer.delivery) (sym c.in-Multi.is)
          (unserved_multi c.args.book.now v c.in-Multi.field-0 answer.told answer.delivery c.without_search.ensures.told c.without_search.ensures.delivery),
      subst IsWellDelivery (sym c.without_search.ensures.delivery) tt,
    )

pub returns-in-Events-clause-begins : goal.returns-in-Events-clause-begins
returns-in-Events-clause-begins c =
    let answer = c.without_search-in-Events.result in (
      λ (v : View).
          subst (λ (ask : Ask). Answers c.args.book.now v v answer.told ask answer.delivery) (sym c.in-Events.is)
          (unserved_events c.args.book.now v c.in-Events.field-0 answer.told answer.delivery c.without_search-in-Events.ensures.told c.without_search-in-Events.ensures.delivery),
      subst IsWellDelivery (sym c.without_search-in-Events.ensures.delivery) tt,
    )

pub returns-in-Ok-clause-begins : goal.returns-in-Ok-clause-begins
returns-in-Ok-clause-begins c =
    let answer = c.in-Ok.answer in (
      λ (v : View).
          subst (λ (ask : Ask). Answers c.args.book.now v v answer.told ask answer.delivery) (sym c.in-Points.is)
          (points_answered c.args.book.now v c.in-Points.ask answer.told answer.delivery c.in-Ok.ensures.told c.in-Ok.ensures.points),
      c.in-Ok.ensures.well,
    )
