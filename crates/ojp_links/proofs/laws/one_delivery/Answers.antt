use Rattle.ojp_links.proofs.ServedFacts.{one_of_bytes}
use Rattle.ojp_links.proofs.laws.one_delivery.Goals as goal

pub returns : goal.returns
returns c bytes more delivery other reply longer =
    one_of_bytes c.one_spelling.ensures c.one_body.ensures c.no_reply_begins_another.ensures bytes more delivery other reply longer
