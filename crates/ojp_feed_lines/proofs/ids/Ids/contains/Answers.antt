use Rattle.ojp_feed_lines.proofs.IdFacts.{not_found}
use Rattle.ojp_feed_lines.proofs.ids.Ids.contains.Goals as goal

pub returns : goal.returns
returns c =
    λ no. not_found c.args.self.now.ids.keys c.args.id.now c.contains.result c.contains.ensures no
