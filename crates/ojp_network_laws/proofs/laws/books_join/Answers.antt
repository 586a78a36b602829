use Rattle.ojp_network_laws.proofs.Joins as facts
use Rattle.ojp_network_laws.proofs.laws.books_join.Goals as goal

pub returns : goal.returns
returns c = facts.books_join
