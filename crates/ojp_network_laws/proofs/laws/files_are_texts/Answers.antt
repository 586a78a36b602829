use Rattle.ojp_network_laws.proofs.Files as facts
use Rattle.ojp_network_laws.proofs.Numbered as numbers
use Rattle.ojp_network_laws.proofs.laws.files_are_texts.Goals as goal

pub returns : goal.returns
returns c = record { texts = facts.files_are_texts; accepted = numbers.files_are_accepted }
