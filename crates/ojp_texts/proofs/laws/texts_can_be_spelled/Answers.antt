use Rattle.ojp_texts.proofs.Spellable as facts
use Rattle.ojp_texts.proofs.laws.texts_can_be_spelled.Goals as goal

pub returns : goal.returns
returns c = facts.texts_can_be_spelled
