use Rattle.ojp_texts.proofs.SpelledText as facts
use Rattle.ojp_texts.proofs.laws.spelled_is_text.Goals as goal

pub returns : goal.returns
returns c = facts.spelled_is_text
