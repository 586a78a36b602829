use Rattle.std.proofs.Common.{sym, rules, []}
use Rattle.std.proofs.lemmas.List.{get_or_past}
use Rattle.ojp_tables.specs.Markup.{MARKUP_TEXTS}
use Rattle.ojp_grammar.specs.Items.{text}
use Rattle.ojp_grammar.proofs.machine.text_of.Goals as goal

pub returns-then-n-lt99 : goal.returns-then-n-lt99
unfolding text
returns-then-n-lt99 c = search rules

pub returns-else-n-lt99 : goal.returns-else-n-lt99
unfolding text
returns-else-n-lt99 c = sym (get_or_past MARKUP_TEXTS c.args.n [] c.if-n-lt99.false)
