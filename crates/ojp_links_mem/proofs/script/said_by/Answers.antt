use Rattle.std.proofs.Common.{Option, ap, sym, ◌∙◌}
use Rattle.ojp_links_mem.specs.Scripts.{said_more}
use Rattle.ojp_links_mem.specs.declared.script.What.{What}
use Rattle.ojp_links_mem.proofs.ScriptFacts.{none_said, said_behind}
use Rattle.ojp_links_mem.proofs.script.said_by.Goals as goal

pub entries-init : goal.entries-init
entries-init c = none_said c.new-said.result c.new-said.ensures.empty

pub entries-preserved : goal.entries-preserved
entries-preserved c =
    let entry = c.in-Some.entry in
    λ number. c.in_ok-add_entry.ensures number ∙ (ap (λ (o : Option What). said_more o entry number) (c.entries.invariant number) ∙ sym (said_behind c.entries.yielded entry number))
