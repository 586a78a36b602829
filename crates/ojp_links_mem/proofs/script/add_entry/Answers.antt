use Rattle.std.proofs.Common.{sym, ◌∙◌}
use Rattle.ojp_links_mem.proofs.ScriptFacts.{more_said, same_said}
use Rattle.ojp_links_mem.proofs.script.add_entry.Goals as goal

pub returns-then-contains_key : goal.returns-then-contains_key
returns-then-contains_key c = same_said c.args.said.now c.args.entry (sym c.contains_key.ensures ∙ c.if-contains_key.true)

pub returns-in-Ok : goal.returns-in-Ok
returns-in-Ok c = more_said c.args.said.now c.insert.new.self c.args.entry c.in-Ok.ensures.updates (sym c.contains_key.ensures ∙ c.if-contains_key.false)
