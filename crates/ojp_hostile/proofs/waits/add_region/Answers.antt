use Rattle.std.proofs.Common.{ap, sym, ◌∙◌}
use Rattle.std.specs.List.{list_any}
use Rattle.ojp_values.specs.Texts.{Text, same}
use Rattle.ojp_links_mem.specs.Memory.{links_of}
use Rattle.ojp_hostile.proofs.CodeFacts.{new_code}
use Rattle.ojp_hostile.proofs.ReadyFacts.{one_more}
use Rattle.ojp_hostile.proofs.waits.add_region.Goals as goal

pub add-requires : goal.add-requires
add-requires c =
    let held = ap (list_any (λ (other : Text). same other c.in-Ok.code)) c.as_slice.ensures.value in
    new_code (links_of c.args.links.now) c.args.codes.now.items c.in-Ok.code c.requires.are (sym held ∙ (sym c.has_code.ensures ∙ c.if-has_code.false))

pub returns : goal.returns
returns c = one_more (links_of c.args.links.now) (links_of c.add.new.self) c.args.codes.now.items c.push.new.self.items c.in-Ok.code c.args.name.now 80 c.requires c.in-Ok-add.ensures.ok c.in-Ok-push.ensures.items
