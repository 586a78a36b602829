use Rattle.std.proofs.Common.{ap, sym, ◌∙◌}
use Rattle.std.specs.List.{list_any}
use Rattle.ojp_values.specs.Texts.{Text, same}
use Rattle.ojp_hostile.proofs.CodeFacts.{tables_more}
use Rattle.ojp_hostile.proofs.tables.add_table.Goals as goal

pub returns : goal.returns
returns c =
    let code = c.region-code.result in
    let held = ap (list_any (λ (other : Text). same other code)) c.as_slice.ensures.value in
    tables_more c.args.tables.now.items c.add.new.items.items c.args.table c.args.codes.now.items _ code c.region-code.ensures c.requires (sym held ∙ (sym c.has_code.ensures ∙ c.if-has_code.false)) c.in_ok-add.ensures c.in_ok-add-2.ensures
