use Rattle.std.proofs.Common.{◌∙◌, ap, sym, nat_eq}
use Rattle.std.specs.List.{starts_with}
use Rattle.ojp_tables.specs.Texts.{front_of}
use Rattle.ojp_tables.proofs.Positions.{position-map}
use Rattle.ojp_tables.proofs.table.Table.front_of.Goals as goal

pub returns : goal.returns
returns g c =
    c.first_prefix.ensures
    ∙ (sym (position-map (λ text. starts_with nat_eq c.args.bytes.now text) (λ text. text.now) c.self.inside.texts.now)
    ∙ ap (λ texts. front_of texts c.args.bytes.now) c.self.view_is)
