use Rattle.std.proofs.Common.{◌∙◌, ap, sym, nat_eq}
use Rattle.std.specs.Cmp.Lexicographic.{pointwise}
use Rattle.ojp_tables.specs.Texts.{place_of}
use Rattle.ojp_tables.proofs.Positions.{position-map}
use Rattle.ojp_tables.proofs.table.Table.place_of.Goals as goal

pub returns : goal.returns
returns g c =
    c.first_equal.ensures
    ∙ (sym (position-map (λ text. pointwise nat_eq text c.args.bytes.now) (λ text. text.now) c.self.inside.texts.now)
    ∙ ap (λ texts. place_of texts c.args.bytes.now) c.self.view_is)
