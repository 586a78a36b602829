use Rattle.std.proofs.Common.{sym, ◌∙◌, ap}
use Rattle.ojp_zones.specs.Parts.{parts}
use Rattle.ojp_regions.specs.Lines.{form}
use Rattle.ojp_regions.proofs.ReadFacts.{fields_refused}
use Rattle.ojp_regions.proofs.line.read_line.Goals as goal

pub returns-in-Three-clause-refused : goal.returns-in-Three-clause-refused
returns-in-Three-clause-refused c =
    fields_refused c.args.text.now _ _ _ c.read_fields.result (ap (parts 32) (sym c.body.ensures) ∙ c.in-Three.ensures) c.read_fields.ensures.refused

pub returns-in-One-clause-refused : goal.returns-in-One-clause-refused
returns-in-One-clause-refused c above =
    form (λ three. let e = sym c.in-One.ensures ∙ (ap (parts 32) c.body.ensures ∙ three.3) in absurd (cc))

pub returns-in-Two-clause-refused : goal.returns-in-Two-clause-refused
returns-in-Two-clause-refused c above =
    form (λ three. let e = sym c.in-Two.ensures ∙ (ap (parts 32) c.body.ensures ∙ three.3) in absurd (cc))

pub returns-in-More-clause-refused : goal.returns-in-More-clause-refused
returns-in-More-clause-refused c above =
    form (λ three. let e = sym c.in-More.ensures.5 ∙ (ap (parts 32) c.body.ensures ∙ three.3) in absurd (cc))
