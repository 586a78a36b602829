use Rattle.std.proofs.Common.{List, ap, sym, ◌∙◌}
use Rattle.ojp_values.specs.Texts.{Text}
use Rattle.ojp_exchange.specs.Joins.{first_twice}
use Rattle.ojp_links_mem.proofs.TwiceFacts.{twice_answer}
use Rattle.ojp_links_mem.proofs.twice.twice_in.Goals as goal

pub returns : goal.returns
returns c = twice_answer _ c.in_ok-codes.codes.items c.first_twice.result c.in_ok-codes.ensures.same c.in_ok-codes.ensures.sorted (ap (λ (codes : List Text). first_twice codes) (sym c.as_slice.ensures.value) ∙ sym c.first_twice.ensures)
