use Rattle.std.proofs.Common.{◌≡◌, List, [], ◌∷◌, ◌+◌, length, ap, ◌∙◌, arith}
use Rattle.std.specs.List.{flat_map}
use Rattle.ojp_tables.specs.declared.names.TheConstants as names
use Rattle.ojp_values.specs.declared.kinds.Kind.TheVariants as kinds
use Rattle.ojp_grammar.specs.Items.{text, tag}
use Rattle.ojp_grammar.specs.Syntax.{put, put_each}
use Rattle.ojp_grammar.specs.Syntax as syntax
use Rattle.ojp_grammar.specs.Grammar.{REF, NEIGHBOUR, POINT}
use Rattle.ojp_grammar.specs.Documents.{neighbour_said, point_said}
use Rattle.ojp_values.specs.declared.trips.Point.{Point}
use Rattle.ojp_values.specs.declared.trips.Neighbour.{Neighbour}
use Rattle.ojp_encode.specs.Writing.{spelling}
use Rattle.ojp_encode.proofs.Sizes.{sized_list, size}
use Rattle.ojp_encode.proofs.points.PointSpelled.length.Goals as goal

whole : (s : Point) → length (spelling POINT (point_said s)) ≡ size (put (syntax.both (syntax.text names.EXCHANGE_POINT) (syntax.both (syntax.leaf names.OPERATOR_REF kinds.Code) (syntax.both REF (syntax.leaf names.TRANSFER_DURATION kinds.Change)))) (tt, ((tt, s.region), ((tt, s.stop), (tt, s.change)))) []) + (length (flat_map (λ x. spelling NEIGHBOUR (neighbour_said x)) s.neighbours) + size (tag (names.EXCHANGE_POINT + 1) ∷ []))
unfolding spelling
whole s = sized_list (syntax.both (syntax.text names.EXCHANGE_POINT) (syntax.both (syntax.leaf names.OPERATOR_REF kinds.Code) (syntax.both REF (syntax.leaf names.TRANSFER_DURATION kinds.Change)))) (tt, ((tt, s.region), ((tt, s.stop), (tt, s.change)))) NEIGHBOUR neighbour_said s.neighbours (tag (names.EXCHANGE_POINT + 1) ∷ [])

pub returns-clause-value : goal.returns-clause-value
unfolding text
returns-clause-value c =
    let each : c.length_each.result ≡ length (flat_map (λ x. spelling NEIGHBOUR (neighbour_said x)) c.args.self.now.neighbours) = c.length_each.ensures.value ∙ ap (λ (l : List Neighbour). length (flat_map (λ x. spelling NEIGHBOUR (neighbour_said x)) l)) c.as_slice-neighbours.ensures in
    omega (arith, whole c.args.self.now, each)
