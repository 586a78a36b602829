use Rattle.std.proofs.Common.{◌≡◌, List, [], ◌∷◌, ◌+◌, length, ap, ◌∙◌, arith}
use Rattle.std.specs.List.{flat_map}
use Rattle.ojp_tables.specs.declared.names.TheConstants as names
use Rattle.ojp_values.specs.declared.kinds.Kind.TheVariants as kinds
use Rattle.ojp_grammar.specs.Items.{text, tag}
use Rattle.ojp_grammar.specs.Syntax.{put, put_each}
use Rattle.ojp_grammar.specs.Syntax as syntax
use Rattle.ojp_grammar.specs.Grammar.{LEG, TRIP}
use Rattle.ojp_grammar.specs.Documents.{leg_said, trip_said}
use Rattle.ojp_values.specs.declared.trips.Trip.{Trip}
use Rattle.ojp_values.specs.declared.trips.Leg.{Leg}
use Rattle.ojp_encode.specs.Writing.{spelling}
use Rattle.ojp_encode.proofs.Sizes.{sized_list, size}
use Rattle.ojp_encode.proofs.trips.TripSpelled.length.Goals as goal

whole : (s : Trip) → length (spelling TRIP (trip_said s)) ≡ size (put (syntax.both (syntax.text names.TRIP) (syntax.both (syntax.leaf names.DURATION kinds.Seconds) (syntax.both (syntax.leaf names.START_TIME kinds.Moment) (syntax.both (syntax.leaf names.END_TIME kinds.Moment) (syntax.leaf names.TRANSFERS kinds.Count))))) (tt, ((tt, s.duration), ((tt, s.start), ((tt, s.end), (tt, s.transfers))))) []) + (length (flat_map (λ x. spelling LEG (leg_said x)) s.legs) + size (tag (names.TRIP + 1) ∷ []))
unfolding spelling
whole s = sized_list (syntax.both (syntax.text names.TRIP) (syntax.both (syntax.leaf names.DURATION kinds.Seconds) (syntax.both (syntax.leaf names.START_TIME kinds.Moment) (syntax.both (syntax.leaf names.END_TIME kinds.Moment) (syntax.leaf names.TRANSFERS kinds.Count))))) (tt, ((tt, s.duration), ((tt, s.start), ((tt, s.end), (tt, s.transfers))))) LEG leg_said s.legs (tag (names.TRIP + 1) ∷ [])

pub returns-clause-value : goal.returns-clause-value
unfolding text
returns-clause-value c =
    let each : c.length_each.result ≡ length (flat_map (λ x. spelling LEG (leg_said x)) c.args.self.now.legs) = c.length_each.ensures.value ∙ ap (λ (l : List Leg). length (flat_map (λ x. spelling LEG (leg_said x)) l)) c.as_slice-legs.ensures in
    omega (arith, whole c.args.self.now, each)
