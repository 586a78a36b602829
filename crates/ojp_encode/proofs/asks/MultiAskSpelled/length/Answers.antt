use Rattle.std.proofs.Common.{◌≡◌, List, ℕ, [], ◌∷◌, ◌+◌, length, ap, ◌∙◌, arith}
use Rattle.std.specs.List.{flat_map}
use Rattle.ojp_tables.specs.declared.names.TheConstants as names
use Rattle.ojp_grammar.specs.Items.{text, tag}
use Rattle.ojp_grammar.specs.Syntax.{put, put_each}
use Rattle.ojp_grammar.specs.Syntax as syntax
use Rattle.ojp_grammar.specs.Grammar.{FROM, TO, MULTI_ASK}
use Rattle.ojp_grammar.specs.Documents.{from_said, to_said, multi_ask_said}
use Rattle.ojp_values.specs.declared.asks.MultiAsk.{MultiAsk}
use Rattle.ojp_encode.specs.Writing.{spelling}
use Rattle.ojp_encode.proofs.Sizes.{sized_list, size}
use Rattle.ojp_encode.proofs.asks.MultiAskSpelled.length.Goals as goal

whole : (s : MultiAsk) → length (spelling MULTI_ASK (multi_ask_said s)) ≡ size (put (syntax.both (syntax.text names.OJP_MULTI_POINT_TRIP_REQUEST) FROM) (tt, from_said s.origin s.start) []) + (length (flat_map (λ x. spelling TO (to_said x)) s.targets) + size (tag (names.OJP_MULTI_POINT_TRIP_REQUEST + 1) ∷ []))
unfolding spelling
whole s = sized_list (syntax.both (syntax.text names.OJP_MULTI_POINT_TRIP_REQUEST) FROM) (tt, from_said s.origin s.start) TO to_said s.targets (tag (names.OJP_MULTI_POINT_TRIP_REQUEST + 1) ∷ [])

pub returns-clause-value : goal.returns-clause-value
unfolding text
returns-clause-value c =
    let each : c.length_each.result ≡ length (flat_map (λ x. spelling TO (to_said x)) c.args.self.now.targets) = c.length_each.ensures.value ∙ ap (λ (l : List (List ℕ)). length (flat_map (λ x. spelling TO (to_said x)) l)) c.as_slice-targets.ensures in
    omega (arith, whole c.args.self.now, each)
