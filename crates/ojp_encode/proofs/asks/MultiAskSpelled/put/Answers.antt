use Rattle.std.proofs.Common.{List, ℕ, [], ◌∷◌, ◌+◌, refl, ap, All}
use Rattle.ojp_tables.specs.declared.names.TheConstants as names
use Rattle.ojp_grammar.specs.Items.{text, tag}
use Rattle.ojp_grammar.specs.Fields.{field_text}
use Rattle.ojp_grammar.specs.Syntax.{Fits}
use Rattle.ojp_grammar.specs.Syntax as syntax
use Rattle.ojp_grammar.specs.Grammar.{FROM, TO, MULTI_ASK}
use Rattle.ojp_grammar.specs.Documents.{from_said, to_said, multi_ask_said}
use Rattle.ojp_encode.specs.Writing.{spelling}
use Rattle.ojp_encode.proofs.Filling.{Writes-list, cons-same}
use Rattle.ojp_encode.proofs.Sequences.{Writes-same}
use Rattle.ojp_encode.proofs.Fitting.{ok_then, from_fits, list_fits}
use Rattle.ojp_encode.proofs.asks.MultiAskSpelled.put.Goals as goal

pub returns-clause-spelled : goal.returns-clause-spelled
unfolding spelling text field_text
returns-clause-spelled g c =
    Writes-same _ _ _ _ _ _ _
    (Writes-list (syntax.both (syntax.text names.OJP_MULTI_POINT_TRIP_REQUEST) FROM) (tt, from_said c.args.self.now.origin c.args.self.now.start) TO to_said c.as_slice-targets.result.now (tag (names.OJP_MULTI_POINT_TRIP_REQUEST + 1) ∷ []) _ _ _ _ _ (c.text-origin.result.now ∷ c.text.result ∷ []) c.put_list.ensures.spelled (cons-same _ _ _ _ c.text-origin.ensures.value (cons-same _ _ _ _ c.text.ensures.value refl)))
    (ap (λ (l : List (List ℕ)). spelling MULTI_ASK (multi_ask_said (record c.args.self.now { targets = l }))) c.as_slice-targets.ensures)

pub returns-clause-fits : goal.returns-clause-fits
returns-clause-fits g c =
    let each : All (λ (x : List ℕ). Fits TO (to_said x)) c.as_slice-targets.result.now → Fits MULTI_ASK (multi_ask_said c.args.self.now) = λ h. (tt, (from_fits c.args.self.now.origin c.args.self.now.start c.text-origin.ensures.well c.text.ensures.well, list_fits 1 256 TO (syntax.text (names.OJP_MULTI_POINT_TRIP_REQUEST + 1)) to_said c.as_slice-targets.result.now c.args.self.now.targets tt c.as_slice-targets.ensures c.requires.0 c.requires.1 tt h)) in
    ok_then _ (All (λ (x : List ℕ). Fits TO (to_said x)) c.as_slice-targets.result.now) (Fits MULTI_ASK (multi_ask_said c.args.self.now)) each c.put_list.ensures.fits
