-- What was asked last at a number.
use Rattle.std.proofs.Common.{◌≡◌, ℕ, ◌<◌, Bool, true, false, List, Option, Some, None, length, get_or, slice_get, refl, sym, ◌∙◌, ap}
use Rattle.std.specs.Prelude.{MatchBool}
use Rattle.std.proofs.lemmas.Bool.{true≢false}
use Rattle.std.proofs.lemmas.Option.{none-some, same_Some, slice_get_read}
use Rattle.ojp_records.specs.declared.queries.Query.{Query}
use Rattle.ojp_records.specs.Records.{same_query}
use Rattle.ojp_records.proofs.RecordFacts.{same_query_is, is_same_query}
use Rattle.ojp_turns.specs.Slots.{IsLastAt}

matched : (last : List (Option Query)) (number : ℕ) (query found : Query) (r : Bool) → slice_get last number ≡ Some (Some found) → r ≡ same_query found query → MatchBool r (IsLastAt last number query) (IsLastAt last number query → ⊥)
matched last number query found true at e = at ∙ ap (λ (q : Query). Some (Some q)) (same_query_is found query (sym e))
matched last number query found false at e =
    λ is. true≢false (sym (is_same_query found query (same_Some found query (same_Some (Some found) (Some query) (sym at ∙ is)))) ∙ sym e)

pub last_by : (last : List (Option Query)) (number : ℕ) (query found : Query) (x : Option Query) (r : Bool) → number < length last → x ≡ get_or last number x → x ≡ Some found → r ≡ same_query found query
    → MatchBool r (IsLastAt last number query) (IsLastAt last number query → ⊥)
last_by last number query found x r within at is e = matched last number query found r (slice_get_read last (length last) number x refl within at ∙ ap Some is) e

pub none_last : (last : List (Option Query)) (number : ℕ) (query : Query) (x : Option Query) → number < length last → x ≡ get_or last number x → x ≡ None → IsLastAt last number query → ⊥
none_last last number query x within at is here =
    let found : slice_get last number ≡ Some None = slice_get_read last (length last) number x refl within at ∙ ap Some is in
    none-some query (same_Some None (Some query) (sym found ∙ here))
