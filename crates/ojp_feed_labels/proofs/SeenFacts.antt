-- Labels that were seen, each with the place where it stands.
use Rattle.std.proofs.Common.{◌≡◌, ◌≢◌, ℕ, ◌<◌, List, [], ◌∷◌, ◌++◌, length, get_or, Some, None, inl, inr, sym, ◌∙◌, subst, arith}
use Rattle.std.specs.Str.{bytes_eq}
use Rattle.std.proofs.lemmas.Bool.{cases_Bool, cases_lt, cond-false, cond-true, false≢true}
use Rattle.std.proofs.lemmas.List.{get_or_append_left, get_or_push, length_push}
use Rattle.std.proofs.lemmas.Option.{none-some, same_Some}
use Rattle.std.proofs.lemmas.Slice.Eq.{bytes_eq-Decides}
use Rattle.indexmap.specs.IndexMap.{IndexMap, IsEmpty, get, Updates}
use Rattle.std.specs.Map.{lookup}
use Rattle.ojp_values.specs.Texts.{Text}

-- the label stands at that place
pub record StandsAt (labels : List Text) (label : Text) (place : ℕ) : Type 0 where
  pub within : place < length labels
  pub at : (d : Text) → get_or labels place d ≡ label

module _ {S : Type 0} where
  -- the labels that were seen are those of the list, each with a place where it stands
  pub record AreSeen (labels : List Text) (seen : IndexMap Text ℕ S) : Type 0 where
    pub there : (label : Text) (place : ℕ) → get bytes_eq seen label ≡ Some place → StandsAt labels label place
    pub absent : (label : Text) → get bytes_eq seen label ≡ None → (k : ℕ) (d : Text) → k < length labels → get_or labels k d ≢ label

  pub seen_none : (seen : IndexMap Text ℕ S) → IsEmpty seen → AreSeen [] seen
  seen_none seen empty = record {
    there = λ label place at. absurd (none-some place (subst (λ (es : List (Text × ℕ)). lookup (bytes_eq label) es ≡ Some place) empty at));
    absent = λ label none k d h. absurd (omega (arith, h));
  }

  pub seen_more : (labels new_labels : List Text) (old new : IndexMap Text ℕ S) (count : ℕ) (label : Text) → AreSeen labels old → count ≡ length labels → new_labels ≡ labels ++ label ∷ []
      → Updates bytes_eq old new label (Some count) → AreSeen new_labels new
  seen_more labels new_labels old new count label before counted step updates =
      let long = length_push labels label in
      subst (λ (all : List Text). AreSeen all new) (sym step) (record {
        there = λ text place at.
            elim (cases_Bool (bytes_eq label text)) [
              | inl e ↦
                  let here : count ≡ place = same_Some count place (sym (updates.0 text ∙ cond-true (bytes_eq label text) (Some count) (get bytes_eq old text) e) ∙ at) in
                  record { within = omega (arith, long, here, counted); at = λ d. get_or_push labels label d place (sym counted ∙ here) ∙ (bytes_eq-Decides label text).0 e }
              | inr e ↦
                  let one = before.there text place (sym (updates.0 text ∙ cond-false (bytes_eq label text) (Some count) (get bytes_eq old text) e) ∙ at) in
                  record { within = omega (arith, long, one.within); at = λ d. get_or_append_left labels (label ∷ []) d place one.within ∙ one.at d }
            ];
        absent = λ text none k d h.
            elim (cases_Bool (bytes_eq label text)) [
              | inl e ↦ absurd (none-some count (sym none ∙ (updates.0 text ∙ cond-true (bytes_eq label text) (Some count) (get bytes_eq old text) e)))
              | inr e ↦
                  let nothing : get bytes_eq old text ≡ None = sym (updates.0 text ∙ cond-false (bytes_eq label text) (Some count) (get bytes_eq old text) e) ∙ none in
                  elim (cases_lt k (length labels)) [
                    | inl front ↦ λ is. before.absent text nothing k d front (sym (get_or_append_left labels (label ∷ []) d k front) ∙ is)
                    | inr last ↦ λ is.
                        let same : label ≡ text = sym (get_or_push labels label d k (omega (arith, long, last, h))) ∙ is in
                        false≢true (sym e ∙ (bytes_eq-Decides label text).1 same)
                  ]
            ];
      })
