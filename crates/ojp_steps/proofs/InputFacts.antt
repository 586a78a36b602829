-- What a told input excludes.
use Rattle.std.proofs.Common.{◌≡◌, ℕ, refl, sym, subst}
use Rattle.std.proofs.KnownBytes.{Consumes-whole}
use Rattle.ojp_values.specs.Texts.{Text}
use Rattle.ojp_values.specs.declared.documents.Doc.{Doc}
use Rattle.ojp_grammar.specs.Documents.{IsWanted, Spells}
use Rattle.ojp_grammar.specs.Places.{IsDocumentRefused}
use Rattle.ojp_grammar.specs.declared.refusals.Reason.{Reason}
use Rattle.ojp_grammar.specs.declared.refusals.Want.{Want}
use Rattle.ojp_outside.specs.Seen.{SourceView}
use Rattle.ojp_steps.specs.Lent.{Lent, before, after}
use Rattle.ojp_steps.specs.Inputs.{IsDocumentOf, IsNoDocument, FailsToRead, IsHeard}
use Rattle.ojp_steps.proofs.FileFacts.{rests_or_rose, told_is}

module _ {I : Type 0} (want : Want) (input : Lent I SourceView) (bytes : Text) (heard : IsHeard input bytes) where
  pub reads : FailsToRead input → ⊥
  reads fails = rests_or_rose (before input).faults (after input).faults heard.rests fails.rose

  pub spelled_or_refused : (doc : Doc) (at : ℕ) (reason : Reason) → IsDocumentOf want input doc → IsDocumentRefused want bytes at reason → ⊥
  spelled_or_refused doc at reason is refused =
      let same : bytes ≡ is.bytes =
      told_is (λ (x : Text). x ≡ is.bytes) (before input).left bytes heard.told (Consumes-whole (before input).left (after input).left is.bytes (λ x. x ≡ is.bytes) is.taken is.at_end refl) in
      refused.none doc is.wanted (subst (Spells doc) (sym same) is.spells)

  pub refused_or_spelled : (doc : Doc) (at : ℕ) (reason : Reason) → IsNoDocument want input at reason → IsWanted want doc → Spells doc bytes → ⊥
  refused_or_spelled doc at reason is wanted spells =
      (told_is (λ (x : Text). IsDocumentRefused want x at reason) (before input).left bytes heard.told is.refused).none doc wanted spells
