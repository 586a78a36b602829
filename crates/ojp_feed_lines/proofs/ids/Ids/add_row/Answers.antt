use Rattle.std.proofs.Common.{◌≡◌, ◌∙◌, ◌++◌, ◌∷◌, [], Some, Ok, true, false, refl, rules, subst, sym}
use Rattle.std.specs.Prelude.{Contains}
use Rattle.ojp_values.specs.Texts.{Text}
use Rattle.csv.specs.Records.{fields_of}
use Rattle.ojp_feed_lines.specs.IdTexts.{id_texts}
use Rattle.ojp_feed_lines.specs.Rows.{at_place}
use Rattle.ojp_feed_lines.specs.declared.refusals.RowReason.TheVariants as reasons
use Rattle.ojp_feed_lines.proofs.CauseFacts.{empty_text, for_id}
use Rattle.ojp_feed_lines.proofs.IdFacts.{ids_more}
use Rattle.ojp_feed_lines.proofs.ids.Ids.add_row.Goals as goal

pub returns-then-is_full-clause-why : goal.returns-then-is_full-clause-why
returns-then-is_full-clause-why g c =
    for_id (id_texts c.args.self.now) (at_place (fields_of c.args.table.now.row) (Some c.args.place)) c.args.column reasons.Limit c.refused.result c.refused.ensures.reason (c.is_full.ensures c.if-is_full.true)

pub returns-then-is_empty-clause-why : goal.returns-then-is_empty-clause-why
returns-then-is_empty-clause-why g c =
    for_id (id_texts c.args.self.now) (at_place (fields_of c.args.table.now.row) (Some c.args.place)) c.args.column (reasons.Value c.args.column) c.refused-then-is_empty.result
    c.refused-then-is_empty.ensures.reason
    (refl, sym c.field-id.ensures ∙ empty_text c.field-id.result.now (sym c.is_empty.ensures ∙ c.if-is_empty.true))

pub returns-then-branch-clause-added : goal.returns-then-branch-clause-added
returns-then-branch-clause-added g c =
    let added : c.add.result ≡ Ok true = search rules in
    subst (λ (t : Text). id_texts c.add.new.self ≡ id_texts c.args.self.now ++ t ∷ []) c.field-id.ensures (c.add.ensures.added added)

pub returns-then-branch-clause-taken : goal.returns-then-branch-clause-taken
returns-then-branch-clause-taken g c =
    λ rows held.
    let added : c.add.result ≡ Ok true = search rules in
    ids_more c.args.self.now c.add.new.self c.args.place rows (fields_of c.args.table.now.row) c.field-id.result.now c.field-id.ensures (c.add.ensures.added added) held

pub returns-else-branch-clause-why : goal.returns-else-branch-clause-why
returns-else-branch-clause-why g c =
    let there : c.add.result ≡ Ok false = search rules in
    for_id (id_texts c.args.self.now) (at_place (fields_of c.args.table.now.row) (Some c.args.place)) c.args.column (reasons.Doubled c.args.column) c.refused-else-branch.result
    c.refused-else-branch.ensures.reason
    (refl, subst (λ (t : Text). Contains (id_texts c.args.self.now) t) c.field-id.ensures (c.add.ensures.there there))
