use Rattle.std.proofs.Common.{◌∙◌, List, ◌∷◌, ap, subst, sym}
use Rattle.ojp_values.specs.Texts.{Text}
use Rattle.ojp_gtfs_cli.specs.Meanings.{chosen_by, chosen_in}
use Rattle.ojp_gtfs_cli.specs.Words.{AreNoOptions, SaysAs, texts_of}
use Rattle.ojp_gtfs_cli.proofs.WordFacts.{first_words, no_texts, says_none, says_none_last, says_value}
use Rattle.ojp_gtfs_cli.proofs.words.with_first_value.Goals as goal

pub returns-in-None-clause-taken : goal.returns-in-None-clause-taken
returns-in-None-clause-taken c =
    let chosen = chosen_by c.args.options in
    let option = c.args.option.now in
    subst (λ (behind : List Text). AreNoOptions chosen (option ∷ behind)) (sym (no_texts c.args.behind.now c.in-None.ensures.cases)) (says_none_last chosen option c.requires)

pub returns-in-Some-with_value-clause-taken : goal.returns-in-Some-with_value-clause-taken
returns-in-Some-with_value-clause-taken c =
    let chosen = chosen_by c.args.options in
    let more = chosen_by c.in-Some-with_value.more in
    let left = texts_of c.in-Some.left.now in
    let same = first_words c.args.behind.now c.in-Some.left.now c.in-Some.value.now c.as_str.result.now c.in-Some.ensures.cases.0 c.as_str.ensures.value in
    subst (λ (behind : List Text). SaysAs chosen (c.args.option.now ∷ behind) more left) same
    (says_value chosen more c.args.option.now c.as_str.result.now left c.requires (sym c.with_value.ensures ∙ ap chosen_in c.in-Some-with_value.is))

pub returns-in-None-with_value-clause-taken : goal.returns-in-None-with_value-clause-taken
returns-in-None-with_value-clause-taken c =
    let chosen = chosen_by c.args.options in
    let left = texts_of c.in-Some.left.now in
    let same = first_words c.args.behind.now c.in-Some.left.now c.in-Some.value.now c.as_str.result.now c.in-Some.ensures.cases.0 c.as_str.ensures.value in
    subst (λ (behind : List Text). AreNoOptions chosen (c.args.option.now ∷ behind)) same
    (says_none chosen c.args.option.now c.as_str.result.now left c.requires (sym c.with_value.ensures ∙ ap chosen_in c.in-None-with_value.is))
