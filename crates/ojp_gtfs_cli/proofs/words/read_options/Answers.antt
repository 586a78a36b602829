use Rattle.std.proofs.Common.{List, subst}
use Rattle.ojp_values.specs.Texts.{Text}
use Rattle.ojp_gtfs_cli.specs.Meanings.{chosen_by}
use Rattle.ojp_gtfs_cli.specs.Words.{AreNoOptions, SaysAs, no_options, texts_of}
use Rattle.ojp_gtfs_cli.proofs.WordFacts.{first_words, no_texts, says_just, says_none_on, says_on, says_self}
use Rattle.ojp_gtfs_cli.proofs.words.read_options.Goals as goal

pub options-init : goal.options-init
options-init c = says_self no_options (texts_of c.args.words.now)

pub options-preserved : goal.options-preserved
options-preserved c =
    let chosen = chosen_by c.options.options in
    let more = chosen_by c.in-Some-with_first.more in
    let left = texts_of c.in-Some-with_first.left.now in
    let same = first_words c.options.rest.now c.in-Some.behind.now c.in-Some.option.now c.as_str.result.now c.in-Some.ensures.cases.0 c.as_str.ensures.value in
    says_on no_options chosen more (texts_of c.args.words.now) (texts_of c.options.rest.now) left c.options.invariant
    (subst (λ (rest : List Text). SaysAs chosen rest more left) same c.in-Some-with_first.ensures.taken)

pub returns-in-None : goal.returns-in-None
returns-in-None c =
    let chosen = chosen_by c.options.options in
    let same = first_words c.options.rest.now c.in-Some.behind.now c.in-Some.option.now c.as_str.result.now c.in-Some.ensures.cases.0 c.as_str.ensures.value in
    says_none_on no_options chosen (texts_of c.args.words.now) (texts_of c.options.rest.now) c.options.invariant
    (subst (λ (rest : List Text). AreNoOptions chosen rest) same c.in-None.ensures.taken)

pub returns : goal.returns
returns c =
    let chosen = chosen_by c.options.options in
    says_just (texts_of c.args.words.now) chosen
    (subst (λ (rest : List Text). SaysAs no_options (texts_of c.args.words.now) chosen rest) (no_texts c.options.rest.now c.in_default.ensures.cases) c.options.invariant)
