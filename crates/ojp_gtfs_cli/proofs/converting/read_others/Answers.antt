use Rattle.std.proofs.Common.{◌∙◌, [], ◌∷◌, ◌++◌, List, ap, append_assoc, sym}
use Rattle.ojp_values.specs.Texts.{Text}
use Rattle.ojp_steps.specs.Lent.{lent}
use Rattle.ojp_gtfs_cli.specs.Causes.{OthersFailAs}
use Rattle.ojp_gtfs_cli.specs.Words.{texts_of}
use Rattle.ojp_gtfs_cli.proofs.CauseFacts.{others_fail_behind, passed_on, store_goes_on}
use Rattle.ojp_gtfs_cli.proofs.WordFacts.{first_words}
use Rattle.ojp_gtfs_cli.proofs.converting.read_others.Goals as goal

pub returns-in_err-read_other-clause-cause : goal.returns-in_err-read_other-clause-cause
returns-in_err-read_other-clause-cause g c =
    let store = g.S.Store.seen in
    let report = g.E.Sink.seen in
    let all = texts_of c.args.words.now in
    let rest = texts_of c.words.rest.now in
    let options = c.as_str.result.now ∷ texts_of c.in-Some.behind.now in
    let same = first_words c.words.rest.now c.in-Some.behind.now c.in-Some.option.now c.as_str.result.now c.in-Some.ensures.cases.0 c.as_str.ensures.value in
    let failure = c.in_err-read_other.field-0.0 in
    passed_on c.from_residual.result failure (OthersFailAs all (store c.args.store.now) (store c.read_other.new.store) (lent report c.args.report.now c.read_other.new.report)) c.from_residual.ensures.1
    (others_fail_behind report all c.words.invariant.2.0 rest options (store c.args.store.now) (store c.words.store) (store c.read_other.new.store) c.args.report.now c.words.report c.read_other.new.report failure
    c.words.invariant.2.1 same c.words.invariant.0 c.words.invariant.1 c.in_err-read_other.ensures.cause)

pub words-preserved : goal.words-preserved
words-preserved g c =
    let store = g.S.Store.seen in
    let front = c.words.invariant.2.0 in
    let option = c.as_str.result.now in
    let behind = texts_of c.in-Some.behind.now in
    let same = first_words c.words.rest.now c.in-Some.behind.now c.in-Some.option.now option c.in-Some.ensures.cases.0 c.as_str.ensures.value in (
      store_goes_on (store c.args.store.now) (store c.words.store) (store c.read_other.new.store) c.words.invariant.0 c.in_ok-read_other.ensures.on,
      c.in_ok-read_other.ensures.quiet ∙ c.words.invariant.1,
      (front ++ option ∷ [], c.words.invariant.2.1 ∙ (ap (λ (rest : List Text). front ++ rest) (sym same) ∙ sym (append_assoc front (option ∷ []) behind))),
    )
