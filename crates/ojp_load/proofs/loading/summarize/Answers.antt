use Rattle.std.proofs.Common.{List, length, sym, ◌∙◌, subst, ap, arith}
use Rattle.ojp_values.specs.Lists.{Each, Pairwise}
use Rattle.ojp_values.specs.Texts.{Text}
use Rattle.ojp_timetable.specs.TableText.{IsText}
use Rattle.ojp_network.specs.declared.shapes.LoadAsk.{LoadAsk}
use Rattle.ojp_load.specs.Asking.{Counts}
use Rattle.ojp_load.specs.Loads.{IsSummary}
use Rattle.ojp_load.specs.Ready.{IsAccepted, IsGoodAsk}
use Rattle.ojp_load.specs.declared.counting.Summary.{Summary}
use Rattle.ojp_load.proofs.ResultFacts.{if_ok}
use Rattle.ojp_load.proofs.loading.summarize.Goals as goal

pub tables_of-requires : goal.tables_of-requires
tables_of-requires c = subst (Each IsAccepted) (sym (c.as_slice.ensures ∙ c.in_ok-made.ensures.files)) (c.files_are_texts.ensures.accepted c.args.number)

pub open-requires : goal.open-requires
open-requires c =
    c.codes_rise.ensures c.args.number c.in_ok-tables.tables.items
    (subst (λ (fs : List Text). Pairwise IsText fs c.in_ok-tables.tables.items) (c.as_slice.ensures ∙ c.in_ok-made.ensures.files) c.in_ok-tables.ensures)

pub learn-requires : goal.learn-requires
learn-requires c =
    let tables = c.in_ok-tables.tables.items in
    let are = subst (λ (fs : List Text). Pairwise IsText fs tables) (c.as_slice.ensures ∙ c.in_ok-made.ensures.files) c.in_ok-tables.ensures in
    (tables, c.books_join.ensures c.args.number tables are, c.in_ok-links.ensures)

pub count-requires-clause-ready : goal.count-requires-clause-ready
count-requires-clause-ready c =
    let tables = c.in_ok-tables.tables.items in
    let are = subst (λ (fs : List Text). Pairwise IsText fs tables) (c.as_slice.ensures ∙ c.in_ok-made.ensures.files) c.in_ok-tables.ensures in (
      tables,
      c.in_ok-book.ensures tables c.in_ok-links.ensures,
      subst (Each (IsGoodAsk tables)) (sym (c.as_slice-2.ensures ∙ c.in_ok-made.ensures.asks)) (c.asks_are_good.ensures c.args.number tables are).0,
    )

pub count-requires-clause-few : goal.count-requires-clause-few
count-requires-clause-few c =
    let tables = c.in_ok-tables.tables.items in
    let are = subst (λ (fs : List Text). Pairwise IsText fs tables) (c.as_slice.ensures ∙ c.in_ok-made.ensures.files) c.in_ok-tables.ensures in
    let many = (c.asks_are_good.ensures c.args.number tables are).1 in
    omega (arith, many, ap (λ (ls : List LoadAsk). length ls) (c.as_slice-2.ensures ∙ c.in_ok-made.ensures.asks))

pub returns : goal.returns
returns c =
    let tables = c.in_ok-tables.tables.items in
    let are = subst (λ (fs : List Text). Pairwise IsText fs tables) (c.as_slice.ensures ∙ c.in_ok-made.ensures.files) c.in_ok-tables.ensures in
    let all = c.as_slice-2.ensures ∙ c.in_ok-made.ensures.asks in
    let good = subst (Each (IsGoodAsk tables)) (sym all) (c.asks_are_good.ensures c.args.number tables are).0 in
    if_ok (λ (s : Summary). Counts tables c.as_slice-2.result.now s.trips s.seconds) (λ (s : Summary). IsSummary c.args.number s.trips s.seconds) c.count.result
    (λ s h.
    let counts = subst (λ (ls : List LoadAsk). Counts tables ls s.trips s.seconds) all h in
    record { tables = tables; texts = are; told = counts.told; told_of = counts.told_of; trips_are = counts.trips_are; seconds_are = counts.seconds_are })
    (c.count.ensures tables (c.in_ok-book.ensures tables c.in_ok-links.ensures) good)
