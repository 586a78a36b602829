use Rattle.std.proofs.Common.{rules}
use Rattle.std.proofs.lemmas.List.Sorted.{answers_always}
use Rattle.ojp_exchange.proofs.SortFacts.{weak}
use Rattle.ojp_links_mem.proofs.NewFacts.{codes_rise, rising_differ, table_lt, table_order, table_same}
use Rattle.ojp_links_mem.proofs.sorting.sort_tables.Goals as goal

pub returns-clause-rising : goal.returns-clause-rising
returns-clause-rising c =
    let sorted = c.sort_unstable_by.ensures.sorted table_lt (weak table_lt table_same table_order) (answers_always _ _ _ (λ f a r g h. search rules)) in
    record {
      just_these = c.sort_unstable_by.ensures.permutation;
      codes_rise = codes_rise c.args.tables.now.items c.sort_unstable_by.new.self.items c.requires c.sort_unstable_by.ensures.permutation sorted;
    }

pub returns-clause-distinct : goal.returns-clause-distinct
returns-clause-distinct c =
    let sorted = c.sort_unstable_by.ensures.sorted table_lt (weak table_lt table_same table_order) (answers_always _ _ _ (λ f a r g h. search rules)) in
    rising_differ _ (codes_rise c.args.tables.now.items c.sort_unstable_by.new.self.items c.requires c.sort_unstable_by.ensures.permutation sorted)
